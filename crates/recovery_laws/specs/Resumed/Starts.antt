-- How the runs of a volume begin whose conversion is taken up again.
use Rattle.std.specs.Prelude.{ℕ, ◌≡◌, List, Some}
use Rattle.resume_disk.specs.OpenedMidway.Openings.{armed_volume}
use Rattle.crash_laws.specs.HeaderAreas.Headers.{Layout}
use Rattle.base_terms.specs.declared.disk_sizes.Sizes.{Sizes}
use Rattle.luks_rules.specs.Shapes.{progress_of}
use Rattle.luks_rules.specs.declared.shape.Progress.{Progress}
use Rattle.luks_store.specs.declared.loaded.Stored.{Stored}
use Rattle.plain_disk.specs.Plain.{settled_blocks}
use Rattle.reenc_meta.specs.ConversionMaps.{IsMapAt}
use Rattle.reenc_recovery.specs.Images.{StandsUnder}
use Rattle.recovery_laws.specs.Resumed.Keeping.{HoldsBoth}
use Rattle.volume_laws.specs.Converting.{IsInOrder, StartsCertain, StartsUnder}
use Rattle.volume_laws.specs.Promises.{TellsWhole}
use Rattle.volume_machine.specs.Seals.{Seals, seals_of}
use Rattle.volume_machine.specs.States.{State}
use Rattle.volume_machine.specs.Works.{converting}
use Rattle.volume_machine.specs.declared.keys.Keys.{Keys}
use Rattle.hotzone.specs.ZoneEvents.Heads.{header_on}
use Rattle.hotzone.specs.ZoneEvents.Readings.{reading_of}
use Rattle.hotzone.specs.ZoneEvents.Works.{layout_for}
use Rattle.image_laws.specs.Led.Keys.{AreCiphersOf}

-- where the copies of a header lie, and how the keys of a volume seal its blocks
abbrev pub layout_on : Sizes → Stored → Layout
layout_on sizes header = layout_for sizes.atom header.copies.used.header.hdr_size

abbrev pub volume_seals : {C : Type 0} → (C → ℕ → List ℕ → List ℕ) → (C → ℕ → List ℕ → List ℕ)
    → State (Keys C) → Seals
volume_seals sealed opened volume = seals_of sealed opened volume.map.atom volume.keys

-- A volume of so many lanes, with nothing under way, has what its conversion takes, behind this
-- header, both copies of which its disk holds for certain. It lies where the header says, and its keys
-- are the ciphers of the whole segments of the sides under these ones.
pub record BeginsBehind {C : Type 0} (sector : C → ℕ) (sealed opened : C → ℕ → List ℕ → List ℕ)
    (sizes : Sizes) (header : Stored) (lanes : ℕ) (old_key new_key bytes : List ℕ)
    (volume : State (Keys C)) : Type 0 where
  pub armed : volume ≡ armed_volume header lanes volume
  pub order : IsInOrder (reading_of sizes) volume
  pub sizes_are : header.valid.sizes ≡ sizes
  pub now : Progress
  pub known : progress_of header.valid.meta sizes ≡ Some now
  pub map : IsMapAt sizes now volume.map
  pub keys : AreCiphersOf sector sealed opened now old_key new_key volume.keys
  pub holds : HoldsBoth sizes header bytes volume.disk
  pub whole : TellsWhole volume

-- Runs start from it as from the plain disk that holds for certain the content that the bytes of its
-- disk stand for.
abbrev pub BegunConversionsStart : {C : Type 0} → (C → ℕ) → (C → ℕ → List ℕ → List ℕ)
    → (C → ℕ → List ℕ → List ℕ) → Type 0
BegunConversionsStart {C} sector sealed opened =
    (sizes : Sizes) (header : Stored) (lanes : ℕ) (old_key new_key bytes : List ℕ)
    (volume : State (Keys C)) (content : List (List ℕ))
    → BeginsBehind sector sealed opened sizes header lanes old_key new_key bytes volume
    → StandsUnder sizes old_key new_key bytes content
    → StartsUnder (reading_of sizes) (layout_on sizes header) (header_on header) converting volume
    (volume_seals sealed opened volume) (settled_blocks content) bytes
    × StartsCertain (layout_on sizes header) (header_on header) volume
    (volume_seals sealed opened volume) (settled_blocks content)
