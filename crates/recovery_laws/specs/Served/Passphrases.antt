-- What a stop leaves, under the passphrase, of a volume that clients use while its conversion goes on;
-- and of one that is stopped, taken up and used again any number of times.
use Rattle.std.specs.Prelude.{ℕ, ◌≡◌, ◌<◌, List, Some}
use Rattle.base_terms.specs.Blocks.{joined}
use Rattle.resume_disk.specs.OpenedMidway.Openings.{IsOpenedOf}
use Rattle.base_terms.specs.declared.disk_sizes.Sizes.{Sizes}
use Rattle.sector_disk.specs.DiskViews.Parts.{value_in}
use Rattle.hotzone.specs.Sites.{IsSaved}
use Rattle.sector_disk.specs.JoinedDisks.Joined.{Joint}
use Rattle.luks_store.specs.declared.loaded.Stored.{Stored}
use Rattle.plain_disk.specs.Plain.{Block, Exchange, Legal, settled_blocks}
use Rattle.reenc_recovery.specs.Images.{StandsFor}
use Rattle.reenc_recovery.specs.declared.keys.SideKeys.{SideKeys}
use Rattle.recovery_laws.specs.Resumed.Chaining.{AreDisks}
use Rattle.recovery_laws.specs.Resumed.Passphrases.{AreGiven, StandsAgainFor}
use Rattle.recovery_laws.specs.Resumed.Repeating.{MayLeave, Tells}
use Rattle.recovery_laws.specs.Resumed.Resuming.{both_of}
use Rattle.recovery_laws.specs.Resumed.Starts.{BeginsBehind, volume_seals}
use Rattle.sector_disk.specs.Steps.{Told}
use Rattle.volume_laws.specs.Contents.{IsAllowedAt}
use Rattle.volume_laws.specs.Converting.{IsInOrder}
use Rattle.volume_laws.specs.Handing.{handed_over}
use Rattle.volume_laws.specs.Imaging.{IsTaken}
use Rattle.volume_machine.specs.Answers.{AreExchanges}
use Rattle.volume_machine.specs.Deeds.{AreDeeds, Deed, answered_over, plain_over, state_after}
use Rattle.volume_machine.specs.Runs.{no_plain}
use Rattle.volume_machine.specs.Seals.{Seals}
use Rattle.volume_machine.specs.States.{State}
use Rattle.volume_machine.specs.declared.keys.Keys.{Keys}
use Rattle.hotzone.specs.ZoneEvents.Heads.{header_on}
use Rattle.hotzone.specs.ZoneEvents.Readings.{reading_of}

-- ---- behind deeds
-- The operations that these deeds answered leave a plain disk so, and each block has a value that it
-- allows.
abbrev pub IsAllowed : {K : Type 0} → State K → Seals → List (Deed K) → List Block → List (List ℕ)
    → Type 0
IsAllowed volume seals deeds left held =
    (b : ℕ) → b < (state_after volume deeds).map.blocks
    → IsAllowedAt (state_after volume deeds) (plain_over seals volume no_plain deeds) left b
    (value_in held b)

-- A volume begins behind a header by whose conversion something is saved of the blocks of zones, under the
-- keys that the keyslots give to a passphrase under which its disks stand for a content. Behind any
-- deeds of clients and of the worker each image stands, by its own header and under the same passphrase,
-- for a content that is allowed.
abbrev pub DeedsStandAgainFor : {C : Type 0} → (C → ℕ) → (C → ℕ → List ℕ → List ℕ)
    → (C → ℕ → List ℕ → List ℕ) → Type 0
DeedsStandAgainFor {C} sector sealed opened =
    (sizes : Sizes) (header : Stored) (lanes : ℕ) (pass bytes : List ℕ) (volume : State (Keys C))
    (content : List (List ℕ)) (deeds : List (Deed (Keys C))) (exchanges : List Exchange)
    (left : List Block) → (stands : StandsFor sizes pass bytes content)
    → (begins : BeginsBehind sector sealed opened sizes header lanes stands.old stands.new bytes volume)
    → AreDisks sizes volume.disk → IsSaved begins.now.conversion.resilience
    → AreDeeds (reading_of sizes) (volume_seals sealed opened volume) volume deeds
    → AreExchanges (answered_over (volume_seals sealed opened volume) volume no_plain deeds) exchanges
    → Legal volume.map.atom (settled_blocks content) exchanges left
    → (told : Told) → (state_after volume deeds).disk.told ≡ Some told → (image : List (List ℕ))
    → IsTaken (reading_of sizes) (state_after volume deeds)
    (handed_over volume (both_of (header_on header)) deeds) told.now image
    → (held : List (List ℕ)) × StandsAgainFor sizes pass (joined image) held
    × IsAllowed volume (volume_seals sealed opened volume) deeds left held

-- ---- one time
-- A volume was opened under these keys on disks that told these bytes, and clients used it while its
-- worker led the conversion on, or didn't. It was stopped behind these deeds, and this image is left.
pub record IsUsed {C : Type 0} (sector : C → ℕ) (sealed opened : C → ℕ → List ℕ → List ℕ)
    (sizes : Sizes) (handed : SideKeys) (first image : List ℕ) : Type 0 where
  pub lanes : ℕ
  pub old : Joint
  pub volume : State (Keys C)
  pub tells : Tells sizes old first
  pub is : IsOpenedOf sector sealed opened sizes handed lanes old volume
  pub order : IsInOrder (reading_of sizes) volume
  pub disks : AreDisks sizes volume.disk
  pub deeds : List (Deed (Keys C))
  pub are : AreDeeds (reading_of sizes) (volume_seals sealed opened volume) volume deeds
  pub exchanges : List Exchange
  pub answered : AreExchanges
      (answered_over (volume_seals sealed opened volume) volume no_plain deeds) exchanges
  pub told : Told
  pub is_told : (state_after volume deeds).disk.told ≡ Some told
  pub values : List (List ℕ)
  pub taken : IsTaken (reading_of sizes) (state_after volume deeds)
      (handed_over volume (both_of (header_on is.led.last)) deeds) told.now values
  pub left : image ≡ joined values

-- From the one content its operations lead to the other: they are legal on the plain disk that held the
-- one for certain, and allow each value of the other.
abbrev pub LeadsTo : {C : Type 0} {sector : C → ℕ} {sealed opened : C → ℕ → List ℕ → List ℕ}
    {sizes : Sizes} {handed : SideKeys} {first image : List ℕ}
    → IsUsed sector sealed opened sizes handed first image → List (List ℕ) → List (List ℕ) → Type 0
LeadsTo {C} {sector} {sealed} {opened} used content held =
    (left : List Block)
    × Legal used.volume.map.atom (settled_blocks content) used.exchanges left
    × IsAllowed used.volume (volume_seals sealed opened used.volume) used.deeds left held

-- ---- any number of times
-- From some bytes on a volume in the middle of its conversion was opened and stopped, time after time,
-- each time under the keys that the keyslots give to the passphrase: while it was opened, or led on alone,
-- or while clients used it. Once it is at its end only openings follow that come to nothing.
pub data Lives {C : Type 0} (sector : C → ℕ) (sealed opened : C → ℕ → List ℕ → List ℕ)
    (sizes : Sizes) (pass first : List ℕ) : List ℕ → Type 0 where
  begun : Lives sector sealed opened sizes pass first first
  resumed : (handed : SideKeys) (between image : List ℕ)
      → Lives sector sealed opened sizes pass first between → AreGiven sizes pass handed between
      → MayLeave sector sealed opened sizes handed between image
      → Lives sector sealed opened sizes pass first image
  used : (handed : SideKeys) (between image : List ℕ)
      → Lives sector sealed opened sizes pass first between → AreGiven sizes pass handed between
      → IsUsed sector sealed opened sizes handed between image
      → Lives sector sealed opened sizes pass first image

-- a content that is allowed from another one on: each time that clients used it their operations lead
-- from what it stood for then, and nothing else changes it
unfoldable pub ComesFrom : {C : Type 0} {sector : C → ℕ}
    {sealed opened : C → ℕ → List ℕ → List ℕ} {sizes : Sizes} {pass first image : List ℕ}
    → Lives sector sealed opened sizes pass first image → List (List ℕ) → List (List ℕ) → Type 0
ComesFrom begun content held = held ≡ content
ComesFrom (resumed handed between image lives given left) content held = ComesFrom lives content held
ComesFrom (used handed between image lives given by) content held =
    (before : List (List ℕ)) × ComesFrom lives content before × LeadsTo by before held

-- What is left stands, under the passphrase, for a content that comes so from the one for which the first
-- bytes stood.
abbrev pub UsedAnyNumberOfTimes : {C : Type 0} → (C → ℕ) → (C → ℕ → List ℕ → List ℕ)
    → (C → ℕ → List ℕ → List ℕ) → Type 0
UsedAnyNumberOfTimes {C} sector sealed opened =
    (sizes : Sizes) (pass first image : List ℕ) (content : List (List ℕ))
    → StandsAgainFor sizes pass first content
    → (lives : Lives sector sealed opened sizes pass first image)
    → (held : List (List ℕ)) × ComesFrom lives content held
    × StandsAgainFor sizes pass image held
