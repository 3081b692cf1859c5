-- What a stop leaves of a volume that clients use while its conversion goes on.
use Rattle.std.specs.Prelude.{ℕ, ◌≡◌, ◌<◌, List, Some}
use Rattle.base_terms.specs.Blocks.{joined}
use Rattle.base_terms.specs.declared.disk_sizes.Sizes.{Sizes}
use Rattle.sector_disk.specs.DiskViews.Parts.{value_in}
use Rattle.hotzone.specs.Sites.{IsSaved}
use Rattle.luks_store.specs.declared.loaded.Stored.{Stored}
use Rattle.plain_disk.specs.Plain.{Block, Exchange, Legal, settled_blocks}
use Rattle.reenc_recovery.specs.Images.{StandsUnder}
use Rattle.recovery_laws.specs.Resumed.Chaining.{AreDisks, StandsAgain}
use Rattle.recovery_laws.specs.Resumed.Resuming.{both_of}
use Rattle.recovery_laws.specs.Resumed.Starts.{BeginsBehind, volume_seals}
use Rattle.sector_disk.specs.Steps.{Told}
use Rattle.volume_laws.specs.Contents.{IsAllowedAt}
use Rattle.volume_laws.specs.Handing.{handed_over}
use Rattle.volume_laws.specs.Imaging.{IsTaken}
use Rattle.volume_machine.specs.Answers.{AreExchanges}
use Rattle.volume_machine.specs.Deeds.{AreDeeds, Deed, answered_over, plain_over, state_after}
use Rattle.volume_machine.specs.Runs.{no_plain}
use Rattle.volume_machine.specs.Seals.{Seals}
use Rattle.volume_machine.specs.States.{State}
use Rattle.volume_machine.specs.declared.keys.Keys.{Keys}
use Rattle.hotzone.specs.ZoneEvents.Heads.{header_on}
use Rattle.hotzone.specs.ZoneEvents.Readings.{reading_of}

-- The operations that were answered by these deeds are legal on the plain disk that held the content for
-- certain; and each image that is taken of what the disk may hold stands by its own header for a content
-- in which each block has a value that they allow.
pub record StandsBeside {K : Type 0} (sizes : Sizes) (header : Stored) (old_key new_key : List ℕ)
    (volume : State K) (seals : Seals) (content : List (List ℕ)) (deeds : List (Deed K))
    (exchanges : List Exchange) : Type 0 where
  pub left : List Block
  pub legal : Legal volume.map.atom (settled_blocks content) exchanges left
  pub images : (told : Told) → (state_after volume deeds).disk.told ≡ Some told
      → (image : List (List ℕ)) → IsTaken (reading_of sizes) (state_after volume deeds)
      (handed_over volume (both_of (header_on header)) deeds) told.now image
      → (held : List (List ℕ)) × StandsAgain sizes old_key new_key (joined image) held
      × ((b : ℕ) → b < (state_after volume deeds).map.blocks
      → IsAllowedAt (state_after volume deeds) (plain_over seals volume no_plain deeds) left b
      (value_in held b))

-- So it is behind any deeds of a volume that begins behind a header by whose conversion something is saved
-- of the blocks of zones, the old atoms or digests of them, on disks that stand for the content.
abbrev pub DeedsStandAgain : {C : Type 0} → (C → ℕ) → (C → ℕ → List ℕ → List ℕ)
    → (C → ℕ → List ℕ → List ℕ) → Type 0
DeedsStandAgain {C} sector sealed opened =
    (sizes : Sizes) (header : Stored) (lanes : ℕ) (old_key new_key bytes : List ℕ)
    (volume : State (Keys C)) (content : List (List ℕ)) (deeds : List (Deed (Keys C)))
    (exchanges : List Exchange)
    → (begins : BeginsBehind sector sealed opened sizes header lanes old_key new_key bytes volume)
    → StandsUnder sizes old_key new_key bytes content → AreDisks sizes volume.disk
    → IsSaved begins.now.conversion.resilience
    → AreDeeds (reading_of sizes) (volume_seals sealed opened volume) volume deeds
    → AreExchanges (answered_over (volume_seals sealed opened volume) volume no_plain deeds) exchanges
    → StandsBeside sizes header old_key new_key volume (volume_seals sealed opened volume) content deeds
    exchanges
