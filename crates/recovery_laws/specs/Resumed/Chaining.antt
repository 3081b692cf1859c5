-- What a stop of a conversion leaves, as the next opening begins with it.
use Rattle.std.specs.Prelude.{ℕ, ◌≡◌, ◌⊎◌, ◌++◌, true, List, Some, Ok}
use Rattle.base_terms.specs.Blocks.{joined}
use Rattle.base_terms.specs.declared.disk_sizes.Sizes.{Sizes}
use Rattle.hotzone.specs.Sites.{IsSaved}
use Rattle.sector_disk.specs.JoinedDisks.Counts.{HasSizes}
use Rattle.luks_rules.specs.Segments.{in_progress}
use Rattle.luks_store.specs.Devices.{front_of}
use Rattle.luks_store.specs.Loads.{stored_in}
use Rattle.luks_store.specs.declared.loaded.Stored.{Stored}
use Rattle.image_laws.specs.Opened.Images.{ImageStandsUnder}
use Rattle.reenc_recovery.specs.Images.{StandsUnder}
use Rattle.reenc_recovery.specs.Placings.{RestsIn}
use Rattle.reenc_worker.specs.declared.ends.WorkAnswer.{WorkAnswer}
use Rattle.recovery_laws.specs.Resumed.Resuming.{both_of}
use Rattle.recovery_laws.specs.Resumed.Starts.{BeginsBehind, volume_seals}
use Rattle.sector_disk.specs.Devices.{Device}
use Rattle.sector_disk.specs.Geometry.{IsDisk}
use Rattle.sector_disk.specs.Steps.{Told}
use Rattle.volume_laws.specs.Handing.{handed_over}
use Rattle.volume_laws.specs.Imaging.{IsTaken}
use Rattle.volume_machine.specs.Deeds.{Deed, state_after}
use Rattle.volume_machine.specs.States.{State}
use Rattle.volume_machine.specs.declared.keys.Keys.{Keys}
use Rattle.volume_laws.specs.WorkerRuns.Steps.{HasWorked}
use Rattle.hotzone.specs.ZoneEvents.Heads.{header_on}
use Rattle.hotzone.specs.ZoneEvents.Readings.{reading_of}

-- a conversion is under way by the header that an image has
abbrev pub GoesOnIn : Sizes → List ℕ → Type 0
GoesOnIn sizes image = (stored : Stored) → stored_in sizes (front_of sizes image) ≡ Ok stored
    → in_progress stored.valid.meta.config ≡ true

-- By its header the conversion goes on, and the image stands for the content under the keys of the sides,
-- whether a zone is open or not; or nothing is being converted any more, and it does so under the new
-- side's.
abbrev pub StandsAgain : Sizes → List ℕ → List ℕ → List ℕ → List (List ℕ) → Type 0
StandsAgain sizes old new image content =
    (ImageStandsUnder sizes old new image content × GoesOnIn sizes image)
    ⊎ (StandsUnder sizes new new image content × RestsIn sizes image)

-- disks of these sizes as one, that of the header and that of the volume, or one disk with both
pub record AreDisks (sizes : Sizes) (device : Device) : Type 0 where
  pub has : HasSizes sizes device
  pub disk : IsDisk device.size device.atoms

-- A volume begins behind a header by whose conversion something is saved of the blocks of zones, the old
-- atoms or digests of them, on disks that stand for a content. Wherever its worker stops each image in
-- which no copy is torn or hidden stands for that content by its own header: so it is one from which the
-- next opening begins.
abbrev pub StopsStandAgain : {C : Type 0} → (C → ℕ) → (C → ℕ → List ℕ → List ℕ)
    → (C → ℕ → List ℕ → List ℕ) → Type 0
StopsStandAgain {C} sector sealed opened =
    (sizes : Sizes) (header : Stored) (lanes : ℕ) (old_key new_key bytes : List ℕ)
    (volume after : State (Keys C)) (content : List (List ℕ)) (answers : List WorkAnswer)
    → (begins : BeginsBehind sector sealed opened sizes header lanes old_key new_key bytes volume)
    → StandsUnder sizes old_key new_key bytes content → AreDisks sizes volume.disk
    → IsSaved begins.now.conversion.resilience
    → (worked : HasWorked (reading_of sizes) (volume_seals sealed opened volume) volume after answers)
    → (earlier later : List (Deed (Keys C))) → worked.deeds ≡ earlier ++ later → (told : Told)
    → (state_after volume earlier).disk.told ≡ Some told → (image : List (List ℕ))
    → IsTaken (reading_of sizes) (state_after volume earlier)
    (handed_over volume (both_of (header_on header)) earlier) told.now image
    → StandsAgain sizes old_key new_key (joined image) content
