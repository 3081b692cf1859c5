-- A volume in the middle of its conversion as its clients use it, while nothing more is converted.
use Rattle.std.specs.Prelude.{ℕ, ◌≡◌, List, None, Some}
use Rattle.base_terms.specs.declared.disk_sizes.Sizes.{Sizes}
use Rattle.image_laws.specs.Opened.Images.{ImageStandsUnder}
use Rattle.plain_disk.specs.Plain.{settled_blocks}
use Rattle.reenc_recovery.specs.Images.{StandsUnder}
use Rattle.reenc_recovery.specs.declared.keys.SideKeys.{SideKeys}
use Rattle.recovery_laws.specs.Resumed.Keeping.{AreHandedIn}
use Rattle.recovery_laws.specs.Resumed.Starts.{volume_seals}
use Rattle.sector_disk.specs.Devices.{Device}
use Rattle.volume_laws.specs.Promises.{Starts, StartsCovered}
use Rattle.volume_machine.specs.Runs.{Happening}
use Rattle.volume_machine.specs.States.{State}
use Rattle.volume_machine.specs.declared.keys.Keys.{Keys}

-- ---- the volume
-- The volume without what its conversion takes. No event of a client asks for that, or changes it, so
-- this is what their runs begin with: a volume whose blocks lie on both sides of the boundary, and stay
-- there.
abbrev pub without_work : {K : Type 0} → State K → State K
without_work volume = record volume { work = None }

-- the same event, which left the same of the volume
abbrev pub happening_without_work : {K : Type 0} → Happening K → Happening K
happening_without_work one = record {
  event = one.event;
  outcome = one.outcome;
  after = without_work one.after;
}

-- ---- what it stands for
-- The disk told these bytes when it was handed in, which stand for a content under these keys. Where a
-- conversion is under way by their header, they are the ones that were found for its sides.
pub record StoodFor (sizes : Sizes) (found : SideKeys) (device : Device)
    (first old_key new_key : List ℕ) (content : List (List ℕ)) : Type 0 where
  pub told : device.values ≡ Some first
  pub handed_in : AreHandedIn sizes found first old_key new_key
  pub stands : ImageStandsUnder sizes old_key new_key first content

-- What the disk holds now stands for this content under these keys, with no zone open; and runs start
-- from the volume as from the plain disk that holds the content for certain. Where the disk tells its
-- tables, each image of the one at hand stands for the same.
pub record StartsFor {C : Type 0} (sealed opened : C → ℕ → List ℕ → List ℕ) (sizes : Sizes)
    (old_key new_key : List ℕ) (content : List (List ℕ)) (volume : State (Keys C)) : Type 0 where
  pub now : List ℕ
  pub stands : StandsUnder sizes old_key new_key now content
  pub starts : Starts (without_work volume) (volume_seals sealed opened volume)
      (settled_blocks content) now
  pub covered : StartsCovered (without_work volume) (volume_seals sealed opened volume)
      (settled_blocks content)
