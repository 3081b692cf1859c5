-- The device calls of an opening, in their order.
use Rattle.std.specs.Prelude.{◌≡◌, ◌⊎◌, ◌/◌, length, Option, Some, None, Result, Ok, Err}
use Rattle.base_terms.specs.declared.failed.Failed.{Failed}
use Rattle.sector_disk.specs.JoinedDisks.Joined.{Joint, joined_disk}
use Rattle.luks_store.specs.Copying.Held.{copy_in, place_in}
use Rattle.luks_store.specs.Copying.Steps.{RepairCall}
use Rattle.luks_store.specs.declared.header_copies.repair.Repair.{Repair}
use Rattle.luks_store.specs.declared.header_copies.repair.RepairStage.TheVariants.{Broken, Written}
use Rattle.luks_store.specs.Commits.{AreGood, Repairs}
use Rattle.luks_store.specs.Devices.{IsUnwritten, KeepsBytes}
use Rattle.luks_store.specs.declared.copies.Copies.{Copies}
use Rattle.sector_disk.specs.Cells.{AreSized}
use Rattle.sector_disk.specs.Devices.{Device, SyncCall, failed_call, succeeded}
use Rattle.sector_disk.specs.Geometry.{IsInDisk}
use Rattle.sector_disk.specs.Steps.{Told}

-- ---- the repair
-- which repair a header asks for: none where both copies are good
abbrev pub IsRepairFor : Copies → Option Repair → Type 0
IsRepairFor copies None = AreGood copies
IsRepairFor copies (Some repair) = Repairs copies repair

-- the copy that it writes lies on the disk
abbrev pub RepairFits : Device → Repair → Type 0
RepairFits device repair =
    IsInDisk device.size device.atoms (place_in repair / device.size) (length (copy_in repair))

-- its write
abbrev pub WritesRepair : Repair → Device → Device → Result (Unit {0}) Failed → Type 0
WritesRepair repair old new result =
    RepairCall Broken (copy_in repair) (place_in repair) old new result

-- each candidate of the table that it tells has an atom's bytes, as the law of each disk says
abbrev pub TellsSized : Device → Type 0
TellsSized device = (told : Told) → device.told ≡ Some told → AreSized device.size told.now

-- The write was done, and the sync that follows it was done or failed.
pub record SyncsRepair (repair : Repair) (old new : Device) (result : Result (Unit {0}) Failed) :
    Type 0 where
  pub written : Device
  pub write : WritesRepair repair old written succeeded
  pub sized : TellsSized written
  pub sync : RepairCall Written (copy_in repair) (place_in repair) written new result

-- Its calls, of which the last one was done or failed; there is none where no repair is asked for.
abbrev pub RepairRun : Option Repair → Device → Device → Result (Unit {0}) Failed → Type 0
RepairRun None old new (Ok done) = new ≡ old
RepairRun None old new (Err failed) = ⊥
RepairRun (Some repair) old new (Ok done) = SyncsRepair repair old new succeeded
RepairRun (Some repair) old new (Err failed) =
    WritesRepair repair old new failed_call ⊎ SyncsRepair repair old new failed_call

-- ---- the opening
-- A sync that was done, and then the reads of the header, by which nothing is written.
pub record SyncsAndReads (old read : Joint) : Type 0 where
  pub synced : Joint
  pub sync : SyncCall (joined_disk old) (joined_disk synced) succeeded
  pub unwritten : IsUnwritten synced read

-- Then the repair's calls.
pub record OpeningRun (repair : Option Repair) (old : Joint) (new : Device)
    (result : Result (Unit {0}) Failed) : Type 0 where
  pub read : Joint
  pub first : SyncsAndReads old read
  pub run : RepairRun repair (joined_disk read) new result

-- ---- the same calls of one disk, of whatever kind
-- A sync that was done, and then calls by which nothing is written.
pub record DiskSyncsAndReads (old read : Device) : Type 0 where
  pub synced : Device
  pub sync : SyncCall old synced succeeded
  pub unwritten : KeepsBytes synced read

-- Then the repair's calls.
pub record DiskOpeningRun (repair : Option Repair) (old new : Device)
    (result : Result (Unit {0}) Failed) : Type 0 where
  pub read : Device
  pub first : DiskSyncsAndReads old read
  pub run : RepairRun repair read new result
