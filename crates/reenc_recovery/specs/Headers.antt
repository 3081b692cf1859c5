-- What an opening leaves of a header, whatever it says of a conversion: the tables that its calls
-- leave, and what the disk holds once all were done.
use Rattle.std.specs.Prelude.{ℕ, ◌≡◌, ◌*◌, ◌≤◌, List, Option, Some, Ok, Result}
use Rattle.base_terms.specs.declared.failed.Failed.{Failed}
use Rattle.base_terms.specs.declared.disk_sizes.Sizes.{Sizes}
use Rattle.sector_disk.specs.JoinedDisks.Joined.{Joint, joined_disk}
use Rattle.luks_store.specs.declared.header_copies.repair.Repair.{Repair}
use Rattle.luks_rules.specs.Areas.{areas_begin, header_bytes}
use Rattle.luks_store.specs.Devices.{front_of}
use Rattle.luks_store.specs.Loads.{IsStored, stored_in}
use Rattle.luks_store.specs.declared.loaded.Stored.{Stored}
use Rattle.reenc_recovery.specs.Calls.{DiskOpeningRun, IsRepairFor, OpeningRun, TellsSized}
use Rattle.reenc_recovery.specs.Images.{HoldsOn, KeepsContents}
use Rattle.reenc_recovery.specs.Mended.{IsMended}
use Rattle.reenc_recovery.specs.Tables.{ShowsSizes, TellsSince}
use Rattle.sector_disk.specs.Devices.{Device, succeeded}

-- A header that was loaded, and the repair that it asks for: it is the one that the disk holds, where
-- the disk tells what it holds. Nothing is asked of where it places the volume.
pub record IsFoundHeader (sizes : Sizes) (header : Stored) (repair : Option Repair)
    (device : Device) : Type 0 where
  pub stored : IsStored header
  pub sizes_are : header.valid.sizes ≡ sizes
  pub begin : areas_begin header.valid.meta.config ≡ 2 * header.copies.used.header.hdr_size
  pub room : 2 * header.copies.used.header.hdr_size ≤ header_bytes sizes
  pub asked : IsRepairFor header.copies repair
  pub held : (all : List ℕ) → device.values ≡ Some all
      → stored_in sizes (front_of sizes all) ≡ Ok header

-- What is written in front of the keyslots' areas leaves what the bytes of the disk stand for, as
-- long as the header says the same.
abbrev pub FrontsKeep : Sizes → Stored → Device → Type 0
FrontsKeep sizes header device =
    (first : List ℕ) → device.values ≡ Some first → (now : List ℕ)
    → HoldsOn sizes header first now → KeepsContents sizes first now

-- Then the tables are as they are said to be of an opening after each call of the repair, done or
-- failed.
abbrev pub OpeningsKeepHeaders : Type 0
OpeningsKeepHeaders =
    (sizes : Sizes) (header : Stored) (repair : Option Repair) (old : Joint) (new : Device)
    (result : Result (Unit {0}) Failed) → ShowsSizes sizes (joined_disk old)
    → IsFoundHeader sizes header repair (joined_disk old)
    → FrontsKeep sizes header (joined_disk old) → OpeningRun repair old new result
    → TellsSized new → TellsSince sizes (joined_disk old) new

abbrev pub DiskOpeningsKeepHeaders : Type 0
DiskOpeningsKeepHeaders =
    (sizes : Sizes) (header : Stored) (repair : Option Repair) (old new : Device)
    (result : Result (Unit {0}) Failed) → ShowsSizes sizes old
    → IsFoundHeader sizes header repair old → FrontsKeep sizes header old
    → DiskOpeningRun repair old new result → TellsSized new → TellsSince sizes old new

-- And once all its calls were done the disk holds that header for certain.
abbrev pub AnyOpeningsMend : Type 0
AnyOpeningsMend =
    (sizes : Sizes) (header : Stored) (repair : Option Repair) (old : Joint) (new : Device)
    → ShowsSizes sizes (joined_disk old) → IsFoundHeader sizes header repair (joined_disk old)
    → FrontsKeep sizes header (joined_disk old) → ShowsSizes sizes new
    → OpeningRun repair old new succeeded → (first : List ℕ)
    → (joined_disk old).values ≡ Some first → IsMended sizes header first new

abbrev pub AnyDiskOpeningsMend : Type 0
AnyDiskOpeningsMend =
    (sizes : Sizes) (header : Stored) (repair : Option Repair) (old new : Device)
    → ShowsSizes sizes old → IsFoundHeader sizes header repair old
    → FrontsKeep sizes header old → ShowsSizes sizes new
    → DiskOpeningRun repair old new succeeded → (first : List ℕ) → old.values ≡ Some first
    → IsMended sizes header first new
