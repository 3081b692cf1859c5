-- What a disk holds once a copy of its header that lacked or was older is written anew.
use Rattle.std.specs.Prelude.{ℕ, ◌≡◌, List, Option, Some}
use Rattle.base_terms.specs.declared.disk_sizes.Sizes.{Sizes}
use Rattle.sector_disk.specs.JoinedDisks.Joined.{Joint, joined_disk}
use Rattle.luks_store.specs.Copying.Meanings.{meaning_of}
use Rattle.luks_store.specs.declared.header_copies.repair.Repair.{Repair}
use Rattle.luks_store.specs.Commits.{AreGood}
use Rattle.luks_store.specs.Devices.{IsCertain}
use Rattle.luks_store.specs.declared.loaded.Stored.{Stored}
use Rattle.reenc_meta.specs.declared.placement.Placement.{Placement}
use Rattle.reenc_recovery.specs.Calls.{DiskOpeningRun, OpeningRun}
use Rattle.reenc_recovery.specs.Images.{StandsAs}
use Rattle.reenc_recovery.specs.Tables.{IsFoundOn, ShowsSizes}
use Rattle.sector_disk.specs.Devices.{Device, succeeded}
use Rattle.sector_disk.specs.Steps.{Told}

-- It holds for certain the header that it held, of which both copies are good and mean what was
-- read, and it stands for what it stood for.
pub record IsMended (sizes : Sizes) (header : Stored) (first : List ℕ) (device : Device) : Type 0
  where
    pub now : List ℕ
    pub values : device.values ≡ Some now
    pub stands : StandsAs sizes header first now
    pub good : AreGood stands.holds.stored.copies
    pub means : meaning_of stands.holds.stored.copies.used.bytes
        ≡ meaning_of header.copies.used.bytes
    pub certain : (told : Told) → device.told ≡ Some told → IsCertain sizes now told.now

-- So it is once all calls of an opening were done, up to the last one of the repair.
abbrev pub OpeningsMend : Type 0
OpeningsMend =
    (sizes : Sizes) (header : Stored) (p : Placement) (repair : Option Repair) (old : Joint)
    (new : Device) → ShowsSizes sizes (joined_disk old)
    → IsFoundOn sizes header p repair (joined_disk old) → ShowsSizes sizes new
    → OpeningRun repair old new succeeded → (first : List ℕ)
    → (joined_disk old).values ≡ Some first → IsMended sizes header first new

-- so it is once all the same calls of one disk were done
abbrev pub DiskOpeningsMend : Type 0
DiskOpeningsMend =
    (sizes : Sizes) (header : Stored) (p : Placement) (repair : Option Repair) (old new : Device)
    → ShowsSizes sizes old → IsFoundOn sizes header p repair old → ShowsSizes sizes new
    → DiskOpeningRun repair old new succeeded → (first : List ℕ) → old.values ≡ Some first
    → IsMended sizes header first new
