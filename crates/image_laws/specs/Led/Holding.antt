-- Disks that hold their bytes for certain, and the tables that they tell.
use Rattle.std.specs.Prelude.{ℕ, ◌≡◌, ◌++◌, List, Option, Some, Ok}
use Rattle.std.specs.List.{All}
use Rattle.base_terms.specs.declared.disk_sizes.Sizes.{Sizes}
use Rattle.hotzone.specs.Promises.{TellsAlike}
use Rattle.luks_store.specs.Copying.Meanings.{meaning_of}
use Rattle.luks_store.specs.Commits.{AreGood}
use Rattle.luks_store.specs.Devices.{IsCertain, front_of}
use Rattle.luks_store.specs.Loads.{stored_in}
use Rattle.luks_store.specs.declared.loaded.Stored.{Stored}
use Rattle.reenc_recovery.specs.Calls.{TellsSized}
use Rattle.sector_disk.specs.Cells.{Cell}
use Rattle.sector_disk.specs.Devices.{Device}
use Rattle.sector_disk.specs.Steps.{Told}

-- what each disk has by its laws: it tells its table and its bytes alike, and each candidate has an
-- atom's bytes
pub record TellsLawfully (device : Device) : Type 0 where
  pub alike : TellsAlike device
  pub sized : TellsSized device

-- The disk holds these bytes, for certain where it tells its table, and in them both copies of a
-- header that says what this one says.
pub record HoldsHeader (sizes : Sizes) (header : Stored) (bytes : List ℕ) (device : Device)
    : Type 0 where
  pub values : device.values ≡ Some bytes
  pub stored : Stored
  pub held : stored_in sizes (front_of sizes bytes) ≡ Ok stored
  pub same : stored.valid ≡ header.valid
  pub means : meaning_of stored.copies.used.bytes ≡ meaning_of header.copies.used.bytes
  pub good : AreGood stored.copies
  pub certain : (told : Told) → device.told ≡ Some told → IsCertain sizes bytes told.now

-- some tables more than before, of each of which this holds; and of the one at hand
pub record HoldsSince (Holds : List Cell → Type 0) (before now : Told) : Type 0 where
  pub more : List (Option ℕ × List Cell)
  pub past : now.past ≡ before.past ++ more
  pub each : All (λ table. Holds table.1) more
  pub last : Holds now.now

-- where a disk tells its tables, it told them before, and this holds of each since
abbrev pub TellsOn : (List Cell → Type 0) → Device → Device → Type 0
TellsOn Holds old new = (now : Told) → new.told ≡ Some now
    → (before : Told) × (old.told ≡ Some before) × HoldsSince Holds before now
