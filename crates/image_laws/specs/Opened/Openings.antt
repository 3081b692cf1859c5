-- An opening of a header, whatever it says of a conversion: what stands at
-- each of its calls, and behind the last one.
use Rattle.std.specs.Prelude.{ℕ, ◌≡◌, ◌++◌, ◌∷◌, List, map, Option, Some, Ok}
use Rattle.std.specs.List.{All}
use Rattle.base_terms.specs.Blocks.{joined}
use Rattle.base_terms.specs.declared.disk_sizes.Sizes.{Sizes}
use Rattle.luks_store.specs.Copying.Meanings.{meaning_of}
use Rattle.luks_store.specs.Commits.{AreGood}
use Rattle.luks_store.specs.Devices.{IsCertain, front_of}
use Rattle.luks_store.specs.Loads.{stored_in}
use Rattle.luks_store.specs.declared.loaded.Stored.{Stored}
use Rattle.image_laws.specs.Opened.Images.{KeepsImage}
use Rattle.reenc_recovery.specs.Images.{HoldsOn}
use Rattle.reenc_recovery.specs.Tables.{IsSpared}
use Rattle.sector_disk.specs.Cells.{Cell, content, synced}
use Rattle.sector_disk.specs.Devices.{Device}
use Rattle.sector_disk.specs.Steps.{Told}

-- Once all its calls were done the disk holds for certain the header that it held, of which both
-- copies are good and mean what was read, and behind both copies what it had there; and it stands
-- for what it stood for, also where a zone is open.
pub record IsMendedImage (sizes : Sizes) (header : Stored) (first : List ℕ) (device : Device)
    : Type 0 where
  pub now : List ℕ
  pub values : device.values ≡ Some now
  pub holds : HoldsOn sizes header first now
  pub keeps : KeepsImage sizes first now
  pub good : AreGood holds.stored.copies
  pub means : meaning_of holds.stored.copies.used.bytes ≡ meaning_of header.copies.used.bytes
  pub certain : (told : Told) → device.told ≡ Some told → IsCertain sizes now told.now

-- ---- at each of its calls
-- an image holds the metadata that these bytes hold, and what they have behind both copies, and
-- stands for what they stand for
pub record StandsOn (sizes : Sizes) (header : Stored) (first now : List ℕ) : Type 0 where
  pub holds : HoldsOn sizes header first now
  pub keeps : KeepsImage sizes first now

-- so does each image of a table in which no torn copy of the header is valid
abbrev pub KeepsStill : Sizes → List ℕ → List Cell → Type 0
KeepsStill sizes first cells =
    (stored : Stored) → stored_in sizes (front_of sizes first) ≡ Ok stored
    → (image : List (List ℕ)) → IsSpared sizes stored cells image
    → StandsOn sizes stored first (joined image)

-- The tables since an opening began: that of its first sync, by which each atom is certain, and then
-- some of which each image stands for what the bytes of the disk stood for; so does each of the
-- table at hand.
pub record KeepsSince (sizes : Sizes) (before now : Told) : Type 0 where
  pub more : List (Option ℕ × List Cell)
  pub past : now.past ≡ before.past ++ (before.mark, map synced before.now) ∷ more
  pub each : All (λ table. KeepsStill sizes (content before.now) table.1) more
  pub last : KeepsStill sizes (content before.now) now.now

-- where a disk tells its tables, it told them when the opening began
abbrev pub TellsKept : Sizes → Device → Device → Type 0
TellsKept sizes old new = (now : Told) → new.told ≡ Some now
    → (before : Told) × (old.told ≡ Some before) × KeepsSince sizes before now
