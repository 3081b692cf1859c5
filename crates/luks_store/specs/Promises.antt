-- What is promised of the copies that are used.
use Rattle.std.specs.Prelude.{◌≡◌, ◌≢◌, ℕ, ◌*◌, false, List, take, drop, Some, None}
use Rattle.std.specs.Prelude.{Ok, Err}
use Rattle.crash_laws.specs.HeaderAreas.Commits.{begun, ShowsCommit}
use Rattle.crash_laws.specs.HeaderAreas.Headers.{found, Gives, Header, IsHeader, IsLaidOut, Layout}
use Rattle.base_terms.specs.declared.disk_sizes.Sizes.{Sizes}
use Rattle.sector_disk.specs.DiskViews.Views.{view_of_cells}
use Rattle.luks_bin.specs.Copies.{copy_of}
use Rattle.luks_bin.specs.declared.header.BinFault.{BinFault}
use Rattle.luks_store.specs.Copying.Meanings.{header_reader, meaning_of}
use Rattle.luks_rules.specs.Areas.{areas_begin}
use Rattle.luks_store.specs.Commits.{AreGood}
use Rattle.luks_store.specs.Devices.{front_of, IsCertain}
use Rattle.luks_store.specs.Found.{IsWholeAt}
use Rattle.luks_store.specs.Loads.{objects_in, stored_in, IsStored}
use Rattle.luks_store.specs.Used.{copies_in, nearest, no_header}
use Rattle.luks_store.specs.declared.copies.Copies.{Copies}
use Rattle.luks_store.specs.declared.copies.CopyState.TheVariants.{Lacking}
use Rattle.luks_store.specs.declared.copies.HeaderCopy.{HeaderCopy}
use Rattle.luks_store.specs.declared.loaded.Stored.{Stored}
use Rattle.sector_disk.specs.Cells.{Cell}

-- The copy that is used means the header that the bytes have.
abbrev pub UsedIsGiven : Type 0
UsedIsGiven = (bytes : List ℕ) (copies : Copies) → copies_in bytes ≡ Ok copies
    → Gives header_reader bytes (meaning_of copies.used.bytes)

-- It stands where it says, byte for byte.
abbrev pub UsedStands : Type 0
UsedStands = (bytes : List ℕ) (copies : Copies) → copies_in bytes ≡ Ok copies
    → take copies.used.header.hdr_size (drop copies.used.header.hdr_offset bytes)
    ≡ copies.used.bytes

-- Where they have one it is used.
abbrev pub GivenIsUsed : Type 0
GivenIsUsed = (bytes m : List ℕ) → Gives header_reader bytes m
    → (copies : Copies) × (copies_in bytes ≡ Ok copies) × (meaning_of copies.used.bytes ≡ m)

-- Where no copy is valid none stands at any place, and these are the faults at 0 and at the nearest
-- place of a secondary.
abbrev pub NoneStands : Type 0
NoneStands =
    (bytes : List ℕ) (primary secondary : BinFault)
    → copies_in bytes ≡ Err (no_header primary secondary)
    → ((place : ℕ) → found header_reader bytes place ≡ None) × (copy_of 0 bytes ≡ Err primary)
    × (copy_of nearest (drop nearest bytes) ≡ Err secondary)

-- Where copies of one header stand at both places, both are good.
abbrev pub BothAreGood : Type 0
BothAreGood = (bytes m : List ℕ) (copies : Copies) → copies_in bytes ≡ Ok copies
    → found header_reader bytes 0 ≡ Some m → found header_reader bytes (header_reader.size m) ≡ Some m
    → AreGood copies

-- Copies that mean the same hold the same metadata.
abbrev pub MetaByMeaning : Type 0
MetaByMeaning = (a b : HeaderCopy) (at in_place : ℕ) → IsWholeAt at a → IsWholeAt in_place b
    → meaning_of a.bytes ≡ meaning_of b.bytes → objects_in a ≡ objects_in b

-- Bytes that have the header of what was loaded, or of what a commit leaves, hold its metadata.
abbrev pub LoadsByMeaning : Type 0
LoadsByMeaning = (bytes : List ℕ) (stored : Stored) → IsStored stored
    → Gives header_reader bytes (meaning_of stored.copies.used.bytes)
    → (now : Stored) × (stored_in stored.valid.sizes bytes ≡ Ok now) × (now.valid ≡ stored.valid)

-- Bytes that hold a header whose primary stands at 0, whether it is used or older, are read in both
-- copies alone: other bytes that begin with the same ones hold the same header.
abbrev pub FrontsAreLoaded : Type 0
FrontsAreLoaded =
    (sizes : Sizes) (first image : List ℕ) (stored : Stored) → stored_in sizes first ≡ Ok stored
    → stored.copies.primary.state ≢ Lacking
    → take (2 * stored.copies.used.header.hdr_size) image
    ≡ take (2 * stored.copies.used.header.hdr_size) first
    → stored_in sizes image ≡ Ok stored

-- The areas of a header that bytes hold begin where its second copy ends.
abbrev pub AreasBeginBehind : Type 0
AreasBeginBehind = (sizes : Sizes) (bytes : List ℕ) (stored : Stored)
    → stored_in sizes bytes ≡ Ok stored
    → areas_begin stored.valid.meta.config ≡ 2 * stored.copies.used.header.hdr_size

-- A disk that holds its bytes for certain, and in them both copies of the header that they have,
-- shows the beginning of the commit that follows it, whatever this one is. The header that it begins
-- from has the used copy's bytes as its first copy.
abbrev pub CommitsBegin : Type 0
CommitsBegin =
    (sizes : Sizes) (bytes : List ℕ) (cells : List Cell) (stored : Stored) (layout : Layout)
    (to : Header (List ℕ)) → IsCertain sizes bytes cells
    → IsLaidOut sizes.atom sizes.header_atoms stored.copies.used.header.hdr_size layout
    → stored_in sizes (front_of sizes bytes) ≡ Ok stored → AreGood stored.copies
    → (from : Header (List ℕ)) × IsHeader header_reader from
    × (from.means ≡ meaning_of stored.copies.used.bytes)
    × (from.first ≡ stored.copies.used.bytes)
    × ShowsCommit sizes.atom layout from to begun false (view_of_cells cells)
