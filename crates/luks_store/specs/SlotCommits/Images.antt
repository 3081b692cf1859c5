-- What the bytes of a disk hold while a new keyslot is written, and the header that names it.
use Rattle.std.specs.Prelude.{ℕ, ◌≡◌, ◌⊎◌, List, [], ◌∷◌, ◌++◌, length, take, drop, Ok}
use Rattle.base_terms.specs.Blocks.{joined}
use Rattle.crash_laws.specs.HeaderAreas.Commits.{HasPast}
use Rattle.crash_laws.specs.HeaderAreas.Headers.{Handed, Header, IsGenuine, text_of}
use Rattle.base_terms.specs.declared.disk_sizes.Sizes.{Sizes}
use Rattle.luks_store.specs.Copying.Meanings.{header_of, header_reader}
use Rattle.luks_rules.specs.Areas.{areas_begin}
use Rattle.luks_store.specs.Devices.{front_of}
use Rattle.luks_store.specs.Loads.{stored_in}
use Rattle.luks_store.specs.declared.loaded.Stored.{Stored}
use Rattle.sector_disk.specs.Cells.{Cell, IsImage}
use Rattle.luks_store.specs.SlotCommits.Agreements.{AgreesBut}
use Rattle.luks_store.specs.SlotCommits.Calls.{primary_in, secondary_in}
use Rattle.luks_store.specs.declared.slot_commit.writing.SlotCommit.{SlotCommit}

-- a header that was loaded, and the one that is written, as the laws of copies name them
abbrev pub header_in : Stored → Header (List ℕ)
header_in stored = header_of stored.copies.used.bytes stored.copies.used.bytes

abbrev pub next_header : SlotCommit → Header (List ℕ)
next_header slot = header_of (primary_in slot) (secondary_in slot)

-- some texts of copies, and besides those of a header
abbrev pub handed_with : Header (List ℕ) → Handed → Handed
handed_with header handed copy = handed copy ++ text_of header copy ∷ []

-- An image of a table in which no torn copy of a header is valid: a copy that is valid at a copy's
-- place is the one that is written there, or one of some texts that mean the header from before or
-- an older one; and nothing else in front of the secondary is a copy.
pub record IsSpared (sizes : Sizes) (stored : Stored) (slot : SlotCommit) (cells : List Cell)
    (image : List (List ℕ)) : Type 0 where
  pub is : IsImage cells image
  pub handed : Handed
  pub past : HasPast header_reader (header_in stored) handed
  pub genuine : IsGenuine header_reader stored.copies.used.header.hdr_size
      (handed_with (next_header slot) handed) (front_of sizes (joined image))

-- ---- what they hold
-- Behind the copies of a header that stood before, bytes are what they were, but for the keyslot's
-- area.
abbrev pub KeepsRest : Stored → SlotCommit → List ℕ → List ℕ → Type 0
KeepsRest before slot first now =
    AgreesBut (areas_begin before.valid.meta.config) slot.area_offset (length slot.area) first now

-- the keyslot's area stands
abbrev pub AreaStands : SlotCommit → List ℕ → Type 0
AreaStands slot now = take (length slot.area) (drop slot.area_offset now) ≡ slot.area

-- the metadata of a header are loaded from bytes
pub record HoldsMetadata (sizes : Sizes) (header : Stored) (bytes : List ℕ) : Type 0 where
  pub stored : Stored
  pub held : stored_in sizes (front_of sizes bytes) ≡ Ok stored
  pub same : stored.valid ≡ header.valid

-- the metadata from before, whatever stands in the keyslot's area
pub record IsBefore (sizes : Sizes) (before : Stored) (slot : SlotCommit) (first now : List ℕ) :
    Type 0 where
  pub metadata : HoldsMetadata sizes before now
  pub rest : KeepsRest before slot first now

-- the next metadata, and the keyslot's area
pub record IsBehind (sizes : Sizes) (before next : Stored) (slot : SlotCommit)
    (first now : List ℕ) : Type 0 where
  pub metadata : HoldsMetadata sizes next now
  pub area : AreaStands slot now
  pub rest : KeepsRest before slot first now

-- Each such image is one of the two.
abbrev pub IsEither : Sizes → Stored → Stored → SlotCommit → List ℕ → List Cell → Type 0
IsEither sizes before next slot first cells =
    (image : List (List ℕ)) → IsSpared sizes before slot cells image
    → IsBefore sizes before slot first (joined image)
    ⊎ IsBehind sizes before next slot first (joined image)
