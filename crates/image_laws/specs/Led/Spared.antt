-- Images in which no torn copy of a header is valid while one header follows another.
use Rattle.std.specs.Prelude.{ℕ, ◌≡◌, ◌⊎◌, List, Some, Contains}
use Rattle.base_terms.specs.Blocks.{joined}
use Rattle.crash_laws.specs.HeaderAreas.Commits.{IsOlder}
use Rattle.crash_laws.specs.HeaderAreas.Headers.{Copy, Handed, IsGenuine, byte_of}
use Rattle.base_terms.specs.declared.disk_sizes.Sizes.{Sizes}
use Rattle.luks_store.specs.Copying.Meanings.{header_reader, meaning_of}
use Rattle.luks_store.specs.Devices.{front_of}
use Rattle.luks_store.specs.declared.loaded.Stored.{Stored}
use Rattle.sector_disk.specs.Cells.{Cell, IsImage}

-- texts handed to the copies' places, as far as they are copies, mean the one header, an older one,
-- or the other
abbrev pub SayOneOf : Stored → Stored → Handed → Type 0
SayOneOf header next handed =
    (copy : Copy) (text m : List ℕ) → Contains (handed copy) text
    → header_reader.decode (byte_of header.copies.used.header.hdr_size copy) text ≡ Some m
    → (m ≡ meaning_of header.copies.used.bytes)
    ⊎ (IsOlder header_reader (meaning_of header.copies.used.bytes) m
    ⊎ (m ≡ meaning_of next.copies.used.bytes))

-- An image of a table in which no torn copy of either header is valid: a copy that is valid at a
-- copy's place is one of some texts that mean the one, an older one or the other, and nothing else
-- in front of the secondary is a copy.
pub record IsSparedTurn (sizes : Sizes) (header next : Stored) (cells : List Cell)
    (image : List (List ℕ)) : Type 0 where
  pub is : IsImage cells image
  pub handed : Handed
  pub say : SayOneOf header next handed
  pub genuine : IsGenuine header_reader header.copies.used.header.hdr_size handed
      (front_of sizes (joined image))
