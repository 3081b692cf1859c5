-- The chunks of a reply to a READ ("Structured reply chunk message" and "Structured reply types" of
-- the NBD protocol document).
use Rattle.std.specs.Prelude.{ℕ, ◌+◌, ◌^◌, ◌<◌, Bool, true, false, List, [], ◌∷◌, ◌++◌, length}
use Rattle.nbd_wire.specs.declared.chunks.ChunkHead.{ChunkHead}
use Rattle.nbd_wire.specs.declared.chunks.ChunkType.{ChunkType}
use Rattle.nbd_wire.specs.declared.chunks.ChunkType.TheVariants.{Nothing, OffsetData, Error}
use Rattle.nbd_wire.specs.declared.chunks.ChunkType.TheVariants.{ErrorOffset}
use Rattle.std.specs.Coded.{Unit-prop, le_prop, ×_prop}
use Rattle.nbd_wire.specs.Chunks.{IsError, chunk_head_text, error_data_text, error_at_text}
use Rattle.nbd_wire.specs.Fields.{u64_text}

-- What a chunk holds: nothing, bytes at an offset, the number of an error, or that and the offset
-- where it came. Offsets count from the start of the export.
pub data Held : Type 0 where
  nothing : Held
  bytes_at : ℕ → List ℕ → Held
  failed : ℕ → Held
  failed_at : ℕ → ℕ → Held

-- a chunk, and whether it says that it is the last one of its reply
pub record Part : Type 0 where
  pub done : Bool
  pub held : Held

-- the data of a chunk
abbrev pub held_text : Held → List ℕ
held_text nothing = []
held_text (bytes_at offset bytes) = u64_text offset ++ bytes
held_text (failed number) = error_data_text number
held_text (failed_at number offset) = error_at_text (record { error = number; offset = offset })

-- their length
abbrev pub held_length : Held → ℕ
held_length nothing = 0
held_length (bytes_at offset bytes) = 8 + length bytes
held_length (failed number) = 6
held_length (failed_at number offset) = 14

abbrev pub type_of : Held → ChunkType
type_of nothing = Nothing
type_of (bytes_at offset bytes) = OffsetData
type_of (failed number) = Error
type_of (failed_at number offset) = ErrorOffset

abbrev pub bits_of : Bool → ℕ
bits_of true = 1
bits_of false = 0

-- the head of a chunk under a cookie
abbrev pub head_of : ℕ → Part → ChunkHead
head_of cookie part = record {
  flags = record { bits = bits_of part.done };
  chunk = type_of part.held;
  cookie = cookie;
  length = held_length part.held;
}

-- a chunk under a cookie: its head and its data
unfoldable pub part_text : ℕ → Part → List ℕ
part_text cookie part = chunk_head_text (head_of cookie part) ++ held_text part.held

-- the chunks of a reply under a cookie, one behind the other
unfoldable pub parts_text : ℕ → List Part → List ℕ
parts_text cookie [] = []
parts_text cookie (part ∷ parts) = part_text cookie part ++ parts_text cookie parts

-- the bytes of the export that a chunk holds
abbrev pub bytes_of : Held → List ℕ
bytes_of nothing = []
bytes_of (bytes_at offset bytes) = bytes
bytes_of (failed number) = []
bytes_of (failed_at number offset) = []

-- the numbers of a chunk are in their ranges
abbrev pub IsHeld : Held → Type 0
IsHeld nothing = Unit {0}
IsHeld (bytes_at offset bytes) = (offset < 2 ^ 64) × (8 + length bytes < 2 ^ 32)
IsHeld (failed number) = IsError number
IsHeld (failed_at number offset) = IsError number × (offset < 2 ^ 64)

pub held-prop : (held : Held) → IsProp (IsHeld held)
held-prop nothing = Unit-prop
held-prop (bytes_at offset bytes) = ×_prop le_prop le_prop
held-prop (failed number) = ×_prop le_prop le_prop
held-prop (failed_at number offset) = ×_prop (×_prop le_prop le_prop) le_prop

unfoldable pub AreHeld : List Part → Type 0
AreHeld [] = Unit {0}
AreHeld (part ∷ parts) = IsHeld part.held × AreHeld parts
