-- The chunks of a structured reply ("Structured reply chunk message" and "Structured reply types"
-- of the NBD protocol document).
use Rattle.std.specs.Prelude.{ℕ, ◌≡◌, ◌<◌, ◌^◌, ◌+◌, ◌==◌, if◌then◌else◌, List, [], ◌∷◌}
use Rattle.nbd_wire.specs.declared.chunks.ChunkHead.{ChunkHead}
use Rattle.nbd_wire.specs.declared.chunks.ChunkType.{ChunkType}
use Rattle.nbd_wire.specs.declared.chunks.ChunkType.TheVariants.{Nothing, OffsetData, Error}
use Rattle.nbd_wire.specs.declared.chunks.ChunkType.TheVariants.{ErrorOffset, Other}
use Rattle.nbd_wire.specs.declared.chunks.ErrorAt.{ErrorAt}
use Rattle.nbd_wire.specs.Fields.{message, u16_text, u32_text, u64_text}
use Rattle.nbd_wire.specs.Magic.{chunk_magic}

-- the number of each type
abbrev pub chunk_number : ChunkType → ℕ
chunk_number Nothing = 0
chunk_number OffsetData = 1
chunk_number Error = 2 ^ 15 + 1
chunk_number ErrorOffset = 2 ^ 15 + 2
chunk_number (Other number) = number

-- the type of a number: by its name where it has one
abbrev pub chunk_of : ℕ → ChunkType
chunk_of n =
    if n == 0 then Nothing
    else (if n == 1 then OffsetData
    else (if n == 2 ^ 15 + 1 then Error
    else (if n == 2 ^ 15 + 2 then ErrorOffset
    else Other n)))

-- The fields are in their ranges, and a type that has a name goes by it.
pub record IsChunkHead (head : ChunkHead) : Type 0 where
  pub flags : head.flags.bits < 2 ^ 16
  pub chunk : chunk_number head.chunk < 2 ^ 16
  pub named : chunk_of (chunk_number head.chunk) ≡ head.chunk
  pub cookie : head.cookie < 2 ^ 64
  pub size : head.length < 2 ^ 32

-- u32 magic, u16 flags, u16 type, u64 cookie, u32 length
unfoldable pub chunk_head_text : ChunkHead → List ℕ
chunk_head_text head =
    message (u32_text chunk_magic ∷ u16_text head.flags.bits ∷ u16_text (chunk_number head.chunk)
    ∷ u64_text head.cookie ∷ u32_text head.length ∷ [])

-- the number of an error in a chunk, which is never 0
abbrev pub IsError : ℕ → Type 0
IsError number = (0 < number) × (number < 2 ^ 32)

-- the data of an ERROR: u32 error, u16 length of a text for people, which isn't there
unfoldable pub error_data_text : ℕ → List ℕ
error_data_text error = message (u32_text error ∷ u16_text 0 ∷ [])

-- that of an ERROR_OFFSET: the same, and the u64 offset in the export where it came
pub record IsErrorAt (at : ErrorAt) : Type 0 where
  pub error : IsError at.error
  pub offset : at.offset < 2 ^ 64

unfoldable pub error_at_text : ErrorAt → List ℕ
error_at_text at = message (u32_text at.error ∷ u16_text 0 ∷ u64_text at.offset ∷ [])
