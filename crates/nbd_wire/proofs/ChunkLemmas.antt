-- The texts of the heads of chunks, and of errors at an offset.
use Rattle.std.proofs.Common.{refl, ◌≡◌, ℕ, ◌^◌, ◌<◌, ◌≤◌, ◌+◌, ◌-◌, List, ◌++◌}
use Rattle.std.proofs.Common.{length, take, drop, ap, ◌∙◌, sym, arith, length-drop, slice_range}
use Rattle.std.proofs.Common.{take_all}
use Rattle.nbd_wire.specs.declared.chunks.ChunkHead.{ChunkHead}
use Rattle.nbd_wire.specs.declared.chunks.ErrorAt.{ErrorAt}
use Rattle.nbd_wire.specs.Chunks.{IsChunkHead, IsError, IsErrorAt, chunk_number, chunk_of}
use Rattle.nbd_wire.specs.Chunks.{chunk_head_text, error_at_text, error_data_text}
use Rattle.nbd_wire.specs.Fields.{u16_text, u32_text, u64_text}
use Rattle.nbd_wire.specs.Magic.{chunk_magic}
use Rattle.nbd_wire.proofs.FieldLemmas.{u16-first, u32-first, u64-first, u32-front, field-behind}
use Rattle.nbd_wire.proofs.FieldLemmas.{nothing-behind}

-- a text is that of one head
pub chunk-once : (a b : ChunkHead) → IsChunkHead a → IsChunkHead b
    → chunk_head_text a ≡ chunk_head_text b → a ≡ b
unfolding chunk_head_text
chunk-once a b ia ib e =
    let magic = u32-first _ _ _ _ (omega arith) (omega arith) e in
    let flags = u16-first _ _ _ _ ia.flags ib.flags magic.1 in
    let chunk = u16-first _ _ _ _ ia.chunk ib.chunk flags.1 in
    let cookie = u64-first _ _ _ _ ia.cookie ib.cookie chunk.1 in
    let size = u32-first _ _ _ _ ia.size ib.size cookie.1 in
    let type : a.chunk ≡ b.chunk = sym ia.named ∙ ap chunk_of chunk.0 ∙ ib.named in
    let same : ◌≡◌ {A = ChunkHead}
    (record {
      flags = record { bits = a.flags.bits };
      chunk = a.chunk;
      cookie = a.cookie;
      length = a.length;
    })
    (record {
      flags = record { bits = b.flags.bits };
      chunk = b.chunk;
      cookie = b.cookie;
      length = b.length;
    }) = cc in
    same

-- the head whose fields stand at their places
pub chunk-there : (bytes : List ℕ) (head : ChunkHead) → length bytes ≡ 20
    → u32_text chunk_magic ≡ slice_range bytes 0 4
    → u16_text head.flags.bits ≡ slice_range bytes 4 6
    → u16_text (chunk_number head.chunk) ≡ slice_range bytes 6 8
    → u64_text head.cookie ≡ slice_range bytes 8 16 → u32_text head.length ≡ slice_range bytes 16 20
    → chunk_head_text head ≡ bytes
unfolding chunk_head_text
chunk-there bytes head size magic flags chunk cookie len =
    field-behind bytes _ _ 0 4 (omega arith) magic (field-behind bytes _ _ 4 6 (omega arith) flags
    (field-behind bytes _ _ 6 8 (omega arith) chunk
    (field-behind bytes _ _ 8 16 (omega arith) cookie
    (field-behind bytes _ _ 16 20 (omega arith) len (nothing-behind bytes 20 size)))))

-- a text has the magic at its front
pub chunk-magic : (bytes : List ℕ) (head : ChunkHead) (n : ℕ) → n < 2 ^ 32
    → chunk_head_text head ≡ bytes → u32_text n ≡ slice_range bytes 0 4 → n ≡ chunk_magic
unfolding chunk_head_text
chunk-magic bytes head n hn e here = u32-front chunk_magic n _ bytes (omega arith) hn e here

-- how long a text is
pub chunk-size : (head : ChunkHead) → length (chunk_head_text head) ≡ 20
unfolding chunk_head_text u16_text u32_text u64_text
chunk-size head = refl

-- errors at an offset
pub error-once : (a b : ErrorAt) → IsErrorAt a → IsErrorAt b → error_at_text a ≡ error_at_text b
    → a ≡ b
unfolding error_at_text
error-once a b ia ib e =
    let error = u32-first _ _ _ _ ia.error.1 ib.error.1 e in
    let none = u16-first _ _ _ _ (omega arith) (omega arith) error.1 in
    let offset = u64-first _ _ _ _ ia.offset ib.offset none.1 in
    let same : ◌≡◌ {A = ErrorAt} (record { error = a.error; offset = a.offset })
    (record { error = b.error; offset = b.offset }) = cc in
    same

pub error-there : (bytes : List ℕ) (found : ErrorAt) → length bytes ≡ 14
    → u32_text found.error ≡ slice_range bytes 0 4 → u16_text 0 ≡ slice_range bytes 4 6
    → u64_text found.offset ≡ slice_range bytes 6 14 → error_at_text found ≡ bytes
unfolding error_at_text
error-there bytes found size error none offset =
    field-behind bytes _ _ 0 4 (omega arith) error
    (field-behind bytes _ _ 4 6 (omega arith) none
    (field-behind bytes _ _ 6 14 (omega arith) offset (nothing-behind bytes 14 size)))

-- the number of an error that a text tells
pub data-once : (a b : ℕ) → IsError a → IsError b → error_data_text a ≡ error_data_text b → a ≡ b
unfolding error_data_text
data-once a b ia ib e = (u32-first a b _ _ ia.1 ib.1 e).0

pub data-there : (bytes : List ℕ) (number : ℕ) → length bytes ≡ 6
    → u32_text number ≡ slice_range bytes 0 4 → u16_text 0 ≡ slice_range bytes 4 6
    → error_data_text number ≡ bytes
unfolding error_data_text
data-there bytes number size error none =
    field-behind bytes _ _ 0 4 (omega arith) error
    (field-behind bytes _ _ 4 6 (omega arith) none (nothing-behind bytes 6 size))

-- the length of the text for people that stands behind a number
pub error-bare : (bytes behind : List ℕ) (number n : ℕ) → n < 2 ^ 16
    → u32_text number ++ (u16_text 0 ++ behind) ≡ bytes → u16_text n ≡ slice_range bytes 4 6 → n ≡ 0
unfolding u32_text
error-bare bytes behind number n hn e here =
    let rest : u16_text 0 ++ behind ≡ drop 4 bytes = ap (drop 4) e in
    (u16-first n 0 (drop 6 bytes) behind hn (omega arith)
    (field-behind bytes (u16_text n) (drop 6 bytes) 4 6 (omega arith) here refl ∙ sym rest)).0

-- the number that stands in a text
pub error-number : (bytes : List ℕ) (found : ErrorAt) (n : ℕ) → IsErrorAt found → n < 2 ^ 32
    → error_at_text found ≡ bytes → u32_text n ≡ slice_range bytes 0 4 → n ≡ found.error
unfolding error_at_text
error-number bytes found n is hn e here = u32-front found.error n _ bytes is.error.1 hn e here

pub data-number : (bytes : List ℕ) (number n : ℕ) → IsError number → n < 2 ^ 32
    → error_data_text number ≡ bytes → u32_text n ≡ slice_range bytes 0 4 → n ≡ number
unfolding error_data_text
data-number bytes number n is hn e here = u32-front number n _ bytes is.1 hn e here

-- an offset, and the bytes behind it
pub content-size : (all bytes : List ℕ) (offset : ℕ) → u64_text offset ++ bytes ≡ all
    → length all ≡ 8 + length bytes
unfolding u64_text
content-size all bytes offset e = omega (arith, ap length e)

pub content-there : (all : List ℕ) (offset : ℕ) → 8 ≤ length all
    → u64_text offset ≡ slice_range all 0 8
    → u64_text offset ++ take (length all - 8) (drop 8 all) ≡ all
content-there all offset long here =
    field-behind all (u64_text offset) _ 0 8 (omega (arith, long)) here
    (take_all (length all - 8) (drop 8 all) (omega (arith, length-drop 8 all)))
