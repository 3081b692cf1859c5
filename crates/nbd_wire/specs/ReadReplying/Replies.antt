-- What the chunks of a reply to a READ spell, and which chunks a reply is put in ("Structured
-- replies" of the NBD protocol document).
use Rattle.std.specs.Prelude.{ℕ, zero, suc, ◌≡◌, ◌⊎◌, ◌+◌, ◌-◌, ◌/◌, ◌^◌, ◌<◌, Bool, true, false}
use Rattle.std.specs.Prelude.{List, [], ◌∷◌, ◌++◌, length, map, take, drop}
use Rattle.std.specs.Coded.{le_prop, ×_prop}
use Rattle.nbd_wire.specs.Chunks.{IsError}
use Rattle.nbd_wire.specs.ReadReplying.Parts.{Held, Part, nothing, bytes_at, failed, failed_at}

-- what a READ comes to: the bytes of its range, or an error, with or without the offset where it
-- came
pub data Answer : Type 0 where
  content : List ℕ → Answer
  error : ℕ → Answer
  error_at : ℕ → ℕ → Answer

-- "done" stands on the last chunk alone
unfoldable pub IsDoneOnce : List Part → Type 0
IsDoneOnce [] = ⊥
IsDoneOnce (part ∷ []) = part.done ≡ true
IsDoneOnce (part ∷ (next ∷ parts)) = (part.done ≡ false) × IsDoneOnce (next ∷ parts)

-- these hold the bytes from an offset on, in order and each byte once, and each holds some
unfoldable pub Covers : ℕ → List ℕ → List Held → Type 0
Covers offset bytes [] = bytes ≡ []
Covers offset bytes (held ∷ helds) =
    (front : List ℕ) × (rest : List ℕ) × (bytes ≡ front ++ rest) × (0 < length front)
    × (held ≡ bytes_at offset front) × Covers (offset + length front) rest helds

-- an answer is held: its bytes or, of none, by one chunk that holds nothing; or its error, by one
abbrev pub Hold : ℕ → List Held → Answer → Type 0
Hold offset helds (content bytes) =
    ((bytes ≡ []) × (helds ≡ nothing ∷ []))
    ⊎ ((0 < length bytes) × Covers offset bytes helds)
Hold offset helds (error number) = helds ≡ failed number ∷ []
Hold offset helds (error_at number at) = helds ≡ failed_at number at ∷ []

-- the chunks spell the answer to a READ from an offset on: all bytes of a content, which has as
-- many as the READ asked for where the answer is that READ's
pub record Spell (offset : ℕ) (parts : List Part) (answer : Answer) : Type 0 where
  pub done : IsDoneOnce parts
  pub hold : Hold offset (map (λ part. part.held) parts) answer

-- so many parts of `most` bytes from an offset on, and the rest as the last one
unfoldable pub parts_of : ℕ → ℕ → ℕ → List ℕ → List Part
parts_of zero most offset bytes = record { done = true; held = bytes_at offset bytes } ∷ []
parts_of (suc n) most offset bytes =
    record { done = false; held = bytes_at offset (take most bytes) }
    ∷ parts_of n most (offset + most) (drop most bytes)

-- how many parts of a MiB come before the last one, which has a byte at least; none where all is to
-- be in one chunk
abbrev pub parts_before : Bool → ℕ → ℕ
parts_before true len = 0
parts_before false len = (len - 1) / 2 ^ 20

-- the chunks of the answer to a READ from an offset on, which may want all in one
unfoldable pub chunks_of : (whole : Bool) (offset : ℕ) → Answer → List Part
chunks_of whole offset (content []) = record { done = true; held = nothing } ∷ []
chunks_of whole offset (content (byte ∷ bytes)) =
    parts_of (parts_before whole (length (byte ∷ bytes))) (2 ^ 20) offset (byte ∷ bytes)
chunks_of whole offset (error number) = record { done = true; held = failed number } ∷ []
chunks_of whole offset (error_at number at) =
    record { done = true; held = failed_at number at } ∷ []

-- the numbers of an answer are in their ranges: a content ends within 2^64, and fits into one chunk
abbrev pub IsAnswer : ℕ → Answer → Type 0
IsAnswer offset (content bytes) = (offset + length bytes < 2 ^ 64) × (8 + length bytes < 2 ^ 32)
IsAnswer offset (error number) = IsError number
IsAnswer offset (error_at number at) = IsError number × (at < 2 ^ 64)

pub answer-prop : (offset : ℕ) (answer : Answer) → IsProp (IsAnswer offset answer)
answer-prop offset (content bytes) = ×_prop le_prop le_prop
answer-prop offset (error number) = ×_prop le_prop le_prop
answer-prop offset (error_at number at) = ×_prop (×_prop le_prop le_prop) le_prop
