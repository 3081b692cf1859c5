-- The fields of a message: unsigned numbers, their highest byte first.
use Rattle.std.specs.Prelude.{ℕ, List, [], ◌∷◌, ◌++◌}
use Rattle.std.specs.Int.{w16, w32, w64, to_be_bytes}

-- a number of two, four and eight bytes
unfoldable pub u16_text : ℕ → List ℕ
u16_text n = to_be_bytes w16 n

unfoldable pub u32_text : ℕ → List ℕ
u32_text n = to_be_bytes w32 n

unfoldable pub u64_text : ℕ → List ℕ
u64_text n = to_be_bytes w64 n

-- a message of these fields, one after the other
abbrev pub message : List (List ℕ) → List ℕ
message [] = []
message (field ∷ fields) = field ++ message fields
