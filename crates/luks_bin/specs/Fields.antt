-- The fields of a copy, and the numbers in them, their highest byte first.
use Rattle.std.specs.Prelude.{ℕ, ◌==◌, List, [], ◌∷◌, take, drop, Bool}
use Rattle.std.specs.Int.{w16, w64, from_be_bytes}
use Rattle.std.specs.List.{list_any}

-- so many bytes from one on
unfoldable pub field : ℕ → ℕ → List ℕ → List ℕ
field at len bytes = take len (drop at bytes)

unfoldable pub u16_in : ℕ → List ℕ → ℕ
u16_in at bytes = from_be_bytes w16 (field at 2 bytes)

unfoldable pub u64_in : ℕ → List ℕ → ℕ
u64_in at bytes = from_be_bytes w64 (field at 8 bytes)

-- the bytes of a copy, its JSON area included
abbrev pub sizes : List ℕ
sizes = 16384 ∷ 32768 ∷ 65536 ∷ 131072 ∷ 262144 ∷ 524288 ∷ 1048576 ∷ 2097152 ∷ 4194304 ∷ []

unfoldable pub is_size : ℕ → Bool
is_size n = list_any (λ size. size == n) sizes
