-- Eight blocks in bit planes: plane i has bit i of each byte. Row r of column c of a state lies at
-- place 4 * r + c of a plane, and bit k there is block k's.
use Rattle.std.specs.Prelude.{ℕ, ◌+◌, ◌*◌, ◌%◌, List, [], ◌∷◌, slice_index, bit_xor}
use Rattle.std.specs.Int.{bit_at}
use Rattle.aes_core.specs.Boxes.{byte_of_bits}
use Rattle.aes_core.specs.State.{byte_at, state_of}
use Rattle.aes_core.specs.declared.plane.Plane.{Plane}
use Rattle.aes_core.specs.declared.planes.Planes.{Planes}

-- block k's bit at place p
unfoldable pub bit_in : ℕ → ℕ → Plane → ℕ
bit_in k p plane = bit_at (slice_index plane.0 p) k

-- block k's bits at place p, the lowest first
abbrev pub bits_in : ℕ → ℕ → Planes → List ℕ
bits_in k p x =
    bit_in k p x.b0 ∷ bit_in k p x.b1 ∷ bit_in k p x.b2 ∷ bit_in k p x.b3
    ∷ bit_in k p x.b4 ∷ bit_in k p x.b5 ∷ bit_in k p x.b6 ∷ bit_in k p x.b7 ∷ []

-- the list of f 0, .., f 7
abbrev pub listed : (ℕ → ℕ) → List ℕ
listed f = f 0 ∷ f 1 ∷ f 2 ∷ f 3 ∷ f 4 ∷ f 5 ∷ f 6 ∷ f 7 ∷ []

-- the bits of a byte, the lowest first
unfoldable pub bits_of : ℕ → List ℕ
bits_of v = listed (bit_at v)

-- the byte with these bits
abbrev pub byte_from : List ℕ → ℕ
byte_from bits = byte_of_bits (λ i. slice_index bits i)

-- block k's byte at place p
unfoldable pub byte_in : ℕ → ℕ → Planes → ℕ
byte_in k p x = byte_from (bits_in k p x)

-- where row r of column c lies, both counted modulo 4
abbrev pub place : ℕ → ℕ → ℕ
place r c = 4 * (r % 4) + c % 4

-- the state of block k
unfoldable pub state_in : ℕ → Planes → List ℕ
state_in k x = state_of (λ r c. byte_in k (place r c) x)

-- each byte plus 63 hexadecimal, the constant of the affine transformation
unfoldable pub translated : List ℕ → List ℕ
translated s = state_of (λ r c. bit_xor (byte_at s r c) 0x63)
