-- The state of FIPS 197, section 3.4, and the transformations of sections 5.1 and 5.3 on it. A
-- state is a list of 16 bytes, column after column: row r of column c is byte r + 4 * c.
use Rattle.std.specs.Prelude.{ℕ, ◌+◌, ◌-◌, ◌*◌, ◌%◌, List, [], ◌∷◌, slice_index, bit_xor}
use Rattle.aes_core.specs.Field.{times}
use Rattle.aes_core.specs.Boxes.{s_box, inverse_s_box}

-- the byte in row r of column c, both counted modulo 4
abbrev pub byte_at : List ℕ → ℕ → ℕ → ℕ
byte_at s r c = slice_index s (r % 4 + 4 * (c % 4))

-- the state with f r c in row r of column c
abbrev pub state_of : (ℕ → ℕ → ℕ) → List ℕ
state_of f =
    f 0 0 ∷ f 1 0 ∷ f 2 0 ∷ f 3 0
    ∷ f 0 1 ∷ f 1 1 ∷ f 2 1 ∷ f 3 1
    ∷ f 0 2 ∷ f 1 2 ∷ f 2 2 ∷ f 3 2
    ∷ f 0 3 ∷ f 1 3 ∷ f 2 3 ∷ f 3 3 ∷ []

-- SubBytes (5.1.1)
unfoldable pub sub_bytes : List ℕ → List ℕ
sub_bytes s = state_of (λ r c. s_box (byte_at s r c))

-- ShiftRows: row r moves r columns to the left (5.1.2)
unfoldable pub shift_rows : List ℕ → List ℕ
shift_rows s = state_of (λ r c. byte_at s r (c + r))

-- each column times the word a0, a1, a2, a3 (4.3)
unfoldable pub multiply_columns : ℕ → ℕ → ℕ → ℕ → List ℕ → List ℕ
multiply_columns a0 a1 a2 a3 s = state_of (λ r c.
    bit_xor (bit_xor (times a0 (byte_at s r c)) (times a3 (byte_at s (r + 1) c)))
    (bit_xor (times a2 (byte_at s (r + 2) c)) (times a1 (byte_at s (r + 3) c))))

-- MixColumns (5.1.3)
abbrev pub mix_columns : List ℕ → List ℕ
mix_columns s = multiply_columns 0x02 0x01 0x01 0x03 s

-- AddRoundKey (5.1.4)
unfoldable pub add_round_key : List ℕ → List ℕ → List ℕ
add_round_key s k = state_of (λ r c. bit_xor (byte_at s r c) (byte_at k r c))

-- InvShiftRows: row r moves r columns to the right (5.3.1)
unfoldable pub inverse_shift_rows : List ℕ → List ℕ
inverse_shift_rows s = state_of (λ r c. byte_at s r (c + 4 - r))

-- InvSubBytes (5.3.2)
unfoldable pub inverse_sub_bytes : List ℕ → List ℕ
inverse_sub_bytes s = state_of (λ r c. inverse_s_box (byte_at s r c))

-- InvMixColumns (5.3.3)
abbrev pub inverse_mix_columns : List ℕ → List ℕ
inverse_mix_columns s = multiply_columns 0x0e 0x09 0x0d 0x0b s
