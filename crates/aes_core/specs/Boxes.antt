-- The substitution boxes of FIPS 197, sections 5.1.1 and 5.3.2, as functions of a byte.
use Rattle.std.specs.Prelude.{ℕ, ◌+◌, ◌*◌, ◌%◌}
use Rattle.std.specs.Int.{bit_at}
use Rattle.aes_core.specs.Field.{inverse}

-- the byte whose bit i is f i
abbrev pub byte_of_bits : (ℕ → ℕ) → ℕ
byte_of_bits f = f 0 + 2 * f 1 + 4 * f 2 + 8 * f 3 + 16 * f 4 + 32 * f 5 + 64 * f 6 + 128 * f 7

-- the affine transformation: bit i is the sum of the bits i, i + 4, .., i + 7 of b, their places
-- taken modulo 8, and of bit i of 63 hexadecimal (5.1.1)
abbrev pub affine : ℕ → ℕ
affine b = byte_of_bits (λ i. (bit_at b i + bit_at b ((i + 4) % 8) + bit_at b ((i + 5) % 8)
    + bit_at b ((i + 6) % 8) + bit_at b ((i + 7) % 8) + bit_at 0x63 i) % 2)

-- its inverse: bit i is the sum of the bits i + 2, i + 5 and i + 7, and of bit i of 05 hexadecimal
abbrev pub inverse_affine : ℕ → ℕ
inverse_affine b = byte_of_bits (λ i. (bit_at b ((i + 2) % 8) + bit_at b ((i + 5) % 8)
    + bit_at b ((i + 7) % 8) + bit_at 0x05 i) % 2)

-- the S-box (5.1.1)
unfoldable pub s_box : ℕ → ℕ
s_box b = affine (inverse b)

-- the inverse of the S-box (5.3.2)
unfoldable pub inverse_s_box : ℕ → ℕ
inverse_s_box b = inverse (inverse_affine b)
