-- The field GF(2^8) of FIPS 197, section 4. A byte is a number below 256, and its bit i is the
-- coefficient of x^i; a sum of two bytes is `bit_xor` (4.1).
use Rattle.std.specs.Prelude.{ℕ, zero, suc, ◌*◌, ◌/◌, ◌%◌, ◌==◌, nat_lt, if◌then◌else◌, bit_xor}

-- b times x, where x^8 is taken away by the field's polynomial x^8 + x^4 + x^3 + x + 1 (4.2)
abbrev pub times_x : ℕ → ℕ
times_x b = if nat_lt b 128 then 2 * b else bit_xor (2 * b) 0x11b

-- the sum of x^i times b over the set bits i of a, of which the lowest n are read (4.2)
unfoldable pub sum_of_multiples : ℕ → ℕ → ℕ → ℕ
sum_of_multiples zero a b = 0
sum_of_multiples (suc n) a b =
    bit_xor (if a % 2 == 1 then b else 0) (sum_of_multiples n (a / 2) (times_x b))

-- the product of two bytes (4.2)
abbrev pub times : ℕ → ℕ → ℕ
times a b = sum_of_multiples 8 a b

-- the greatest c below n with b times c equal to 1, or 0 where there is none
unfoldable pub inverse_below : ℕ → ℕ → ℕ
inverse_below b zero = 0
inverse_below b (suc c) = if times b c == 1 then c else inverse_below b c

-- the multiplicative inverse of a byte, or 0 for 0 (4.4)
abbrev pub inverse : ℕ → ℕ
inverse b = inverse_below b 256
