-- The exclusive or of byte strings.
use Rattle.std.specs.Prelude.{ℕ, List, bit_xor}
use Rattle.std.specs.Simd.Lanes.{zip2}

-- of two strings of one length, byte by byte
abbrev pub xor_bytes : List ℕ → List ℕ → List ℕ
xor_bytes xs ys = zip2 bit_xor xs ys
