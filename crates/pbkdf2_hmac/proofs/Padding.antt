-- The padded key, made by exclusive or with a block of one byte.
use Rattle.std.proofs.Common.{◌≡◌, ℕ, ◌≤◌, List, length, take, replicate, bit_xor}
use Rattle.std.proofs.lemmas.List.{take-replicate}
use Rattle.std.proofs.lemmas.Simd.{zip2_splat_left}
use Rattle.pbkdf2_hmac.specs.Hmac.{padded}
use Rattle.pbkdf2_hmac.specs.Xor.{xor_bytes}

pub xor_bytes-replicate : (m n pad : ℕ) (key : List ℕ) → n ≤ m → length key ≡ n
    → xor_bytes (take n (replicate m pad)) key ≡ padded key pad
unfolding padded
xor_bytes-replicate m n pad key within same =
    rw (take-replicate n m pad within) (zip2_splat_left bit_xor pad n key same)
