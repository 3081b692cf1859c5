-- PBKDF2 (RFC 8018, section 5.2), with HMAC as its pseudorandom function.
use Rattle.std.specs.Prelude.{ℕ, zero, suc, List, [], ◌++◌, take, replicate}
use Rattle.std.specs.Int.{w32, to_be_bytes, div_ceil}
use Rattle.pbkdf2_hmac.specs.declared.Hash.{Hash}
use Rattle.pbkdf2_hmac.specs.Hashes.{digest_len}
use Rattle.pbkdf2_hmac.specs.Hmac.{hmac_of}
use Rattle.pbkdf2_hmac.specs.Xor.{xor_bytes}

-- U_c of a seed: U_0 is the seed itself, and each further one is HMAC of the one before
unfoldable pub iterate : Hash → List ℕ → List ℕ → ℕ → List ℕ
iterate h pass seed zero = seed
iterate h pass seed (suc c) = hmac_of h pass (iterate h pass seed c)

-- U_1 xor U_2 xor .. xor U_c
unfoldable pub xor_of_iterates : Hash → List ℕ → List ℕ → ℕ → List ℕ
xor_of_iterates h pass seed zero = replicate (digest_len h) 0
xor_of_iterates h pass seed (suc c) =
    xor_bytes (xor_of_iterates h pass seed c) (iterate h pass seed (suc c))

-- F(P, S, c, i), the block with number i, whose seed is the salt and i in four bytes, high first
unfoldable pub block_of : Hash → List ℕ → List ℕ → ℕ → ℕ → List ℕ
block_of h pass salt rounds i = xor_of_iterates h pass (salt ++ to_be_bytes w32 i) rounds

-- T_1, T_2, .., T_n one after the other
unfoldable pub blocks_of : Hash → List ℕ → List ℕ → ℕ → ℕ → List ℕ
blocks_of h pass salt rounds zero = []
blocks_of h pass salt rounds (suc n) =
    blocks_of h pass salt rounds n ++ block_of h pass salt rounds (suc n)

-- the derived key of a length: the first bytes of as many blocks as reach it
unfoldable pub derived_key : Hash → List ℕ → List ℕ → ℕ → ℕ → List ℕ
derived_key h pass salt rounds len =
    take len (blocks_of h pass salt rounds (div_ceil len (digest_len h)))
