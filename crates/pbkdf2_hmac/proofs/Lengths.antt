-- The lengths of digests, tags and blocks.
use Rattle.std.proofs.Common.{◌≡◌, ℕ, zero, suc, ◌*◌, List, ◌++◌, length, bit_xor, ◌∙◌, sym, arith}
use Rattle.std.proofs.Common.{length-append}
use Rattle.std.proofs.lemmas.List.{length-replicate}
use Rattle.std.proofs.lemmas.Simd.{length-zip2}
use Rattle.std.specs.Int.{w32, to_be_bytes}
use Rattle.sha2.proofs.Facts256.{length-sha256}
use Rattle.sha2.proofs.Facts512.{length-sha512}
use Rattle.pbkdf2_hmac.specs.declared.Hash.{Hash}
use Rattle.pbkdf2_hmac.specs.declared.Hash.TheVariants.{Sha256, Sha512}
use Rattle.pbkdf2_hmac.specs.Hashes.{digest_of, digest_len}
use Rattle.pbkdf2_hmac.specs.Hmac.{padded_key, hmac_of}
use Rattle.pbkdf2_hmac.specs.Pbkdf2.{iterate, xor_of_iterates, block_of, blocks_of}

pub length-digest_of : (h : Hash) (m : List ℕ) → length (digest_of h m) ≡ digest_len h
length-digest_of Sha256 m = length-sha256 m
length-digest_of Sha512 m = length-sha512 m

pub length-hmac_of : (h : Hash) (key text : List ℕ) → length (hmac_of h key text) ≡ digest_len h
unfolding hmac_of
length-hmac_of h key text =
    length-digest_of h (padded_key h key 0x5C ++ digest_of h (padded_key h key 0x36 ++ text))

pub length-xor_of_iterates : (h : Hash) (pass seed : List ℕ) (c : ℕ)
    → length (xor_of_iterates h pass seed c) ≡ digest_len h
unfolding xor_of_iterates iterate
length-xor_of_iterates h pass seed zero = length-replicate (digest_len h) 0
length-xor_of_iterates h pass seed (suc c) =
    let before = length-xor_of_iterates h pass seed c in
    let next = length-hmac_of h pass (iterate h pass seed c) in
    length-zip2 bit_xor (xor_of_iterates h pass seed c) (hmac_of h pass (iterate h pass seed c))
    (before ∙ sym next) ∙ before

pub length-block_of : (h : Hash) (pass salt : List ℕ) (rounds i : ℕ)
    → length (block_of h pass salt rounds i) ≡ digest_len h
unfolding block_of
length-block_of h pass salt rounds i =
    length-xor_of_iterates h pass (salt ++ to_be_bytes w32 i) rounds

pub length-blocks_of : (h : Hash) (pass salt : List ℕ) (rounds n : ℕ)
    → length (blocks_of h pass salt rounds n) ≡ n * digest_len h
unfolding blocks_of
length-blocks_of h pass salt rounds zero = omega arith
length-blocks_of h pass salt rounds (suc n) =
    let before = length-blocks_of h pass salt rounds n in
    let last = length-block_of h pass salt rounds (suc n) in
    let both =
    length-append (blocks_of h pass salt rounds n) (block_of h pass salt rounds (suc n)) in
    omega (arith, before, last, both)
