-- The rounds of one output block.
use Rattle.std.proofs.Common.{◌≡◌, ℕ, zero, suc, List, [], ◌∷◌, length, replicate, refl, ◌∙◌, sym}
use Rattle.std.proofs.Common.{arith}
use Rattle.std.specs.Int.Bits.{xor_zero_l}
use Rattle.pbkdf2_hmac.specs.declared.Hash.{Hash}
use Rattle.pbkdf2_hmac.specs.Hashes.{digest_len}
use Rattle.pbkdf2_hmac.specs.Hmac.{hmac_of}
use Rattle.pbkdf2_hmac.specs.Pbkdf2.{iterate, xor_of_iterates}
use Rattle.pbkdf2_hmac.specs.Xor.{xor_bytes}
use Rattle.pbkdf2_hmac.proofs.Lengths.{length-hmac_of}

-- zeros change nothing
pub xor_bytes-zeros : (n : ℕ) (xs : List ℕ) → length xs ≡ n → xor_bytes (replicate n 0) xs ≡ xs
xor_bytes-zeros zero [] same = refl
xor_bytes-zeros zero (x ∷ xs) same = absurd (omega arith)
xor_bytes-zeros (suc n) [] same = absurd (omega arith)
xor_bytes-zeros (suc n) (x ∷ xs) same = rw (xor_zero_l x, xor_bytes-zeros n xs (omega arith))

-- after c rounds from a seed, the last iterate and the exclusive or of all
pub record IsAfter (h : Hash) (pass seed : List ℕ) (c : ℕ) (last all : List ℕ) : Type 0 where
  pub last_is : last ≡ iterate h pass seed c
  pub all_is : all ≡ xor_of_iterates h pass seed c

pub after_first : (h : Hash) (pass seed tag : List ℕ) → tag ≡ hmac_of h pass seed
    → IsAfter h pass seed 1 tag tag
unfolding iterate xor_of_iterates
after_first h pass seed tag is = record {
  last_is = is;
  all_is =
      is ∙ sym (xor_bytes-zeros (digest_len h) (hmac_of h pass seed) (length-hmac_of h pass seed));
}

pub after_next : (h : Hash) (pass seed : List ℕ) (c : ℕ) (last all next sum : List ℕ)
    → IsAfter h pass seed c last all → next ≡ hmac_of h pass last → sum ≡ xor_bytes all next
    → IsAfter h pass seed (suc c) next sum
unfolding iterate xor_of_iterates
after_next h pass seed c last all next sum before is joined =
    let next_is : next ≡ hmac_of h pass (iterate h pass seed c) = rw before.last_is at is in
    record {
      last_is = next_is;
      all_is = joined ∙ rw (before.all_is, next_is) refl;
    }
