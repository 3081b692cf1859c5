-- Blocks that are xored.
use Rattle.std.proofs.Common.{◌≡◌, ℕ, ◌<◌, List, [], ◌∷◌, length, get_or, refl, ap, subst, sym, ◌∙◌}
use Rattle.std.proofs.Common.{arith, bit_xor}
use Rattle.std.specs.Int.Bits.{xor_assoc, xor_self, xor_zero_r}
use Rattle.std.specs.Simd.Lanes.{zip2}
use Rattle.std.proofs.lemmas.Nat.{xor_of_8}
use Rattle.std.proofs.lemmas.Simd.{length-zip2, get_or-zip2}
use Rattle.cipher_laws.specs.Bytes.{IsBlock}
use Rattle.cipher_laws.specs.CipherBlocks.Blocks.{xored, number_block}
use Rattle.cipher_laws.specs.CipherBlocks.BytesLaws.{bytes_within, number_is_block}

xor_twice : (x y : ℕ) → bit_xor (bit_xor x y) y ≡ x
xor_twice x y = xor_assoc x y y ∙ ap (bit_xor x) (xor_self y) ∙ xor_zero_r x

zipped_twice : (xs ys : List ℕ) → length xs ≡ length ys → zip2 bit_xor (zip2 bit_xor xs ys) ys ≡ xs
zipped_twice [] ys same = refl
zipped_twice (x ∷ xs) [] same = cc
zipped_twice (x ∷ xs) (y ∷ ys) same =
    let rest = zipped_twice xs ys (omega arith) in
    rw (xor_twice x y, rest)

-- to xor twice with a block changes nothing
pub xored_twice : (xs ys : List ℕ) → length xs ≡ length ys → xored (xored xs ys) ys ≡ xs
unfolding xored
xored_twice xs ys same = zipped_twice xs ys same

-- two blocks xored are a block
pub xored_is_block : (a b : List ℕ) → IsBlock a → IsBlock b → IsBlock (xored a b)
unfolding xored
xored_is_block a b in_a in_b =
    let same : length a ≡ length b = in_a.length_is ∙ sym in_b.length_is in
    let long : length (zip2 bit_xor a b) ≡ length a = length-zip2 bit_xor a b same in
    record {
      length_is = long ∙ in_a.length_is;
      are_bytes = bytes_within (zip2 bit_xor a b) (λ k inside.
          let in_first : k < length a = omega arith in
          let in_second : k < length b = omega arith in
          subst (λ (x : ℕ). x < 256) (sym (get_or-zip2 bit_xor a b k 0 0 0 in_first in_second))
          (xor_of_8 (get_or a k 0) (get_or b k 0) (in_a.are_bytes k) (in_b.are_bytes k)));
    }

pub number_block_is_block : (n : ℕ) → IsBlock (number_block n)
unfolding number_block
number_block_is_block n = number_is_block n
