-- Bits of numbers, and of planes.
use Rattle.std.proofs.Common.{◌≡◌, ℕ, zero, suc, ◌<◌, ◌/◌, ◌%◌, ◌^◌, List, [], ◌∷◌, length}
use Rattle.std.proofs.Common.{slice_index, bit_xor, bit_and, refl, sym, ap, ◌∙◌, arith, Fits, w8}
use Rattle.std.specs.Simd.Lanes.{zip2, Each1}
use Rattle.std.specs.Int.{bit_at}
use Rattle.std.proofs.lemmas.Nat.{xor_shr, xor_mod, and_shr, and_mod}

pub bit_of_sum : (a b k : ℕ) → bit_at (bit_xor a b) k ≡ bit_xor (bit_at a k) (bit_at b k)
bit_of_sum a b k = ap (λ x. x % 2) (xor_shr a b k) ∙ xor_mod (a / 2 ^ k) (b / 2 ^ k) 1

pub bit_of_product : (a b k : ℕ) → bit_at (bit_and a b) k ≡ bit_and (bit_at a k) (bit_at b k)
bit_of_product a b k = ap (λ x. x % 2) (and_shr a b k) ∙ and_mod (a / 2 ^ k) (b / 2 ^ k) 1

-- lane by lane, also past the last one
pub lane_of : (f : ℕ → ℕ → ℕ) → f 0 0 ≡ 0 → (a b : List ℕ) → length a ≡ length b → (p : ℕ)
    → slice_index (zip2 f a b) p ≡ f (slice_index a p) (slice_index b p)
lane_of f none [] [] long p = sym none
lane_of f none [] (y ∷ b) long p = absurd (omega arith)
lane_of f none (x ∷ a) [] long p = absurd (omega arith)
lane_of f none (x ∷ a) (y ∷ b) long zero = refl
lane_of f none (x ∷ a) (y ∷ b) long (suc p) = lane_of f none a b (omega arith) p

pub bit_of_sums : (a b : List ℕ) → length a ≡ length b → (k p : ℕ)
    → bit_at (slice_index (zip2 bit_xor a b) p) k
    ≡ bit_xor (bit_at (slice_index a p) k) (bit_at (slice_index b p) k)
bit_of_sums a b long k p =
    ap (λ n. bit_at n k) (lane_of bit_xor refl a b long p)
    ∙ bit_of_sum (slice_index a p) (slice_index b p) k

pub bit_of_products : (a b : List ℕ) → length a ≡ length b → (k p : ℕ)
    → bit_at (slice_index (zip2 bit_and a b) p) k
    ≡ bit_and (bit_at (slice_index a p) k) (bit_at (slice_index b p) k)
bit_of_products a b long k p =
    ap (λ n. bit_at n k) (lane_of bit_and refl a b long p)
    ∙ bit_of_product (slice_index a p) (slice_index b p) k

-- each lane is a byte
pub lane_fits : (v : List ℕ) → Each1 (Fits w8) v → (p : ℕ) → slice_index v p < 256
lane_fits [] fits p = omega arith
lane_fits (x ∷ v) fits zero = omega (arith, fits.0)
lane_fits (x ∷ v) fits (suc p) = lane_fits v fits.1 p
