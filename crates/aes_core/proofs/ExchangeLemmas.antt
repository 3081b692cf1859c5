-- Bits exchanged between the lanes of two vectors.
use Rattle.std.proofs.Common.{◌≡◌, ℕ, zero, suc, ◌<◌, ◌≤◌, ◌+◌, ◌-◌, ◌*◌, ◌/◌, ◌%◌, ◌^◌, List}
use Rattle.std.proofs.Common.{length, slice_index, replicate, bit_xor, bit_and, refl, sym, ap, ap₂}
use Rattle.std.proofs.Common.{◌∙◌, arith, inl, inr, Fits, w8, add-zero}
use Rattle.std.specs.Prelude.{◌==◌, nat_lt, if◌then◌else◌}
use Rattle.std.specs.Simd.Lanes.{zip2, Each1}
use Rattle.std.specs.Int.{bit_at}
use Rattle.std.specs.Int.Bits.{xor_zero_r}
use Rattle.std.proofs.lemmas.Bool.{cases_lt}
use Rattle.std.proofs.lemmas.Bool.Decides.{nat_tests}
use Rattle.std.proofs.lemmas.List.{get_or-replicate}
use Rattle.std.proofs.lemmas.Simd.{length-zip2}
use Rattle.std.proofs.lemmas.Nat.{shr-shr}
use Rattle.std.proofs.lemmas.Nat.Bits.{bit_at-lt, bit_at-zero, bit_at_above, bit_at_cat_low}
use Rattle.std.proofs.lemmas.Nat.Bits.{bit_at_cat_high}
use Rattle.aes_core.specs.Planes.{listed, bits_of}
use Rattle.aes_core.specs.Transposition.{first_bits, second_bits}
use Rattle.aes_core.proofs.BitLemmas.{bit_of_sum, bit_of_product, lane_of, lane_fits}

-- ---- bits

bit_cases : (P : ℕ → Type 0) → P 0 → P 1 → (b : ℕ) → b < 2 → P b
bit_cases P p0 p1 zero lt = p0
bit_cases P p0 p1 (suc zero) lt = p1
bit_cases P p0 p1 (suc (suc b)) lt = absurd (omega arith)

-- y, or x where q is 1
chosen : (q x y : ℕ) → q < 2 → x < 2 → y < 2
    → bit_xor y (bit_and (bit_xor x y) q) ≡ (if q == 1 then x else y)
chosen q x y q_small x_small y_small =
    bit_cases (λ q. bit_xor y (bit_and (bit_xor x y) q) ≡ (if q == 1 then x else y))
    (bit_cases (λ x. bit_xor y (bit_and (bit_xor x y) 0) ≡ y)
    (bit_cases (λ y. bit_xor y (bit_and (bit_xor 0 y) 0) ≡ y) refl refl y y_small)
    (bit_cases (λ y. bit_xor y (bit_and (bit_xor 1 y) 0) ≡ y) refl refl y y_small) x x_small)
    (bit_cases (λ x. bit_xor y (bit_and (bit_xor x y) 1) ≡ x)
    (bit_cases (λ y. bit_xor y (bit_and (bit_xor 0 y) 1) ≡ 0) refl refl y y_small)
    (bit_cases (λ y. bit_xor y (bit_and (bit_xor 1 y) 1) ≡ 1) refl refl y y_small) x x_small)
    q q_small

-- x, or y where q is 1
chosen_back : (q x y : ℕ) → q < 2 → x < 2 → y < 2
    → bit_xor x (bit_and (bit_xor x y) q) ≡ (if q == 1 then y else x)
chosen_back q x y q_small x_small y_small =
    bit_cases (λ q. bit_xor x (bit_and (bit_xor x y) q) ≡ (if q == 1 then y else x))
    (bit_cases (λ x. bit_xor x (bit_and (bit_xor x y) 0) ≡ x)
    (bit_cases (λ y. bit_xor 0 (bit_and (bit_xor 0 y) 0) ≡ 0) refl refl y y_small)
    (bit_cases (λ y. bit_xor 1 (bit_and (bit_xor 1 y) 0) ≡ 1) refl refl y y_small) x x_small)
    (bit_cases (λ x. bit_xor x (bit_and (bit_xor x y) 1) ≡ y)
    (bit_cases (λ y. bit_xor 0 (bit_and (bit_xor 0 y) 1) ≡ y) refl refl y y_small)
    (bit_cases (λ y. bit_xor 1 (bit_and (bit_xor 1 y) 1) ≡ y) refl refl y y_small) x x_small)
    q q_small

-- the bits that are exchanged
abbrev exchanged : (n mask a b : ℕ) → ℕ
exchanged n mask a b = bit_and (bit_xor (a / 2 ^ n) b) mask

exchanged_bit : (n mask a b j : ℕ)
    → bit_at (exchanged n mask a b) j
    ≡ bit_and (bit_xor (bit_at a (n + j)) (bit_at b j)) (bit_at mask j)
exchanged_bit n mask a b j =
    bit_of_product (bit_xor (a / 2 ^ n) b) mask j
    ∙ ap (λ x. bit_and x (bit_at mask j))
    (bit_of_sum (a / 2 ^ n) b j ∙ ap (λ x. bit_xor (x % 2) (bit_at b j)) (shr-shr a n j))

second_bit : (n mask a b j : ℕ)
    → bit_at (bit_xor b (exchanged n mask a b)) j
    ≡ (if bit_at mask j == 1 then bit_at a (n + j) else bit_at b j)
second_bit n mask a b j =
    bit_of_sum b (exchanged n mask a b) j ∙ ap (bit_xor (bit_at b j)) (exchanged_bit n mask a b j)
    ∙ chosen (bit_at mask j) (bit_at a (n + j)) (bit_at b j) (bit_at-lt mask j)
    (bit_at-lt a (n + j)) (bit_at-lt b j)

-- a byte moved up by n places
low_bit : (x j : ℕ) → j < 8 → bit_at (x % 256) j ≡ bit_at x j
low_bit x j lt =
    let whole : x / 256 * 2 ^ 8 + x % 256 ≡ x = omega arith in
    sym (bit_at_cat_low (x / 256) 8 (x % 256) j lt) ∙ ap (λ n. bit_at n j) whole

below_moved : (t n j : ℕ) → j < n → bit_at (t * 2 ^ n) j ≡ 0
below_moved t n j lt =
    ap (λ x. bit_at x j) (sym (add-zero (t * 2 ^ n))) ∙ bit_at_cat_low t n 0 j lt ∙ bit_at-zero j

moved_bit : (t n j : ℕ) → 0 < 2 ^ n → n ≤ j → bit_at (t * 2 ^ n) j ≡ bit_at t (j - n)
moved_bit t n j some le =
    ap (λ x. bit_at x j) (sym (add-zero (t * 2 ^ n))) ∙ bit_at_cat_high t n 0 j some le

first_below : (n mask a b j : ℕ) → j < 8 → j < n
    → bit_at (bit_xor a (exchanged n mask a b * 2 ^ n % 256)) j ≡ bit_at a j
first_below n mask a b j lt below =
    bit_of_sum a (exchanged n mask a b * 2 ^ n % 256) j
    ∙ ap (bit_xor (bit_at a j))
    (low_bit (exchanged n mask a b * 2 ^ n) j lt ∙ below_moved (exchanged n mask a b) n j below)
    ∙ xor_zero_r (bit_at a j)

first_above : (n mask a b j : ℕ) → j < 8 → 0 < 2 ^ n → n ≤ j
    → bit_at (bit_xor a (exchanged n mask a b * 2 ^ n % 256)) j
    ≡ (if bit_at mask (j - n) == 1 then bit_at b (j - n) else bit_at a j)
first_above n mask a b j lt some above =
    let there : n + (j - n) ≡ j = omega arith in
    bit_of_sum a (exchanged n mask a b * 2 ^ n % 256) j
    ∙ ap (bit_xor (bit_at a j))
    (low_bit (exchanged n mask a b * 2 ^ n) j lt ∙ moved_bit (exchanged n mask a b) n j some above
    ∙ exchanged_bit n mask a b (j - n)
    ∙ ap (λ q. bit_and (bit_xor (bit_at a q) (bit_at b (j - n))) (bit_at mask (j - n))) there)
    ∙ chosen_back (bit_at mask (j - n)) (bit_at a j) (bit_at b (j - n)) (bit_at-lt mask (j - n))
    (bit_at-lt a j) (bit_at-lt b (j - n))

-- ---- lists of bits

bits_are : (v : ℕ) → bits_of v ≡ listed (bit_at v)
unfolding bits_of
bits_are v = refl

same_listed : (f g : ℕ → ℕ) → ((j : ℕ) → j < 8 → f j ≡ g j) → listed f ≡ listed g
same_listed f g same =
    rw (
      same 0 (omega arith),
      same 1 (omega arith),
      same 2 (omega arith),
      same 3 (omega arith),
      same 4 (omega arith),
      same 5 (omega arith),
      same 6 (omega arith),
      same 7 (omega arith),
    ) refl

-- a bit of a byte, from the list of its bits
bit_in_list : (v : ℕ) → v < 256 → (q : ℕ) → slice_index (bits_of v) q ≡ bit_at v q
unfolding bits_of
bit_in_list v fits zero = refl
bit_in_list v fits (suc zero) = refl
bit_in_list v fits (suc (suc zero)) = refl
bit_in_list v fits (suc (suc (suc zero))) = refl
bit_in_list v fits (suc (suc (suc (suc zero)))) = refl
bit_in_list v fits (suc (suc (suc (suc (suc zero))))) = refl
bit_in_list v fits (suc (suc (suc (suc (suc (suc zero)))))) = refl
bit_in_list v fits (suc (suc (suc (suc (suc (suc (suc zero))))))) = refl
bit_in_list v fits (suc (suc (suc (suc (suc (suc (suc (suc q)))))))) =
    sym (bit_at_above v 8 (suc (suc (suc (suc (suc (suc (suc (suc q)))))))) fits (omega arith))

if_below : (j n x y : ℕ) → j < n → (if nat_lt j n then x else y) ≡ x
if_below j n x y lt = grind (arith, nat_tests)

if_above : (j n x y : ℕ) → n ≤ j → (if nat_lt j n then x else y) ≡ y
if_above j n x y le = grind (arith, nat_tests)

second_list : (n mask a b : ℕ) → a < 256 → b < 256
    → bits_of (bit_xor b (exchanged n mask a b)) ≡ second_bits n mask (bits_of a) (bits_of b)
unfolding second_bits
second_list n mask a b a_fits b_fits =
    let from_lists =
    λ (j : ℕ). ap₂ (λ x y. if bit_at mask j == 1 then x else y) (bit_in_list a a_fits (j + n))
    (bit_in_list b b_fits j) in
    bits_are (bit_xor b (exchanged n mask a b))
    ∙ same_listed (bit_at (bit_xor b (exchanged n mask a b)))
    (λ j. if bit_at mask j == 1 then slice_index (bits_of a) (j + n) else slice_index (bits_of b) j)
    (λ j lt.
    let turned : n + j ≡ j + n = omega arith in
    second_bit n mask a b j ∙ ap (λ q. if bit_at mask j == 1 then bit_at a q else bit_at b j) turned
    ∙ sym (from_lists j))

first_list : (n mask a b : ℕ) → 0 < 2 ^ n → a < 256 → b < 256
    → bits_of (bit_xor a (exchanged n mask a b * 2 ^ n % 256))
    ≡ first_bits n mask (bits_of a) (bits_of b)
unfolding first_bits
first_list n mask a b some a_fits b_fits =
    bits_are (bit_xor a (exchanged n mask a b * 2 ^ n % 256))
    ∙ same_listed (bit_at (bit_xor a (exchanged n mask a b * 2 ^ n % 256)))
    (λ j. if nat_lt j n then slice_index (bits_of a) j
    else if bit_at mask (j - n) == 1 then slice_index (bits_of b) (j - n) else slice_index
    (bits_of a) j)
    (λ j lt. elim (cases_lt j n) [
      | inl below ↦
          first_below n mask a b j lt below ∙ sym (if_below j n _ _ below ∙ bit_in_list a a_fits j)
      | inr above ↦
          first_above n mask a b j lt some above
          ∙ sym (if_above j n _ _ above
          ∙ ap₂ (λ x y. if bit_at mask (j - n) == 1 then x else y) (bit_in_list b b_fits (j - n))
          (bit_in_list a a_fits j))
    ])

-- ---- lanes

-- the lanes that the code computes
abbrev exchanged_lanes : (n mask : ℕ) (a b : List ℕ) → List ℕ
exchanged_lanes n mask a b =
    zip2 bit_and (zip2 bit_xor (zip2 (λ x n. x / 2 ^ n) a (replicate 16 n)) b) (replicate 16 mask)

exchanged_lane : (n mask : ℕ) (a b : List ℕ) → length a ≡ 16 → length b ≡ 16 → (p : ℕ) → p < 16
    → slice_index (exchanged_lanes n mask a b) p
    ≡ exchanged n mask (slice_index a p) (slice_index b p)
exchanged_lane n mask a b a_long b_long p lt =
    let moved = zip2 (λ x n. x / 2 ^ n) a (replicate 16 n) in
    let moved_long : length moved ≡ 16 = length-zip2 _ a (replicate 16 n) a_long ∙ a_long in
    let sum_long : length (zip2 bit_xor moved b) ≡ 16 =
    length-zip2 bit_xor moved b (moved_long ∙ sym b_long) ∙ moved_long in
    lane_of bit_and refl (zip2 bit_xor moved b) (replicate 16 mask) sum_long p
    ∙ ap₂ bit_and
    (lane_of bit_xor refl moved b (moved_long ∙ sym b_long) p
    ∙ ap (λ x. bit_xor x (slice_index b p))
    (lane_of (λ x n. x / 2 ^ n) refl a (replicate 16 n) a_long p
    ∙ ap (λ k. slice_index a p / 2 ^ k) (get_or-replicate 16 p n 0 lt)))
    (get_or-replicate 16 p mask 0 lt)

exchanged_long : (n mask : ℕ) (a b : List ℕ) → length a ≡ 16 → length b ≡ 16
    → length (exchanged_lanes n mask a b) ≡ 16
exchanged_long n mask a b a_long b_long =
    let moved = zip2 (λ x n. x / 2 ^ n) a (replicate 16 n) in
    let moved_long : length moved ≡ 16 = length-zip2 _ a (replicate 16 n) a_long ∙ a_long in
    let sum_long : length (zip2 bit_xor moved b) ≡ 16 =
    length-zip2 bit_xor moved b (moved_long ∙ sym b_long) ∙ moved_long in
    length-zip2 bit_and (zip2 bit_xor moved b) (replicate 16 mask) sum_long ∙ sum_long

pub second_lane : (n mask : ℕ) (a b : List ℕ) → length a ≡ 16 → length b ≡ 16 → Each1 (Fits w8) a
    → Each1 (Fits w8) b
    → (p : ℕ) → p < 16
    → bits_of (slice_index (zip2 bit_xor b (exchanged_lanes n mask a b)) p)
    ≡ second_bits n mask (bits_of (slice_index a p)) (bits_of (slice_index b p))
second_lane n mask a b a_long b_long a_fits b_fits p lt =
    ap bits_of
    (lane_of bit_xor refl b (exchanged_lanes n mask a b)
    (b_long ∙ sym (exchanged_long n mask a b a_long b_long)) p
    ∙ ap (bit_xor (slice_index b p)) (exchanged_lane n mask a b a_long b_long p lt))
    ∙ second_list n mask (slice_index a p) (slice_index b p) (lane_fits a a_fits p)
    (lane_fits b b_fits p)

pub first_lane : (n mask : ℕ) (a b : List ℕ) → 0 < 2 ^ n → length a ≡ 16 → length b ≡ 16
    → Each1 (Fits w8) a → Each1 (Fits w8) b
    → (p : ℕ) → p < 16
    → bits_of
    (slice_index
    (zip2 bit_xor a (zip2 (λ x n. x * 2 ^ n % 256) (exchanged_lanes n mask a b) (replicate 16 n)))
    p)
    ≡ first_bits n mask (bits_of (slice_index a p)) (bits_of (slice_index b p))
first_lane n mask a b some a_long b_long a_fits b_fits p lt =
    let lanes = exchanged_lanes n mask a b in
    let lanes_long : length lanes ≡ 16 = exchanged_long n mask a b a_long b_long in
    let moved = zip2 (λ x n. x * 2 ^ n % 256) lanes (replicate 16 n) in
    let moved_long : length moved ≡ 16 =
    length-zip2 _ lanes (replicate 16 n) lanes_long ∙ lanes_long in
    ap bits_of (lane_of bit_xor refl a moved (a_long ∙ sym moved_long) p
    ∙ ap (bit_xor (slice_index a p))
    (lane_of (λ x n. x * 2 ^ n % 256) refl lanes (replicate 16 n) lanes_long p
    ∙ ap₂ (λ x k. x * 2 ^ k % 256) (exchanged_lane n mask a b a_long b_long p lt)
    (get_or-replicate 16 p n 0 lt)))
    ∙ first_list n mask (slice_index a p) (slice_index b p) some (lane_fits a a_fits p)
    (lane_fits b b_fits p)
