-- Sums of bytes, and that products distribute over them.
use Rattle.std.proofs.Common.{◌≡◌, ℕ, zero, suc, ◌<◌, ◌+◌, ◌*◌, ◌%◌, ◌/◌, ◌^◌, Bool, true, false}
use Rattle.std.proofs.Common.{cond, bit_xor, refl, arith, sym, ap, ◌∙◌, add-zero}
use Rattle.std.specs.Prelude.{◌==◌}
use Rattle.std.specs.Int.Bits.{xor_assoc, xor_self, xor_zero_r, xor_shr, xor_block}
use Rattle.std.proofs.lemmas.Nat.{xor_comm, xor_of_8}
use Rattle.aes_core.specs.Field.{sum_of_multiples, times, times_x}
use Rattle.aes_core.specs.Laws.Bytes.{agree_below, at_each_byte, times_x_fits, times_x_parts}

-- what is added twice is gone
pub sum_undone : (a k : ℕ) → bit_xor (bit_xor a k) k ≡ a
sum_undone a k = xor_assoc a k k ∙ ap (bit_xor a) (xor_self k) ∙ xor_zero_r a

pub swapped : (a b c d : ℕ)
    → bit_xor (bit_xor a b) (bit_xor c d) ≡ bit_xor (bit_xor a c) (bit_xor b d)
swapped a b c d =
    xor_assoc a b (bit_xor c d)
    ∙ ap (bit_xor a)
    (sym (xor_assoc b c d) ∙ ap (λ x. bit_xor x d) (xor_comm b c) ∙ xor_assoc c b d)
    ∙ sym (xor_assoc a c (bit_xor b d))

-- a sum of four
abbrev pub sum4 : ℕ → ℕ → ℕ → ℕ → ℕ
sum4 a b c d = bit_xor (bit_xor a b) (bit_xor c d)

pub sum4_fits : (a b c d : ℕ) → a < 256 → b < 256 → c < 256 → d < 256 → sum4 a b c d < 256
sum4_fits a b c d p q r s = xor_of_8 _ _ (xor_of_8 a b p q) (xor_of_8 c d r s)

turned : (a b c d : ℕ) → sum4 a b c d ≡ sum4 d a b c
turned a b c d =
    xor_comm (bit_xor a b) (bit_xor c d) ∙ ap (λ x. bit_xor x (bit_xor a b)) (xor_comm c d)
    ∙ swapped d c a b
    ∙ ap (bit_xor (bit_xor d a)) (xor_comm c b)

pub paired : (a b c d a' b' c' d' : ℕ)
    → sum4 (bit_xor a a') (bit_xor b b') (bit_xor c c') (bit_xor d d')
    ≡ bit_xor (sum4 a b c d) (sum4 a' b' c' d')
paired a b c d a' b' c' d' =
    rw (swapped a a' b b', swapped c c' d d')
    (swapped (bit_xor a b) (bit_xor a' b') (bit_xor c d) (bit_xor c' d'))

-- the sum of four rows is the sum of four columns
transposed : (a0 a1 a2 a3 b0 b1 b2 b3 c0 c1 c2 c3 d0 d1 d2 d3 : ℕ)
    → sum4 (sum4 a0 a1 a2 a3) (sum4 b0 b1 b2 b3) (sum4 c0 c1 c2 c3) (sum4 d0 d1 d2 d3)
    ≡ sum4 (sum4 a0 b0 c0 d0) (sum4 a1 b1 c1 d1) (sum4 a2 b2 c2 d2) (sum4 a3 b3 c3 d3)
transposed a0 a1 a2 a3 b0 b1 b2 b3 c0 c1 c2 c3 d0 d1 d2 d3 =
    paired (bit_xor a0 a1) (bit_xor b0 b1) (bit_xor c0 c1) (bit_xor d0 d1) (bit_xor a2 a3)
    (bit_xor b2 b3) (bit_xor c2 c3) (bit_xor d2 d3)
    ∙ ap (λ x. bit_xor x (sum4 (bit_xor a2 a3) (bit_xor b2 b3) (bit_xor c2 c3) (bit_xor d2 d3)))
    (paired a0 b0 c0 d0 a1 b1 c1 d1)
    ∙ ap (bit_xor (bit_xor (sum4 a0 b0 c0 d0) (sum4 a1 b1 c1 d1))) (paired a2 b2 c2 d2 a3 b3 c3 d3)

-- ---- products

doubled_sum : (a b : ℕ) → bit_xor a b * 2 ≡ bit_xor (a * 2) (b * 2)
doubled_sum a b =
    let parts : bit_xor (a * 2 ^ 1 + 0) (b * 2 ^ 1 + 0) ≡ bit_xor a b * 2 ^ 1 + bit_xor 0 0 =
    xor_block 1 a b 0 0 (omega arith) (omega arith) in
    sym (simp add-zero at parts)

carried_sum : (p q : ℕ) → p < 2 → q < 2 → bit_xor p q * 0x11b ≡ bit_xor (p * 0x11b) (q * 0x11b)
carried_sum zero q p_lt q_lt = refl
carried_sum (suc zero) zero p_lt q_lt = refl
carried_sum (suc zero) (suc zero) p_lt q_lt = refl
carried_sum (suc zero) (suc (suc q)) p_lt q_lt = absurd (omega arith)
carried_sum (suc (suc p)) q p_lt q_lt = absurd (omega arith)

pub times_x_sum : (a b : ℕ) → a < 256 → b < 256
    → times_x (bit_xor a b) ≡ bit_xor (times_x a) (times_x b)
times_x_sum a b a_fits b_fits =
    let carries : bit_xor a b / 128 ≡ bit_xor (a / 128) (b / 128) = xor_shr a b 7 in
    rw (
      times_x_parts (bit_xor a b) (xor_of_8 a b a_fits b_fits),
      times_x_parts a a_fits,
      times_x_parts b b_fits,
      doubled_sum a b,
      carries,
      carried_sum (a / 128) (b / 128) (omega arith) (omega arith),
    )
    (swapped (a * 2) (b * 2) (a / 128 * 0x11b) (b / 128 * 0x11b))

chosen_sum : (t : Bool) (x y : ℕ) → cond t (bit_xor x y) 0 ≡ bit_xor (cond t x 0) (cond t y 0)
chosen_sum true x y = refl
chosen_sum false x y = refl

chosen_fits : (t : Bool) (x : ℕ) → x < 256 → cond t x 0 < 256
chosen_fits true x lt = lt
chosen_fits false x lt = omega arith

pub sum_of_multiples_sum : (n a x y : ℕ) → x < 256 → y < 256
    → sum_of_multiples n a (bit_xor x y) ≡ bit_xor (sum_of_multiples n a x) (sum_of_multiples n a y)
unfolding sum_of_multiples
sum_of_multiples_sum zero a x y x_fits y_fits = refl
sum_of_multiples_sum (suc n) a x y x_fits y_fits =
    rw (
      chosen_sum (a % 2 == 1) x y,
      times_x_sum x y x_fits y_fits,
      sum_of_multiples_sum n (a / 2) (times_x x) (times_x y) (times_x_fits x x_fits)
          (times_x_fits y y_fits),
    )
    (swapped (cond (a % 2 == 1) x 0) (cond (a % 2 == 1) y 0)
    (sum_of_multiples n (a / 2) (times_x x)) (sum_of_multiples n (a / 2) (times_x y)))

sum_of_multiples_fits : (n a x : ℕ) → x < 256 → sum_of_multiples n a x < 256
unfolding sum_of_multiples
sum_of_multiples_fits zero a x lt = omega arith
sum_of_multiples_fits (suc n) a x lt =
    xor_of_8 _ _ (chosen_fits (a % 2 == 1) x lt)
    (sum_of_multiples_fits n (a / 2) (times_x x) (times_x_fits x lt))

pub times_fits : (a x : ℕ) → x < 256 → times a x < 256
times_fits a x lt = sum_of_multiples_fits 8 a x lt

times_sum4 : (p a b c d : ℕ) → a < 256 → b < 256 → c < 256 → d < 256
    → times p (sum4 a b c d) ≡ sum4 (times p a) (times p b) (times p c) (times p d)
times_sum4 p a b c d a_fits b_fits c_fits d_fits =
    rw (
      sum_of_multiples_sum 8 p (bit_xor a b) (bit_xor c d) (xor_of_8 a b a_fits b_fits)
          (xor_of_8 c d c_fits d_fits),
      sum_of_multiples_sum 8 p a b a_fits b_fits,
      sum_of_multiples_sum 8 p c d c_fits d_fits,
    )
    refl

-- ---- the product of two words, as the product of columns has it (4.3)

-- what the product of two words makes of a byte at its own place; with the word q turned by n, what
-- it adds to the byte n places before
abbrev same_place : (p0 p1 p2 p3 q0 q1 q2 q3 x : ℕ) → ℕ
same_place p0 p1 p2 p3 q0 q1 q2 q3 x =
    sum4 (times p0 (times q0 x)) (times p1 (times q3 x)) (times p2 (times q2 x))
    (times p3 (times q1 x))

-- the word w is the product of the words p and q
pub record AreFactors (p0 p1 p2 p3 q0 q1 q2 q3 w0 w1 w2 w3 : ℕ) : Type 0 where
  pub own : (x : ℕ) → x < 256 → same_place p0 p1 p2 p3 q0 q1 q2 q3 x ≡ times w0 x
  pub first : (x : ℕ) → x < 256 → same_place p0 p1 p2 p3 q1 q2 q3 q0 x ≡ times w1 x
  pub second : (x : ℕ) → x < 256 → same_place p0 p1 p2 p3 q2 q3 q0 q1 x ≡ times w2 x
  pub third : (x : ℕ) → x < 256 → same_place p0 p1 p2 p3 q3 q0 q1 q2 x ≡ times w3 x

-- which is computed at each byte
pub computed_factors : (p0 p1 p2 p3 q0 q1 q2 q3 w0 w1 w2 w3 : ℕ)
    → agree_below (same_place p0 p1 p2 p3 q0 q1 q2 q3) (times w0) 256 ≡ true
    → agree_below (same_place p0 p1 p2 p3 q1 q2 q3 q0) (times w1) 256 ≡ true
    → agree_below (same_place p0 p1 p2 p3 q2 q3 q0 q1) (times w2) 256 ≡ true
    → agree_below (same_place p0 p1 p2 p3 q3 q0 q1 q2) (times w3) 256 ≡ true
    → AreFactors p0 p1 p2 p3 q0 q1 q2 q3 w0 w1 w2 w3
computed_factors p0 p1 p2 p3 q0 q1 q2 q3 w0 w1 w2 w3 own first second third = record {
  own = at_each_byte _ _ own;
  first = at_each_byte _ _ first;
  second = at_each_byte _ _ second;
  third = at_each_byte _ _ third;
}

-- a byte of a column that was multiplied by the one and then by the other
pub column_product : (p0 p1 p2 p3 q0 q1 q2 q3 w0 w1 w2 w3 : ℕ)
    → AreFactors p0 p1 p2 p3 q0 q1 q2 q3 w0 w1 w2 w3
    → (a b c d : ℕ) → a < 256 → b < 256 → c < 256 → d < 256
    → sum4
    (times p0 (sum4 (times q0 a) (times q1 b) (times q2 c) (times q3 d)))
    (times p1 (sum4 (times q0 b) (times q1 c) (times q2 d) (times q3 a)))
    (times p2 (sum4 (times q0 c) (times q1 d) (times q2 a) (times q3 b)))
    (times p3 (sum4 (times q0 d) (times q1 a) (times q2 b) (times q3 c)))
    ≡ sum4 (times w0 a) (times w1 b) (times w2 c) (times w3 d)
column_product p0 p1 p2 p3 q0 q1 q2 q3 w0 w1 w2 w3 factors a b c d a_fits b_fits c_fits d_fits =
    let f : (q x : ℕ) → x < 256 → times q x < 256 = times_fits in
    rw (
      times_sum4 p0 (times q0 a) (times q1 b) (times q2 c) (times q3 d) (f q0 a a_fits)
          (f q1 b b_fits) (f q2 c c_fits) (f q3 d d_fits),
      times_sum4 p1 (times q0 b) (times q1 c) (times q2 d) (times q3 a) (f q0 b b_fits)
          (f q1 c c_fits) (f q2 d d_fits) (f q3 a a_fits),
      times_sum4 p2 (times q0 c) (times q1 d) (times q2 a) (times q3 b) (f q0 c c_fits)
          (f q1 d d_fits) (f q2 a a_fits) (f q3 b b_fits),
      times_sum4 p3 (times q0 d) (times q1 a) (times q2 b) (times q3 c) (f q0 d d_fits)
          (f q1 a a_fits) (f q2 b b_fits) (f q3 c c_fits),
      turned (times p1 (times q0 b)) (times p1 (times q1 c)) (times p1 (times q2 d))
          (times p1 (times q3 a)),
      turned (times p2 (times q0 c)) (times p2 (times q1 d)) (times p2 (times q2 a))
          (times p2 (times q3 b)),
      turned (times p2 (times q3 b)) (times p2 (times q0 c)) (times p2 (times q1 d))
          (times p2 (times q2 a)),
      ← turned (times p3 (times q1 a)) (times p3 (times q2 b)) (times p3 (times q3 c))
          (times p3 (times q0 d)),
      transposed,
      factors.own a a_fits,
      factors.first b b_fits,
      factors.second c c_fits,
      factors.third d d_fits,
    )
    refl
