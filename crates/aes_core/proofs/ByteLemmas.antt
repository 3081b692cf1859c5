-- Bytes and states in planes, from their bits.
use Rattle.std.proofs.Common.{◌≡◌, ℕ, ◌<◌, ◌+◌, ◌*◌, ◌^◌, List, [], ◌∷◌, length, slice_index}
use Rattle.std.proofs.Common.{bit_xor, refl, sym, ap, ap₂, ◌∙◌, arith}
use Rattle.std.specs.Simd.Lanes.{zip2, Each1}
use Rattle.std.specs.Int.{bit_at}
use Rattle.std.specs.Int.Bits.{xor_block, xor_assoc, xor_zero_r}
use Rattle.std.proofs.lemmas.Nat.{xor_comm}
use Rattle.std.proofs.lemmas.Nat.Bits.{bit_at-lt}
use Rattle.cipher_laws.specs.Bytes.{IsBlock}
use Rattle.aes_core.specs.Field.{times, times_x, sum_of_multiples, inverse_below}
use Rattle.aes_core.specs.Boxes.{s_box, inverse_s_box}
use Rattle.aes_core.specs.State.{byte_at, state_of, add_round_key, shift_rows, inverse_shift_rows}
use Rattle.aes_core.specs.State.{multiply_columns}
use Rattle.aes_core.specs.Planes.{bit_in, bits_in, bits_of, byte_from, byte_in, state_in, place}
use Rattle.aes_core.specs.Circuit.{linear_forms, inverse_forms, norm, inverted, multiplied}
use Rattle.aes_core.specs.Circuit.{inversion, sums, inverse_sums}
use Rattle.aes_core.specs.Laws.Bytes.{agree_below, at_each_byte, times_x_fits}
use Rattle.aes_core.specs.Laws.Sums.{sum4, times_x_sum}
use Rattle.aes_core.specs.Laws.Steps.{same_states, state_of_block}
use Rattle.aes_core.specs.declared.planes.Planes.{Planes}

-- ---- a byte and its bits

pub bit_small : (k p : ℕ) (plane : _) → bit_in k p plane < 2
unfolding bit_in
bit_small k p plane = bit_at-lt (slice_index plane.0 p) k

abbrev byte8 : (b0 b1 b2 b3 b4 b5 b6 b7 : ℕ) → ℕ
byte8 b0 b1 b2 b3 b4 b5 b6 b7 = byte_from (b0 ∷ b1 ∷ b2 ∷ b3 ∷ b4 ∷ b5 ∷ b6 ∷ b7 ∷ [])

byte8_fits : (b0 b1 b2 b3 b4 b5 b6 b7 : ℕ) → b0 < 2 → b1 < 2 → b2 < 2 → b3 < 2 → b4 < 2 → b5 < 2
    → b6 < 2 → b7 < 2
    → byte8 b0 b1 b2 b3 b4 b5 b6 b7 < 256
byte8_fits b0 b1 b2 b3 b4 b5 b6 b7 h0 h1 h2 h3 h4 h5 h6 h7 = omega arith

bits_of_byte8 : (b0 b1 b2 b3 b4 b5 b6 b7 : ℕ) → b0 < 2 → b1 < 2 → b2 < 2 → b3 < 2 → b4 < 2 → b5 < 2
    → b6 < 2 → b7 < 2
    → (b0 ∷ b1 ∷ b2 ∷ b3 ∷ b4 ∷ b5 ∷ b6 ∷ b7 ∷ []) ≡ bits_of (byte8 b0 b1 b2 b3 b4 b5 b6 b7)
unfolding bits_of
bits_of_byte8 b0 b1 b2 b3 b4 b5 b6 b7 h0 h1 h2 h3 h4 h5 h6 h7 =
    let v : ℕ = byte8 b0 b1 b2 b3 b4 b5 b6 b7 in
    let e0 : bit_at v 0 ≡ b0 = omega arith in
    let e1 : bit_at v 1 ≡ b1 = omega arith in
    let e2 : bit_at v 2 ≡ b2 = omega arith in
    let e3 : bit_at v 3 ≡ b3 = omega arith in
    let e4 : bit_at v 4 ≡ b4 = omega arith in
    let e5 : bit_at v 5 ≡ b5 = omega arith in
    let e6 : bit_at v 6 ≡ b6 = omega arith in
    let e7 : bit_at v 7 ≡ b7 = omega arith in
    rw (e0, e1, e2, e3, e4, e5, e6, e7) refl

pub byte_fits : (k p : ℕ) (x : Planes) → byte_in k p x < 256
unfolding byte_in
byte_fits k p x =
    byte8_fits _ _ _ _ _ _ _ _ (bit_small k p x.b0) (bit_small k p x.b1) (bit_small k p x.b2)
    (bit_small k p x.b3)
    (bit_small k p x.b4) (bit_small k p x.b5) (bit_small k p x.b6) (bit_small k p x.b7)

pub bits_of_byte : (k p : ℕ) (x : Planes) → bits_in k p x ≡ bits_of (byte_in k p x)
unfolding byte_in
bits_of_byte k p x =
    bits_of_byte8 (bit_in k p x.b0) (bit_in k p x.b1) (bit_in k p x.b2) (bit_in k p x.b3)
    (bit_in k p x.b4) (bit_in k p x.b5) (bit_in k p x.b6) (bit_in k p x.b7)
    (bit_small k p x.b0) (bit_small k p x.b1) (bit_small k p x.b2) (bit_small k p x.b3)
    (bit_small k p x.b4) (bit_small k p x.b5) (bit_small k p x.b6) (bit_small k p x.b7)

-- what is computed of the bits of each byte is so of each byte in planes
pub byte_from_bits : (change : List ℕ → List ℕ) (f : ℕ → ℕ)
    → ((v : ℕ) → v < 256 → byte_from (change (bits_of v)) ≡ f v)
    → (k p : ℕ) (x y : Planes) → bits_in k p y ≡ change (bits_in k p x)
    → byte_in k p y ≡ f (byte_in k p x)
unfolding byte_in
byte_from_bits change f computed k p x y bits =
    ap byte_from (bits ∙ ap change (bits_of_byte k p x))
    ∙ computed (byte_in k p x) (byte_fits k p x)

-- ---- sums

-- the number with these bits, the lowest first
number : List ℕ → ℕ
number [] = 0
number (b ∷ bits) = number bits * 2 ^ 1 + b

number_of_sums : (xs ys : List ℕ) → length xs ≡ length ys → Each1 (λ b. b < 2) xs
    → Each1 (λ b. b < 2) ys
    → number (zip2 bit_xor xs ys) ≡ bit_xor (number xs) (number ys)
unfolding number
number_of_sums [] [] long xs_small ys_small = refl
number_of_sums [] (y ∷ ys) long xs_small ys_small = absurd (omega arith)
number_of_sums (x ∷ xs) [] long xs_small ys_small = absurd (omega arith)
number_of_sums (x ∷ xs) (y ∷ ys) long xs_small ys_small =
    ap (λ n. n * 2 ^ 1 + bit_xor x y) (number_of_sums xs ys (omega arith) xs_small.1 ys_small.1)
    ∙ sym (xor_block 1 (number xs) (number ys) x y (omega (arith, xs_small.0))
    (omega (arith, ys_small.0)))

byte_is_number : (k p : ℕ) (x : Planes) → byte_in k p x ≡ number (bits_in k p x)
unfolding byte_in number
byte_is_number k p x = omega arith

bits_small : (k p : ℕ) (x : Planes) → Each1 (λ b. b < 2) (bits_in k p x)
bits_small k p x = (
  bit_small k p x.b0,
  (
    bit_small k p x.b1,
    (
      bit_small k p x.b2,
      (
        bit_small k p x.b3,
        (bit_small k p x.b4, (bit_small k p x.b5, (bit_small k p x.b6, (bit_small k p x.b7, tt)))),
      ),
    ),
  ),
)

pub byte_of_sums : (k p : ℕ) (x y sum : Planes)
    → bits_in k p sum ≡ zip2 bit_xor (bits_in k p x) (bits_in k p y)
    → byte_in k p sum ≡ bit_xor (byte_in k p x) (byte_in k p y)
byte_of_sums k p x y sum bits =
    byte_is_number k p sum ∙ ap number bits
    ∙ number_of_sums (bits_in k p x) (bits_in k p y) refl (bits_small k p x) (bits_small k p y)
    ∙ sym (ap₂ bit_xor (byte_is_number k p x) (byte_is_number k p y))

-- ---- products by x, and the boxes

abbrev pub doubled : List ℕ → List ℕ
doubled bits =
    let b : ℕ → ℕ = slice_index bits in
    b 7 ∷ bit_xor (b 0) (b 7) ∷ b 1 ∷ bit_xor (b 2) (b 7) ∷ bit_xor (b 3) (b 7) ∷ b 4 ∷ b 5 ∷ b 6
    ∷ []

pub doubled_byte : (v : ℕ) → v < 256 → byte_from (doubled (bits_of v)) ≡ times_x v
unfolding agree_below bits_of
doubled_byte = at_each_byte (λ v. byte_from (doubled (bits_of v))) times_x refl

-- the circuits compute the boxes at each byte
pub s_box_circuit : (v : ℕ) → v < 256
    → byte_from (sums (inversion (linear_forms (bits_of v)))) ≡ bit_xor (s_box v) 0x63
unfolding agree_below bits_of s_box inverse_below sum_of_multiples linear_forms norm inverted
    multiplied sums
s_box_circuit =
    at_each_byte (λ v. byte_from (sums (inversion (linear_forms (bits_of v)))))
    (λ v. bit_xor (s_box v) 0x63) refl

pub inverse_s_box_circuit : (v : ℕ) → v < 256
    → byte_from (inverse_sums (inversion (inverse_forms (bits_of v))))
    ≡ inverse_s_box (bit_xor v 0x63)
unfolding agree_below bits_of inverse_s_box inverse_below sum_of_multiples inverse_forms norm
    inverted multiplied inverse_sums
inverse_s_box_circuit =
    at_each_byte (λ v. byte_from (inverse_sums (inversion (inverse_forms (bits_of v)))))
    (λ v. inverse_s_box (bit_xor v 0x63)) refl

-- ---- states

pub state_block : (k : ℕ) (x : Planes) → IsBlock (state_in k x)
unfolding state_in
state_block k x = state_of_block (λ r c. byte_in k (place r c) x) (λ r c. byte_fits k (place r c) x)

-- a byte for a byte
pub state_substituted : (f : ℕ → ℕ) (k : ℕ) (x y : Planes)
    → ((p : ℕ) → byte_in k p y ≡ f (byte_in k p x))
    → state_in k y ≡ state_of (λ r c. f (byte_at (state_in k x) r c))
unfolding state_in
state_substituted f k x y at =
    same_states (λ r c. byte_in k (place r c) y) (λ r c. f (byte_in k (place r c) x))
    (λ r c. at (place r c))

pub state_of_sums : (k : ℕ) (x y sum : Planes)
    → ((p : ℕ) → byte_in k p sum ≡ bit_xor (byte_in k p x) (byte_in k p y))
    → state_in k sum ≡ add_round_key (state_in k x) (state_in k y)
unfolding state_in add_round_key
state_of_sums k x y sum at =
    same_states (λ r c. byte_in k (place r c) sum)
    (λ r c. bit_xor (byte_in k (place r c) x) (byte_in k (place r c) y))
    (λ r c. at (place r c))

-- rows moved
pub state_of_shift_rows : (k : ℕ) (x y : Planes)
    → ((r c : ℕ) → byte_in k (place r c) y ≡ byte_in k (place r (c + r)) x)
    → state_in k y ≡ shift_rows (state_in k x)
unfolding state_in shift_rows
state_of_shift_rows k x y at =
    same_states (λ r c. byte_in k (place r c) y) (λ r c. byte_in k (place r (c + r)) x) at

pub state_of_inverse_shift_rows : (k : ℕ) (x y : Planes)
    → ((r c : ℕ) → byte_in k (place r c) y ≡ byte_in k (place r (c + 3 * r)) x)
    → state_in k y ≡ inverse_shift_rows (state_in k x)
unfolding state_in inverse_shift_rows
state_of_inverse_shift_rows k x y at =
    same_states (λ r c. byte_in k (place r c) y) (λ r c. byte_in k (place r (c + 3 * r)) x) at

-- columns multiplied
pub state_of_columns : (a0 a1 a2 a3 k : ℕ) (x y : Planes)
    → ((r c : ℕ) → byte_in k (place r c) y
    ≡ sum4 (times a0 (byte_in k (place r c) x)) (times a3 (byte_in k (place (r + 1) c) x))
    (times a2 (byte_in k (place (r + 2) c) x)) (times a1 (byte_in k (place (r + 3) c) x)))
    → state_in k y ≡ multiply_columns a0 a1 a2 a3 (state_in k x)
unfolding state_in multiply_columns
state_of_columns a0 a1 a2 a3 k x y at =
    same_states (λ r c. byte_in k (place r c) y)
    (λ r c. sum4 (times a0 (byte_in k (place r c) x)) (times a3 (byte_in k (place (r + 1) c) x))
    (times a2 (byte_in k (place (r + 2) c) x)) (times a1 (byte_in k (place (r + 3) c) x)))
    at

-- a byte of MixColumns
pub mixed_byte : (a b c d : ℕ) → a < 256 → b < 256
    → bit_xor (bit_xor (times_x (bit_xor a b)) b) (bit_xor c d)
    ≡ sum4 (times 2 a) (times 3 b) (times 1 c) (times 1 d)
unfolding sum_of_multiples
mixed_byte a b c d a_fits b_fits =
    rw (
      times_x_sum a b a_fits b_fits,
      xor_assoc (times_x a) (times_x b) b,
      xor_comm (times_x b) b,
      xor_zero_r (times_x a),
      xor_zero_r (times_x b),
      xor_zero_r c,
      xor_zero_r d,
    ) refl

-- a byte of the word 5, 0, 4, 0 times a column
pub opposite_byte : (a b c d : ℕ) → a < 256 → c < 256
    → bit_xor a (times_x (times_x (bit_xor a c)))
    ≡ sum4 (times 5 a) (times 0 b) (times 4 c) (times 0 d)
unfolding sum_of_multiples
opposite_byte a b c d a_fits c_fits =
    rw (
      times_x_sum a c a_fits c_fits,
      times_x_sum (times_x a) (times_x c) (times_x_fits a a_fits) (times_x_fits c c_fits),
      xor_zero_r (times_x (times_x a)),
      xor_zero_r (times_x (times_x c)),
      xor_zero_r (bit_xor a (times_x (times_x a))),
      xor_zero_r (times_x (times_x c)),
    )
    (sym (xor_assoc a (times_x (times_x a)) (times_x (times_x c))))
