-- Each transformation of the state gives a block, and the inverse transformation undoes it.
use Rattle.std.proofs.Common.{◌≡◌, ℕ, zero, suc, ◌<◌, ◌+◌, ◌-◌, ◌*◌, ◌%◌, List, [], ◌∷◌, length}
use Rattle.std.proofs.Common.{slice_index, bit_xor, refl, ap, ap₂, ◌∙◌, arith}
use Rattle.std.specs.Simd.Lanes.{Each1}
use Rattle.std.specs.Int.Bits.{xor_zero_r}
use Rattle.std.proofs.lemmas.Nat.{xor_of_8}
use Rattle.cipher_laws.specs.Bytes.{IsBlock, AreBytes}
use Rattle.aes_core.specs.Field.{times, sum_of_multiples}
use Rattle.aes_core.specs.Boxes.{s_box, inverse_s_box}
use Rattle.aes_core.specs.State.{byte_at, state_of, sub_bytes, inverse_sub_bytes, add_round_key}
use Rattle.aes_core.specs.State.{shift_rows, inverse_shift_rows, multiply_columns, mix_columns}
use Rattle.aes_core.specs.State.{inverse_mix_columns}
use Rattle.aes_core.specs.Laws.Bytes.{agree_below, s_box_undone, inverse_s_box_undone, s_box_fits}
use Rattle.aes_core.specs.Laws.Bytes.{inverse_s_box_fits}
use Rattle.aes_core.specs.Laws.Sums.{sum4, sum4_fits, times_fits, sum_undone, AreFactors}
use Rattle.aes_core.specs.Laws.Sums.{computed_factors, column_product}

-- ---- states by row and column

-- what holds of each list of 16 elements
pub sixteen : (P : List ℕ → Type 0)
    → ((a0 a1 a2 a3 b0 b1 b2 b3 c0 c1 c2 c3 d0 d1 d2 d3 : ℕ)
    → P (a0 ∷ a1 ∷ a2 ∷ a3 ∷ b0 ∷ b1 ∷ b2 ∷ b3 ∷ c0 ∷ c1 ∷ c2 ∷ c3 ∷ d0 ∷ d1 ∷ d2 ∷ d3 ∷ []))
    → (xs : List ℕ) → length xs ≡ 16 → P xs
sixteen P p (a0 ∷ a1 ∷ a2 ∷ a3 ∷ b0 ∷ b1 ∷ b2 ∷ b3 ∷ c0 ∷ c1 ∷ c2 ∷ c3 ∷ d0 ∷ d1 ∷ d2 ∷ d3 ∷ []) h =
    p a0 a1 a2 a3 b0 b1 b2 b3 c0 c1 c2 c3 d0 d1 d2 d3
sixteen P p xs h = absurd (omega arith)

-- bytes, one by one
pub bytes_from_each : (s : List ℕ) → Each1 (λ b. b < 256) s → AreBytes s
bytes_from_each [] fits k = omega arith
bytes_from_each (b ∷ s) fits zero = fits.0
bytes_from_each (b ∷ s) fits (suc k) = bytes_from_each s fits.1 k

-- a state of bytes
pub state_of_block : (f : ℕ → ℕ → ℕ) → ((r c : ℕ) → f r c < 256) → IsBlock (state_of f)
state_of_block f fits = record {
  length_is = refl;
  are_bytes = bytes_from_each (state_of f) (
    fits 0 0,
    (
      fits 1 0,
      (
        fits 2 0,
        (
          fits 3 0,
          (
            fits 0 1,
            (
              fits 1 1,
              (
                fits 2 1,
                (
                  fits 3 1,
                  (
                    fits 0 2,
                    (
                      fits 1 2,
                      (fits 2 2, (fits 3 2, (fits 0 3, (fits 1 3, (fits 2 3, (fits 3 3, tt)))))),
                    ),
                  ),
                ),
              ),
            ),
          ),
        ),
      ),
    ),
  );
}

-- two states that agree at each place
pub same_states : (f g : ℕ → ℕ → ℕ) → ((r c : ℕ) → f r c ≡ g r c) → state_of f ≡ state_of g
same_states f g same =
    rw (
      same 0 0,
      same 1 0,
      same 2 0,
      same 3 0,
      same 0 1,
      same 1 1,
      same 2 1,
      same 3 1,
      same 0 2,
      same 1 2,
      same 2 2,
      same 3 2,
      same 0 3,
      same 1 3,
      same 2 3,
      same 3 3,
    ) refl

pub state_of_its_bytes : (s : List ℕ) → length s ≡ 16 → state_of (byte_at s) ≡ s
state_of_its_bytes = sixteen _ (λ a0 a1 a2 a3 b0 b1 b2 b3 c0 c1 c2 c3 d0 d1 d2 d3. refl)

-- a fact of each place of a row, and so of each place
pub below_four : (P : ℕ → Type 0) → P 0 → P 1 → P 2 → P 3 → (j : ℕ) → j < 4 → P j
below_four P p0 p1 p2 p3 zero h = p0
below_four P p0 p1 p2 p3 (suc zero) h = p1
below_four P p0 p1 p2 p3 (suc (suc zero)) h = p2
below_four P p0 p1 p2 p3 (suc (suc (suc zero))) h = p3
below_four P p0 p1 p2 p3 (suc (suc (suc (suc n)))) h = absurd (omega arith)

byte_at-state_of_below : (f : ℕ → ℕ → ℕ) (r : ℕ) → r < 4 → (c : ℕ) → c < 4
    → slice_index (state_of f) (r + 4 * c) ≡ f r c
byte_at-state_of_below f =
    below_four _ (below_four _ refl refl refl refl) (below_four _ refl refl refl refl)
    (below_four _ refl refl refl refl) (below_four _ refl refl refl refl)

byte_at-state_of : (f : ℕ → ℕ → ℕ) (r c : ℕ) → byte_at (state_of f) r c ≡ f (r % 4) (c % 4)
byte_at-state_of f r c = byte_at-state_of_below f (r % 4) (omega arith) (c % 4) (omega arith)

-- rows and columns count modulo 4
byte_at-mod : (s : List ℕ) (r c i j : ℕ) → i % 4 ≡ r % 4 → j % 4 ≡ c % 4
    → byte_at s i j ≡ byte_at s r c
byte_at-mod s r c i j same_row same_column =
    ap (slice_index s) (ap₂ (λ x y. x + 4 * y) same_row same_column)

-- ---- each transformation gives a block

pub sub_bytes_block : (s : List ℕ) → IsBlock (sub_bytes s)
unfolding sub_bytes
sub_bytes_block s =
    state_of_block (λ r c. s_box (byte_at s r c)) (λ r c. s_box_fits (byte_at s r c))

pub inverse_sub_bytes_block : (s : List ℕ) → IsBlock s → IsBlock (inverse_sub_bytes s)
unfolding inverse_sub_bytes
inverse_sub_bytes_block s block =
    state_of_block (λ r c. inverse_s_box (byte_at s r c))
    (λ r c. inverse_s_box_fits (byte_at s r c) (block.are_bytes _))

pub shift_rows_block : (s : List ℕ) → IsBlock s → IsBlock (shift_rows s)
unfolding shift_rows
shift_rows_block s block = state_of_block (λ r c. byte_at s r (c + r)) (λ r c. block.are_bytes _)

pub inverse_shift_rows_block : (s : List ℕ) → IsBlock s → IsBlock (inverse_shift_rows s)
unfolding inverse_shift_rows
inverse_shift_rows_block s block =
    state_of_block (λ r c. byte_at s r (c + 4 - r)) (λ r c. block.are_bytes _)

pub add_round_key_block : (s k : List ℕ) → IsBlock s → IsBlock k → IsBlock (add_round_key s k)
unfolding add_round_key
add_round_key_block s k s_block k_block =
    state_of_block (λ r c. bit_xor (byte_at s r c) (byte_at k r c))
    (λ r c. xor_of_8 _ _ (s_block.are_bytes _) (k_block.are_bytes _))

pub multiply_columns_block : (a0 a1 a2 a3 : ℕ) (s : List ℕ) → IsBlock s
    → IsBlock (multiply_columns a0 a1 a2 a3 s)
unfolding multiply_columns
multiply_columns_block a0 a1 a2 a3 s block =
    state_of_block
    (λ r c. sum4 (times a0 (byte_at s r c)) (times a3 (byte_at s (r + 1) c))
    (times a2 (byte_at s (r + 2) c)) (times a1 (byte_at s (r + 3) c)))
    (λ r c. sum4_fits _ _ _ _ (times_fits a0 _ (block.are_bytes _))
    (times_fits a3 _ (block.are_bytes _))
    (times_fits a2 _ (block.are_bytes _)) (times_fits a1 _ (block.are_bytes _)))

-- ---- each transformation is undone

-- a byte for a byte and back
substituted_undone : (f g : ℕ → ℕ) → ((b : ℕ) → b < 256 → g (f b) ≡ b) → (s : List ℕ) → IsBlock s
    → state_of (λ r c. g (byte_at (state_of (λ r c. f (byte_at s r c))) r c)) ≡ s
substituted_undone f g undone s block =
    same_states (λ r c. g (byte_at (state_of (λ r c. f (byte_at s r c))) r c)) (byte_at s)
    (λ r c.
    ap g (byte_at-state_of (λ r c. f (byte_at s r c)) r c
    ∙ ap f (byte_at-mod s r c _ _ (omega arith) (omega arith)))
    ∙ undone (byte_at s r c) (block.are_bytes _))
    ∙ state_of_its_bytes s block.length_is

pub sub_bytes_undone : (s : List ℕ) → IsBlock s → inverse_sub_bytes (sub_bytes s) ≡ s
unfolding sub_bytes inverse_sub_bytes
sub_bytes_undone = substituted_undone s_box inverse_s_box s_box_undone

pub inverse_sub_bytes_undone : (s : List ℕ) → IsBlock s → sub_bytes (inverse_sub_bytes s) ≡ s
unfolding sub_bytes inverse_sub_bytes
inverse_sub_bytes_undone = substituted_undone inverse_s_box s_box inverse_s_box_undone

pub shift_rows_undone : (s : List ℕ) → IsBlock s → inverse_shift_rows (shift_rows s) ≡ s
unfolding shift_rows inverse_shift_rows
shift_rows_undone s block =
    sixteen (λ s. inverse_shift_rows (shift_rows s) ≡ s)
    (λ a0 a1 a2 a3 b0 b1 b2 b3 c0 c1 c2 c3 d0 d1 d2 d3. refl) s block.length_is

pub inverse_shift_rows_undone : (s : List ℕ) → IsBlock s → shift_rows (inverse_shift_rows s) ≡ s
unfolding shift_rows inverse_shift_rows
inverse_shift_rows_undone s block =
    sixteen (λ s. shift_rows (inverse_shift_rows s) ≡ s)
    (λ a0 a1 a2 a3 b0 b1 b2 b3 c0 c1 c2 c3 d0 d1 d2 d3. refl) s block.length_is

pub add_round_key_undone : (s k : List ℕ) → IsBlock s → add_round_key (add_round_key s k) k ≡ s
unfolding add_round_key
add_round_key_undone s k block =
    same_states (λ r c. bit_xor (byte_at (add_round_key s k) r c) (byte_at k r c)) (byte_at s)
    (λ r c. ap (λ x. bit_xor x (byte_at k r c))
    (byte_at-state_of (λ r c. bit_xor (byte_at s r c) (byte_at k r c)) r c
    ∙ ap₂ bit_xor (byte_at-mod s r c _ _ (omega arith) (omega arith))
    (byte_at-mod k r c _ _ (omega arith) (omega arith)))
    ∙ sum_undone (byte_at s r c) (byte_at k r c))
    ∙ state_of_its_bytes s block.length_is

-- ---- the product of columns

same_column : (p0 p1 p2 p3 a b c d a' b' c' d' : ℕ) → a ≡ a' → b ≡ b' → c ≡ c' → d ≡ d'
    → sum4 (times p0 a) (times p1 b) (times p2 c) (times p3 d)
    ≡ sum4 (times p0 a') (times p1 b') (times p2 c') (times p3 d')
same_column p0 p1 p2 p3 a b c d a' b' c' d' same_a same_b same_c same_d =
    rw (same_a, same_b, same_c, same_d) refl

-- row r + j of column c of a product, from the rows i0, .., i3 of the column
product_at : (b0 b1 b2 b3 : ℕ) (s : List ℕ) (r c i0 i1 i2 i3 : ℕ) → i0 % 4 ≡ r % 4
    → i1 % 4 ≡ (r + 1) % 4 → i2 % 4 ≡ (r + 2) % 4 → i3 % 4 ≡ (r + 3) % 4
    → byte_at (multiply_columns b0 b1 b2 b3 s) r c
    ≡ sum4 (times b0 (byte_at s i0 c)) (times b3 (byte_at s i1 c)) (times b2 (byte_at s i2 c))
    (times b1 (byte_at s i3 c))
unfolding multiply_columns
product_at b0 b1 b2 b3 s r c i0 i1 i2 i3 is_0 is_1 is_2 is_3 =
    byte_at-state_of
    (λ r c. sum4 (times b0 (byte_at s r c)) (times b3 (byte_at s (r + 1) c))
    (times b2 (byte_at s (r + 2) c)) (times b1 (byte_at s (r + 3) c))) r c
    ∙ same_column b0 b3 b2 b1 _ _ _ _ _ _ _ _
    (byte_at-mod s i0 c _ _ (omega arith) (omega arith))
    (byte_at-mod s i1 c _ _ (omega arith) (omega arith))
    (byte_at-mod s i2 c _ _ (omega arith) (omega arith))
    (byte_at-mod s i3 c _ _ (omega arith) (omega arith))

pub multiply_columns_product : (a0 a1 a2 a3 b0 b1 b2 b3 w0 w1 w2 w3 : ℕ)
    → AreFactors a0 a3 a2 a1 b0 b3 b2 b1 w0 w3 w2 w1
    → (s : List ℕ) → IsBlock s
    → multiply_columns a0 a1 a2 a3 (multiply_columns b0 b1 b2 b3 s) ≡ multiply_columns w0 w1 w2 w3 s
unfolding multiply_columns
multiply_columns_product a0 a1 a2 a3 b0 b1 b2 b3 w0 w1 w2 w3 factors s block =
    let product = multiply_columns b0 b1 b2 b3 s in
    same_states (λ r c. sum4 (times a0 (byte_at product r c)) (times a3 (byte_at product (r + 1) c))
    (times a2 (byte_at product (r + 2) c)) (times a1 (byte_at product (r + 3) c)))
    (λ r c. sum4 (times w0 (byte_at s r c)) (times w3 (byte_at s (r + 1) c))
    (times w2 (byte_at s (r + 2) c)) (times w1 (byte_at s (r + 3) c)))
    (λ r c.
    same_column a0 a3 a2 a1 _ _ _ _ _ _ _ _
    (product_at b0 b1 b2 b3 s r c r (r + 1) (r + 2) (r + 3) (omega arith) (omega arith)
    (omega arith) (omega arith))
    (product_at b0 b1 b2 b3 s (r + 1) c (r + 1) (r + 2) (r + 3) r (omega arith) (omega arith)
    (omega arith) (omega arith))
    (product_at b0 b1 b2 b3 s (r + 2) c (r + 2) (r + 3) r (r + 1) (omega arith) (omega arith)
    (omega arith) (omega arith))
    (product_at b0 b1 b2 b3 s (r + 3) c (r + 3) r (r + 1) (r + 2) (omega arith) (omega arith)
    (omega arith) (omega arith))
    ∙ column_product a0 a3 a2 a1 b0 b3 b2 b1 w0 w3 w2 w1 factors (byte_at s r c)
    (byte_at s (r + 1) c) (byte_at s (r + 2) c) (byte_at s (r + 3) c)
    (block.are_bytes _) (block.are_bytes _) (block.are_bytes _) (block.are_bytes _))

-- the word 1
multiply_columns_by_1 : (s : List ℕ) → length s ≡ 16 → multiply_columns 0x01 0x00 0x00 0x00 s ≡ s
unfolding multiply_columns sum_of_multiples
multiply_columns_by_1 =
    sixteen _ (λ a0 a1 a2 a3 b0 b1 b2 b3 c0 c1 c2 c3 d0 d1 d2 d3. simp xor_zero_r)

mix_columns_factors : AreFactors 0x0e 0x0b 0x0d 0x09 0x02 0x03 0x01 0x01 0x01 0x00 0x00 0x00
unfolding agree_below sum_of_multiples
mix_columns_factors =
    computed_factors 0x0e 0x0b 0x0d 0x09 0x02 0x03 0x01 0x01 0x01 0x00 0x00 0x00 refl refl refl refl

inverse_mix_columns_factors : AreFactors 0x02 0x03 0x01 0x01 0x0e 0x0b 0x0d 0x09 0x01 0x00 0x00 0x00
unfolding agree_below sum_of_multiples
inverse_mix_columns_factors =
    computed_factors 0x02 0x03 0x01 0x01 0x0e 0x0b 0x0d 0x09 0x01 0x00 0x00 0x00 refl refl refl refl

pub mix_columns_undone : (s : List ℕ) → IsBlock s → inverse_mix_columns (mix_columns s) ≡ s
mix_columns_undone s block =
    multiply_columns_product 0x0e 0x09 0x0d 0x0b 0x02 0x01 0x01 0x03 0x01 0x00 0x00 0x00
    mix_columns_factors s block
    ∙ multiply_columns_by_1 s block.length_is

pub inverse_mix_columns_undone : (s : List ℕ) → IsBlock s → mix_columns (inverse_mix_columns s) ≡ s
inverse_mix_columns_undone s block =
    multiply_columns_product 0x02 0x01 0x01 0x03 0x0e 0x09 0x0d 0x0b 0x01 0x00 0x00 0x00
    inverse_mix_columns_factors s block
    ∙ multiply_columns_by_1 s block.length_is

-- InvMixColumns is MixColumns of the columns times the word 5, 0, 4, 0
factors_of_inverse_mix_columns : AreFactors 0x02 0x03 0x01 0x01 0x05 0x00 0x04 0x00 0x0e 0x0b 0x0d
    0x09
unfolding agree_below sum_of_multiples
factors_of_inverse_mix_columns =
    computed_factors 0x02 0x03 0x01 0x01 0x05 0x00 0x04 0x00 0x0e 0x0b 0x0d 0x09 refl refl refl refl

pub inverse_mix_columns_is_product : (s : List ℕ) → IsBlock s
    → mix_columns (multiply_columns 0x05 0x00 0x04 0x00 s) ≡ inverse_mix_columns s
inverse_mix_columns_is_product =
    multiply_columns_product 0x02 0x01 0x01 0x03 0x05 0x00 0x04 0x00 0x0e 0x09 0x0d 0x0b
    factors_of_inverse_mix_columns
