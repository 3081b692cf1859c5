-- States whose bytes carry the constant of the affine transformation.
use Rattle.std.proofs.Common.{◌≡◌, ℕ, zero, suc, ◌<◌, ◌+◌, List, length, replicate, bit_xor, refl}
use Rattle.std.proofs.Common.{sym, ap, ap₂, ◌∙◌, arith}
use Rattle.std.specs.Simd.Lanes.{zip2}
use Rattle.std.specs.Int.Bits.{xor_assoc, xor_self, xor_zero_r}
use Rattle.std.proofs.lemmas.Nat.{xor_of_8}
use Rattle.cipher_laws.specs.Bytes.{IsBlock}
use Rattle.aes_core.specs.Field.{times, sum_of_multiples}
use Rattle.aes_core.specs.State.{byte_at, sub_bytes, inverse_sub_bytes, shift_rows}
use Rattle.aes_core.specs.State.{inverse_shift_rows, multiply_columns, mix_columns}
use Rattle.aes_core.specs.State.{inverse_mix_columns, add_round_key}
use Rattle.aes_core.specs.Planes.{state_in, translated}
use Rattle.aes_core.specs.RoundKeys.{carried, planes_at, key_at, AreAlike}
use Rattle.aes_core.specs.Laws.Sums.{sum4, sum_undone, swapped, paired, sum_of_multiples_sum}
use Rattle.aes_core.specs.Laws.Steps.{sixteen, same_states, state_of_block, state_of_its_bytes}
use Rattle.aes_core.specs.Laws.Steps.{shift_rows_block, inverse_shift_rows_block}
use Rattle.aes_core.specs.Laws.Steps.{inverse_sub_bytes_block, add_round_key_block}
use Rattle.aes_core.specs.Laws.Steps.{multiply_columns_block}
use Rattle.aes_core.specs.declared.planes.Planes.{Planes}
use Rattle.aes_core.proofs.ByteLemmas.{state_block}

pub translated_twice : (s : List ℕ) → length s ≡ 16 → translated (translated s) ≡ s
unfolding translated
translated_twice s long =
    same_states (λ r c. bit_xor (bit_xor (byte_at s r c) 0x63) 0x63) (byte_at s)
    (λ r c. sum_undone (byte_at s r c) 0x63)
    ∙ state_of_its_bytes s long

pub translated_block : (s : List ℕ) → IsBlock s → IsBlock (translated s)
unfolding translated
translated_block s block =
    state_of_block (λ r c. bit_xor (byte_at s r c) 0x63)
    (λ r c. xor_of_8 _ _ (block.are_bytes _) (omega arith))

pub carried_twice : (r : ℕ) (s : List ℕ) → length s ≡ 16 → carried r (carried r s) ≡ s
carried_twice zero s long = refl
carried_twice (suc r) s long = translated_twice s long

pub carried_later : (r : ℕ) (s : List ℕ) → 0 < r → carried r s ≡ translated s
carried_later zero s later = absurd (omega arith)
carried_later (suc r) s later = refl

-- the lanes that the code computes
pub constant_added : (s : List ℕ) → length s ≡ 16
    → zip2 bit_xor s (replicate 16 0x63) ≡ translated s
unfolding translated
constant_added = sixteen _ (λ a0 a1 a2 a3 b0 b1 b2 b3 c0 c1 c2 c3 d0 d1 d2 d3. refl)

-- ---- each transformation leaves the constant as it is

shifted : (s : List ℕ) → shift_rows (translated s) ≡ translated (shift_rows s)
unfolding shift_rows translated
shifted s = refl

inverse_shifted : (s : List ℕ)
    → translated (inverse_shift_rows s) ≡ inverse_shift_rows (translated s)
unfolding inverse_shift_rows translated
inverse_shifted s = refl

times_sum : (a x y : ℕ) → x < 256 → y < 256
    → times a (bit_xor x y) ≡ bit_xor (times a x) (times a y)
times_sum a x y x_fits y_fits = sum_of_multiples_sum 8 a x y x_fits y_fits

-- where the coefficients' sum is 1
multiplied : (a0 a1 a2 a3 : ℕ)
    → sum4 (times a0 0x63) (times a3 0x63) (times a2 0x63) (times a1 0x63) ≡ 0x63
    → (s : List ℕ) → IsBlock s
    → multiply_columns a0 a1 a2 a3 (translated s) ≡ translated (multiply_columns a0 a1 a2 a3 s)
unfolding multiply_columns translated
multiplied a0 a1 a2 a3 one s block =
    let product : (r c : ℕ) → ℕ =
    λ r c. sum4 (times a0 (byte_at s r c)) (times a3 (byte_at s (r + 1) c))
    (times a2 (byte_at s (r + 2) c)) (times a1 (byte_at s (r + 3) c)) in
    same_states
    (λ r c. sum4 (times a0 (bit_xor (byte_at s r c) 0x63))
    (times a3 (bit_xor (byte_at s (r + 1) c) 0x63))
    (times a2 (bit_xor (byte_at s (r + 2) c) 0x63)) (times a1 (bit_xor (byte_at s (r + 3) c) 0x63)))
    (λ r c. bit_xor (product r c) 0x63)
    (λ r c.
    ap₂ bit_xor
    (ap₂ bit_xor (times_sum a0 (byte_at s r c) 0x63 (block.are_bytes _) (omega arith))
    (times_sum a3 (byte_at s (r + 1) c) 0x63 (block.are_bytes _) (omega arith)))
    (ap₂ bit_xor (times_sum a2 (byte_at s (r + 2) c) 0x63 (block.are_bytes _) (omega arith))
    (times_sum a1 (byte_at s (r + 3) c) 0x63 (block.are_bytes _) (omega arith)))
    ∙ paired (times a0 (byte_at s r c)) (times a3 (byte_at s (r + 1) c))
    (times a2 (byte_at s (r + 2) c)) (times a1 (byte_at s (r + 3) c))
    (times a0 0x63) (times a3 0x63) (times a2 0x63) (times a1 0x63)
    ∙ ap (bit_xor (product r c)) one)

mixed : (s : List ℕ) → IsBlock s → mix_columns (translated s) ≡ translated (mix_columns s)
unfolding sum_of_multiples
mixed = multiplied 0x02 0x01 0x01 0x03 refl

inverse_mixed : (s : List ℕ) → IsBlock s
    → inverse_mix_columns (translated s) ≡ translated (inverse_mix_columns s)
unfolding sum_of_multiples
inverse_mixed = multiplied 0x0e 0x09 0x0d 0x0b refl

-- what both carry falls out of a sum
both_carry : (a b n : ℕ) → bit_xor (bit_xor a n) (bit_xor b n) ≡ bit_xor a b
both_carry a b n =
    swapped a n b n ∙ ap (bit_xor (bit_xor a b)) (xor_self n) ∙ xor_zero_r (bit_xor a b)

keyed : (s key : List ℕ) → add_round_key (translated s) (translated key) ≡ add_round_key s key
unfolding add_round_key translated
keyed s key =
    same_states (λ r c. bit_xor (bit_xor (byte_at s r c) 0x63) (bit_xor (byte_at key r c) 0x63))
    (λ r c. bit_xor (byte_at s r c) (byte_at key r c))
    (λ r c. both_carry (byte_at s r c) (byte_at key r c) 0x63)

keyed_alone : (s key : List ℕ) → add_round_key s (translated key) ≡ translated (add_round_key s key)
unfolding add_round_key translated
keyed_alone s key =
    same_states (λ r c. bit_xor (byte_at s r c) (bit_xor (byte_at key r c) 0x63))
    (λ r c. bit_xor (bit_xor (byte_at s r c) (byte_at key r c)) 0x63)
    (λ r c. sym (xor_assoc (byte_at s r c) (byte_at key r c) 0x63))

-- ---- rounds

pub round_keyed : (s key : List ℕ) → IsBlock (sub_bytes s)
    → add_round_key (mix_columns (shift_rows (translated (sub_bytes s)))) (translated key)
    ≡ add_round_key (mix_columns (shift_rows (sub_bytes s))) key
round_keyed s key block =
    ap (λ x. add_round_key (mix_columns x) (translated key)) (shifted (sub_bytes s))
    ∙ ap (λ x. add_round_key x (translated key))
    (mixed (shift_rows (sub_bytes s)) (shift_rows_block (sub_bytes s) block))
    ∙ keyed (mix_columns (shift_rows (sub_bytes s))) key

pub last_round_keyed : (s key : List ℕ)
    → add_round_key (shift_rows (translated (sub_bytes s))) (translated key)
    ≡ add_round_key (shift_rows (sub_bytes s)) key
last_round_keyed s key =
    ap (λ x. add_round_key x (translated key)) (shifted (sub_bytes s))
    ∙ keyed (shift_rows (sub_bytes s)) key

-- before the inverse rounds
pub whitened : (s key : List ℕ)
    → translated (add_round_key s (translated key)) ≡ add_round_key s key
unfolding add_round_key
whitened s key = ap translated (keyed_alone s key) ∙ translated_twice (add_round_key s key) refl

-- the middle of an inverse round takes a state that carries the constant
pub unshifted : (s : List ℕ)
    → inverse_sub_bytes (translated (inverse_shift_rows s))
    ≡ inverse_sub_bytes (inverse_shift_rows (translated s))
unshifted s = ap inverse_sub_bytes (inverse_shifted s)

middle_block : (s : List ℕ) → IsBlock s
    → IsBlock (inverse_sub_bytes (inverse_shift_rows (translated s)))
middle_block s block =
    inverse_sub_bytes_block (inverse_shift_rows (translated s))
    (inverse_shift_rows_block (translated s) (translated_block s block))

-- and its end gives one
pub inverse_round_keyed : (s key : List ℕ) → IsBlock s → IsBlock key
    → (let middle = inverse_sub_bytes (inverse_shift_rows (translated s)) in
    translated (inverse_mix_columns (add_round_key middle (translated key)))
    ≡ inverse_mix_columns (add_round_key middle key))
inverse_round_keyed s key s_block key_block =
    let middle = inverse_sub_bytes (inverse_shift_rows (translated s)) in
    let sum : IsBlock (add_round_key middle key) =
    add_round_key_block middle key (middle_block s s_block) key_block in
    ap (λ x. translated (inverse_mix_columns x)) (keyed_alone middle key)
    ∙ ap translated (inverse_mixed (add_round_key middle key) sum)
    ∙ translated_twice (inverse_mix_columns (add_round_key middle key))
    (multiply_columns_block _ _ _ _ (add_round_key middle key) sum).length_is

-- ---- keys in planes

pub key_in_planes : (keys : List Planes) → AreAlike keys → (r k : ℕ) → r < 15 → k < 8
    → state_in k (planes_at keys r) ≡ carried r (key_at keys r)
key_in_planes keys alike r k within below =
    alike r k within below
    ∙ sym (carried_twice r (state_in 0 (planes_at keys r))
    (state_block 0 (planes_at keys r)).length_is)

pub carried_block : (r : ℕ) (s : List ℕ) → IsBlock s → IsBlock (carried r s)
carried_block zero s block = block
carried_block (suc r) s block = translated_block s block

pub key_block : (keys : List Planes) (r : ℕ) → IsBlock (key_at keys r)
key_block keys r =
    carried_block r (state_in 0 (planes_at keys r)) (state_block 0 (planes_at keys r))
