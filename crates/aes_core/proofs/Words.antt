-- Words of the key schedule, and the code's vectors of 4 lanes.
use Rattle.std.proofs.Common.{◌≡◌, ℕ, ◌<◌, ◌≤◌, ◌+◌, ◌-◌, ◌*◌, ◌%◌, ◌/◌, List, [], ◌∷◌, ◌++◌}
use Rattle.std.proofs.Common.{length, take, slice_index, slice_index_or, bit_xor, refl, sym, ap₂}
use Rattle.std.proofs.Common.{◌∙◌, inl, inr, arith, Fits, w8, get_or-take, add-one}
use Rattle.std.specs.Simd.Lanes.{zip2, pick_l, chunk, Each1}
use Rattle.std.proofs.lemmas.Simd.{length-chunk, get_or-chunk}
use Rattle.std.proofs.lemmas.Bool.{cases_lt}
use Rattle.std.proofs.lemmas.Bool.Decides.{nat_tests}
use Rattle.cipher_laws.specs.Bytes.{IsBlock}
use Rattle.aes_core.specs.KeySchedule.{word_of, add_words, sub_word, rot_word, round_constant}
use Rattle.aes_core.specs.KeySchedule.{addend, next_word, key_expansion, round_key}
use Rattle.aes_core.specs.Laws.Steps.{bytes_from_each}
use Rattle.aes_core.proofs.BitLemmas.{lane_fits}

-- what holds of each list of 4 elements
pub four : (P : List ℕ → Type 0) → ((a b c d : ℕ) → P (a ∷ b ∷ c ∷ d ∷ [])) → (xs : List ℕ)
    → length xs ≡ 4 → P xs
four P p (a ∷ b ∷ c ∷ d ∷ []) h = p a b c d
four P p xs h = absurd (omega arith)

pub sums_are_add_words : (v w : List ℕ) → length v ≡ 4 → length w ≡ 4
    → zip2 bit_xor v w ≡ add_words v w
unfolding add_words
sums_are_add_words v w v_long w_long =
    four (λ v. (w : List ℕ) → length w ≡ 4 → zip2 bit_xor v w ≡ add_words v w)
    (λ a b c d. four _ (λ e f g h. refl)) v v_long w w_long

pub lanes_are_rot_word : (w : List ℕ) → length w ≡ 4
    → pick_l 0 (w ++ w) (1 ∷ 2 ∷ 3 ∷ 0 ∷ []) ≡ rot_word w
unfolding rot_word
lanes_are_rot_word = four _ (λ a b c d. refl)

word_from_bytes : (f : ℕ → ℕ) (w : List ℕ) → length w ≡ 4
    → ((i : ℕ) → i < 4 → slice_index w i ≡ f i) → w ≡ word_of f
word_from_bytes f = four (λ w. ((i : ℕ) → i < 4 → slice_index w i ≡ f i) → w ≡ word_of f)
    (λ a b c d at.
    rw (at 0 (omega arith), at 1 (omega arith), at 2 (omega arith), at 3 (omega arith)) refl)

-- the bytes of four words
abbrev bytes_of : List ℕ → List ℕ → List ℕ → List ℕ → List ℕ
bytes_of v w x y =
    slice_index v 0 ∷ slice_index v 1 ∷ slice_index v 2 ∷ slice_index v 3
    ∷ slice_index w 0 ∷ slice_index w 1 ∷ slice_index w 2 ∷ slice_index w 3
    ∷ slice_index x 0 ∷ slice_index x 1 ∷ slice_index x 2 ∷ slice_index x 3
    ∷ slice_index y 0 ∷ slice_index y 1 ∷ slice_index y 2 ∷ slice_index y 3 ∷ []

pub bytes_of_are_joined : (v w x y : List ℕ) → length v ≡ 4 → length w ≡ 4 → length x ≡ 4
    → length y ≡ 4
    → bytes_of v w x y ≡ v ++ w ++ x ++ y
bytes_of_are_joined v w x y v_long w_long x_long y_long =
    four (λ v. bytes_of v w x y ≡ v ++ w ++ x ++ y) (λ v0 v1 v2 v3.
    four (λ w. bytes_of (v0 ∷ v1 ∷ v2 ∷ v3 ∷ []) w x y ≡ (v0 ∷ v1 ∷ v2 ∷ v3 ∷ []) ++ w ++ x ++ y)
    (λ w0 w1 w2 w3.
    four (λ x. bytes_of (v0 ∷ v1 ∷ v2 ∷ v3 ∷ []) (w0 ∷ w1 ∷ w2 ∷ w3 ∷ []) x y
    ≡ (v0 ∷ v1 ∷ v2 ∷ v3 ∷ []) ++ (w0 ∷ w1 ∷ w2 ∷ w3 ∷ []) ++ x ++ y) (λ x0 x1 x2 x3.
    four (λ y. bytes_of (v0 ∷ v1 ∷ v2 ∷ v3 ∷ []) (w0 ∷ w1 ∷ w2 ∷ w3 ∷ []) (x0 ∷ x1 ∷ x2 ∷ x3 ∷ []) y
    ≡ (v0 ∷ v1 ∷ v2 ∷ v3 ∷ []) ++ (w0 ∷ w1 ∷ w2 ∷ w3 ∷ []) ++ (x0 ∷ x1 ∷ x2 ∷ x3 ∷ []) ++ y)
    (λ y0 y1 y2 y3. refl) y y_long) x x_long) w w_long) v v_long

pub bytes_of_block : (v w x y : List ℕ) → Each1 (Fits w8) v → Each1 (Fits w8) w → Each1 (Fits w8) x
    → Each1 (Fits w8) y
    → IsBlock (bytes_of v w x y)
bytes_of_block v w x y v_fits w_fits x_fits y_fits =
    let a = lane_fits v v_fits in
    let b = lane_fits w w_fits in
    let c = lane_fits x x_fits in
    let d = lane_fits y y_fits in
    record {
      length_is = refl;
      are_bytes = bytes_from_each (bytes_of v w x y) (
        a 0,
        (
          a 1,
          (
            a 2,
            (
              a 3,
              (
                b 0,
                (
                  b 1,
                  (b 2, (b 3, (c 0, (c 1, (c 2, (c 3, (d 0, (d 1, (d 2, (d 3, tt)))))))))),
                ),
              ),
            ),
          ),
        ),
      );
    }

-- ---- what is added to a word

pub addend_first : (nk i : ℕ) (w : List ℕ) → i % nk ≡ 0
    → add_words (sub_word (rot_word w)) (round_constant (i / nk)) ≡ addend nk i w
unfolding addend
addend_first nk i w at = grind (arith, nat_tests)

pub addend_middle : (nk i : ℕ) (w : List ℕ) → 6 < nk → i % nk ≡ 4 → sub_word w ≡ addend nk i w
unfolding addend
addend_middle nk i w long at = grind (arith, nat_tests)

pub addend_short : (nk i : ℕ) (w : List ℕ) → (i % nk ≡ 0 → ⊥) → nk ≤ 6 → w ≡ addend nk i w
unfolding addend
addend_short nk i w not_first short = grind (arith, nat_tests)

pub addend_other : (nk i : ℕ) (w : List ℕ) → (i % nk ≡ 0 → ⊥) → (i % nk ≡ 4 → ⊥) → w ≡ addend nk i w
unfolding addend
addend_other nk i w not_first not_middle = grind (arith, nat_tests)

-- ---- the next word

within_the_key : (key : List ℕ) (ws : List (List ℕ)) (i : ℕ) → i < length key / 4
    → word_of (λ j. slice_index key (4 * i + j)) ≡ next_word key ws i
unfolding next_word
within_the_key key ws i below = grind (arith, nat_tests)

pub word_of_the_key : (key : List ℕ) (ws : List (List ℕ)) (i : ℕ) → i < length key / 4
    → chunk (4 * i) 4 key ≡ next_word key ws i
word_of_the_key key ws i below =
    word_from_bytes (λ j. slice_index key (4 * i + j)) (chunk (4 * i) 4 key)
    (length-chunk (4 * i) 4 key (omega arith))
    (λ k lt. get_or-chunk (4 * i) 4 key k 0 lt)
    ∙ within_the_key key ws i below

pub word_after_the_key : (key : List ℕ) (ws : List (List ℕ)) (i : ℕ) → length key / 4 ≤ i
    → add_words (slice_index_or ws (i - length key / 4) [])
    (addend (length key / 4) i (slice_index_or ws (i - 1) [])) ≡ next_word key ws i
unfolding next_word
word_after_the_key key ws i past = grind (arith, nat_tests)

-- only the words before it matter
next_word_of_front : (key : List ℕ) (ws : List (List ℕ)) (i : ℕ) → 4 ≤ length key
    → next_word key (take i ws) i ≡ next_word key ws i
next_word_of_front key ws i long =
    elim (cases_lt i (length key / 4)) [
      | inl below ↦ sym (within_the_key key (take i ws) i below) ∙ within_the_key key ws i below
      | inr past ↦
          sym (word_after_the_key key (take i ws) i past)
          ∙ ap₂ (λ v w. add_words v (addend (length key / 4) i w))
          (get_or-take i ws (i - length key / 4) [] (omega arith))
          (get_or-take i ws (i - 1) [] (omega arith))
          ∙ word_after_the_key key ws i past
    ]

pub key_expansion_more : (key : List ℕ) (ws : List (List ℕ)) (i : ℕ) → 4 ≤ length key
    → take i ws ≡ key_expansion key i
    → take i ws ++ next_word key ws i ∷ [] ≡ key_expansion key (i + 1)
unfolding key_expansion
key_expansion_more key ws i long so_far =
    rw (add-one i, ← so_far, next_word_of_front key ws i long) refl

-- a round key is made of its own words alone
pub round_key_of_front : (ws : List (List ℕ)) (n r : ℕ) → 4 * r + 3 < n
    → round_key (take n ws) r ≡ round_key ws r
unfolding round_key
round_key_of_front ws n r within =
    rw (
      get_or-take n ws (4 * r) [] (omega arith),
      get_or-take n ws (4 * r + 1) [] (omega arith),
      get_or-take n ws (4 * r + 2) [] (omega arith),
      get_or-take n ws (4 * r + 3) [] (omega arith),
    ) refl
