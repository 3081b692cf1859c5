-- AES undoes its inverse under each key: its round keys are blocks.
use Rattle.std.proofs.Common.{◌≡◌, ℕ, zero, suc, ◌+◌, ◌-◌, ◌*◌, ◌/◌, ◌%◌, ◌==◌, ◌<◌, ◌&&◌}
use Rattle.std.proofs.Common.{nat_lt, Bool, true, false, List, [], ◌∷◌, ◌++◌, length, slice_index}
use Rattle.std.proofs.Common.{slice_index_or, refl, arith, length-append}
use Rattle.std.proofs.lemmas.Nat.{xor_of_8}
use Rattle.std.specs.Prelude.{if◌then◌else◌}
use Rattle.aes_core.specs.Cipher.{aes, inverse_aes, round_keys_of}
use Rattle.aes_core.specs.KeySchedule.{add_words, addend, key_expansion, key_words, next_word}
use Rattle.aes_core.specs.KeySchedule.{power_of_x, rot_word, round_constant, round_key, rounds_for}
use Rattle.aes_core.specs.KeySchedule.{sub_word, word_of}
use Rattle.aes_core.specs.Laws.{AreKeys, cipher_block, inverse_cipher_block, inverse_cipher_undone}
use Rattle.aes_core.specs.Laws.Bytes.{s_box_fits, times_x_fits}
use Rattle.cipher_laws.specs.CipherBlocks.BytesLaws.{bytes-append, no_bytes}
use Rattle.cipher_laws.specs.Bytes.{AreBytes, IsBlock}
use Rattle.cipher_laws.specs.Laws.{KeepsBlocks, UndoesBlocks}

-- ---- words
-- four bytes
record IsWord (w : List ℕ) : Type 0 where
  size : length w ≡ 4
  bytes : AreBytes w

bytes-by : (f : ℕ → ℕ) → ((i : ℕ) → f i < 256) → AreBytes (word_of f)
bytes-by f below zero = below 0
bytes-by f below (suc zero) = below 1
bytes-by f below (suc (suc zero)) = below 2
bytes-by f below (suc (suc (suc zero))) = below 3
bytes-by f below (suc (suc (suc (suc k)))) = omega arith

word-by : (f : ℕ → ℕ) → ((i : ℕ) → f i < 256) → IsWord (word_of f)
word-by f below = record { size = refl; bytes = bytes-by f below }

sum-word : (v w : List ℕ) → AreBytes v → AreBytes w → IsWord (add_words v w)
unfolding add_words
sum-word v w of_v of_w = word-by _ (λ i. xor_of_8 _ _ (of_v i) (of_w i))

power-below : (n : ℕ) → power_of_x n < 256
unfolding power_of_x
power-below zero = omega arith
power-below (suc n) = times_x_fits (power_of_x n) (power-below n)

constant-bytes : (j : ℕ) → AreBytes (round_constant j)
unfolding round_constant
constant-bytes j zero = power-below (j - 1)
constant-bytes j (suc zero) = omega arith
constant-bytes j (suc (suc zero)) = omega arith
constant-bytes j (suc (suc (suc zero))) = omega arith
constant-bytes j (suc (suc (suc (suc k)))) = omega arith

boxed-bytes : (w : List ℕ) → AreBytes (sub_word w)
unfolding sub_word
boxed-bytes w = bytes-by _ (λ i. s_box_fits (slice_index w i))

chosen : (P : List ℕ → Type 0) (b : Bool) (xs ys : List ℕ) → P xs → P ys
    → P (if b then xs else ys)
chosen P true xs ys of_xs of_ys = of_xs
chosen P false xs ys of_xs of_ys = of_ys

addend-bytes : (nk i : ℕ) (w : List ℕ) → AreBytes w → AreBytes (addend nk i w)
unfolding addend
addend-bytes nk i w of_w =
    chosen AreBytes (i % nk == 0) _ _
    (sum-word (sub_word (rot_word w)) (round_constant (i / nk)) (boxed-bytes (rot_word w))
    (constant-bytes (i / nk))).bytes
    (chosen AreBytes (nat_lt 6 nk && (i % nk == 4)) _ _ (boxed-bytes w) of_w)

-- ---- the schedule
-- of a list of words with one more
bytes-more : (ws : List (List ℕ)) (w : List ℕ) → ((k : ℕ) → AreBytes (slice_index_or ws k []))
    → AreBytes w → (k : ℕ) → AreBytes (slice_index_or (ws ++ w ∷ []) k [])
bytes-more [] w all one zero = one
bytes-more [] w all one (suc k) = no_bytes
bytes-more (v ∷ ws) w all one zero = all zero
bytes-more (v ∷ ws) w all one (suc k) = bytes-more ws w (λ j. all (suc j)) one k

sizes-more : (ws : List (List ℕ)) (w : List ℕ)
    → ((k : ℕ) → k < length ws → length (slice_index_or ws k []) ≡ 4) → length w ≡ 4 → (k : ℕ)
    → k < length (ws ++ w ∷ []) → length (slice_index_or (ws ++ w ∷ []) k []) ≡ 4
sizes-more [] w all one zero below = one
sizes-more [] w all one (suc k) below = absurd (omega (arith, below))
sizes-more (v ∷ ws) w all one zero below = all zero (omega arith)
sizes-more (v ∷ ws) w all one (suc k) below =
    sizes-more ws w (λ j inside. all (suc j) (omega (arith, inside))) one k (omega (arith, below))

next-is-word : (key : List ℕ) (ws : List (List ℕ)) (i : ℕ) → AreBytes key
    → ((k : ℕ) → AreBytes (slice_index_or ws k [])) → IsWord (next_word key ws i)
unfolding next_word
next-is-word key ws i of_key all =
    chosen IsWord (nat_lt i (key_words key)) _ _ (word-by _ (λ j. of_key (4 * i + j)))
    (sum-word _ _ (all (i - key_words key))
    (addend-bytes (key_words key) i (slice_index_or ws (i - 1) []) (all (i - 1))))

count : (key : List ℕ) (n : ℕ) → length (key_expansion key n) ≡ n
unfolding key_expansion
count key zero = refl
count key (suc n) =
    let long = length-append (key_expansion key n) (next_word key (key_expansion key n) n ∷ []) in
    let before = count key n in
    omega (arith, long, before)

schedule-bytes : (key : List ℕ) → AreBytes key → (n k : ℕ)
    → AreBytes (slice_index_or (key_expansion key n) k [])
unfolding key_expansion
schedule-bytes key of_key zero k = no_bytes
schedule-bytes key of_key (suc n) k =
    bytes-more (key_expansion key n) _ (schedule-bytes key of_key n)
    (next-is-word key (key_expansion key n) n of_key (schedule-bytes key of_key n)).bytes k

schedule-sizes : (key : List ℕ) → AreBytes key → (n k : ℕ) → k < length (key_expansion key n)
    → length (slice_index_or (key_expansion key n) k []) ≡ 4
unfolding key_expansion
schedule-sizes key of_key zero k below = absurd (omega (arith, below))
schedule-sizes key of_key (suc n) k below =
    sizes-more (key_expansion key n) _ (schedule-sizes key of_key n)
    (next-is-word key (key_expansion key n) n of_key (schedule-bytes key of_key n)).size k below

-- four words are a block
block-of : (ws : List (List ℕ)) (r : ℕ) → ((k : ℕ) → AreBytes (slice_index_or ws k []))
    → ((k : ℕ) → k < length ws → length (slice_index_or ws k []) ≡ 4) → 4 * r + 3 < length ws
    → IsBlock (round_key ws r)
unfolding round_key
block-of ws r bytes sizes within =
    let a = slice_index_or ws (4 * r) [] in
    let b = slice_index_or ws (4 * r + 1) [] in
    let c = slice_index_or ws (4 * r + 2) [] in
    let d = slice_index_or ws (4 * r + 3) [] in
    let of_a = sizes (4 * r) (omega (arith, within)) in
    let of_b = sizes (4 * r + 1) (omega (arith, within)) in
    let of_c = sizes (4 * r + 2) (omega (arith, within)) in
    let of_d = sizes (4 * r + 3) within in
    let two = length-append a b in
    let three = length-append (a ++ b) c in
    let four = length-append (a ++ b ++ c) d in
    record {
      length_is = omega (arith, of_a, of_b, of_c, of_d, two, three, four);
      are_bytes = bytes-append (a ++ b ++ c) d
          (bytes-append (a ++ b) c (bytes-append a b (bytes (4 * r)) (bytes (4 * r + 1)))
          (bytes (4 * r + 2)))
          (bytes (4 * r + 3));
    }

are-keys : (key : List ℕ) → AreBytes key → AreKeys (rounds_for key) (round_keys_of key)
are-keys key of_key r within =
    let words : ℕ = 4 * (rounds_for key + 1) in
    let long = count key words in
    block-of (key_expansion key words) r (schedule-bytes key of_key words)
    (schedule-sizes key of_key words) (omega (arith, long, within))

-- ---- AES
pub keeps : (key : List ℕ) → AreBytes key → KeepsBlocks (aes key)
unfolding aes
keeps key of_key block is =
    cipher_block (rounds_for key) (round_keys_of key) (are-keys key of_key) block is

pub keeps-back : (key : List ℕ) → AreBytes key → KeepsBlocks (inverse_aes key)
unfolding inverse_aes
keeps-back key of_key block is =
    inverse_cipher_block (rounds_for key) (round_keys_of key) (are-keys key of_key) block is

pub undoes : (key : List ℕ) → AreBytes key → UndoesBlocks (aes key) (inverse_aes key)
unfolding aes inverse_aes
undoes key of_key block is =
    inverse_cipher_undone (rounds_for key) (round_keys_of key) (are-keys key of_key) block is
