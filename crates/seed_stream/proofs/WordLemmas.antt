-- More words of a stream begin with the fewer ones.
use Rattle.std.proofs.Common.{◌≡◌, ◌<◌, ℕ, zero, suc, ◌+◌, ◌-◌, ◌*◌, ◌/◌, ◌%◌, List, [], ◌∷◌, ◌++◌}
use Rattle.std.proofs.Common.{length, slice_index}
use Rattle.std.proofs.Common.{take, refl, sym, ◌∙◌, ap, arith, length-append, zero-add, suc-add}
use Rattle.std.proofs.lemmas.List.{length-take-le, take_all, take-take, take-append-le}
use Rattle.std.specs.Int.{w32, to_le_bytes}
use Rattle.rand_core.specs.Steps.{word_bytes, fill_via_u32}

four : (w : ℕ) → length (to_le_bytes w32 w) ≡ 4
four w = refl

-- a word is four bytes
words-count : {S : Type 0} (step : S → ℕ × S) (k : ℕ) (s : S)
    → length (word_bytes (to_le_bytes w32) step k s).0 ≡ 4 * k
unfolding word_bytes
words-count step zero s = refl
words-count step (suc k) s =
    let before = word_bytes (to_le_bytes w32) step k s in
    let long = length-append before.0 (to_le_bytes w32 (step before.1).0) in
    let one = four (step before.1).0 in
    let rest = words-count step k s in
    omega (arith, long, one, rest)

-- the front of more words is the fewer ones
words-front : {S : Type 0} (step : S → ℕ × S) (k more : ℕ) (s : S)
    → take (4 * k) (word_bytes (to_le_bytes w32) step (more + k) s).0
    ≡ (word_bytes (to_le_bytes w32) step k s).0
unfolding word_bytes
words-front step k zero s =
    let long = words-count step k s in
    rw (zero-add)
    (take_all (4 * k) (word_bytes (to_le_bytes w32) step k s).0 (omega (arith, long)))
words-front step k (suc more) s =
    let before = word_bytes (to_le_bytes w32) step (more + k) s in
    let long = words-count step (more + k) s in
    rw (suc-add)
    (take-append-le (4 * k) before.0 (to_le_bytes w32 (step before.1).0) (omega (arith, long))
    ∙ words-front step k more s)

-- each is a byte
bytes-more : (xs ys : List ℕ) → ((k : ℕ) → slice_index xs k < 256)
    → ((k : ℕ) → slice_index ys k < 256) → (k : ℕ) → slice_index (xs ++ ys) k < 256
bytes-more [] ys of_xs of_ys k = of_ys k
bytes-more (x ∷ xs) ys of_xs of_ys zero = of_xs zero
bytes-more (x ∷ xs) ys of_xs of_ys (suc k) = bytes-more xs ys (λ j. of_xs (suc j)) of_ys k

word-bytes : (w k : ℕ) → slice_index (to_le_bytes w32 w) k < 256
word-bytes w zero = omega arith
word-bytes w (suc zero) = omega arith
word-bytes w (suc (suc zero)) = omega arith
word-bytes w (suc (suc (suc zero))) = omega arith
word-bytes w (suc (suc (suc (suc k)))) = omega arith

words-bytes : {S : Type 0} (step : S → ℕ × S) (n : ℕ) (s : S) (k : ℕ)
    → slice_index (word_bytes (to_le_bytes w32) step n s).0 k < 256
unfolding word_bytes
words-bytes step zero s k = omega arith
words-bytes step (suc n) s k =
    let before = word_bytes (to_le_bytes w32) step n s in
    bytes-more before.0 (to_le_bytes w32 (step before.1).0) (words-bytes step n s)
    (word-bytes (step before.1).0) k

fewer-bytes : (n : ℕ) (xs : List ℕ) → ((k : ℕ) → slice_index xs k < 256) → (k : ℕ)
    → slice_index (take n xs) k < 256
fewer-bytes zero xs of_xs k = omega arith
fewer-bytes (suc n) [] of_xs k = of_xs k
fewer-bytes (suc n) (x ∷ xs) of_xs zero = of_xs zero
fewer-bytes (suc n) (x ∷ xs) of_xs (suc k) = fewer-bytes n xs (λ j. of_xs (suc j)) k

pub fill-bytes : {S : Type 0} (step : S → ℕ × S) (n : ℕ) (s : S) (k : ℕ)
    → slice_index (fill_via_u32 step n s).0 k < 256
fill-bytes step n s k =
    fewer-bytes n (word_bytes (to_le_bytes w32) step ((n + 3) / 4) s).0
    (words-bytes step ((n + 3) / 4) s) k

-- as many bytes as are asked for
pub fill-count : {S : Type 0} (step : S → ℕ × S) (n : ℕ) (s : S)
    → length (fill_via_u32 step n s).0 ≡ n
fill-count step n s =
    let long = words-count step ((n + 3) / 4) s in
    length-take-le n (word_bytes (to_le_bytes w32) step ((n + 3) / 4) s).0 (omega (arith, long))

-- behind whole words more bytes begin with the fewer ones
pub fill-front : {S : Type 0} (step : S → ℕ × S) (n more : ℕ) (s : S) → n % 4 ≡ 0
    → take n (fill_via_u32 step (n + more) s).0 ≡ (fill_via_u32 step n s).0
fill-front step n more s whole =
    let k : ℕ = (n + 3) / 4 in
    let m : ℕ = (n + more + 3) / 4 in
    let bytes : n ≡ 4 * k = omega (arith, whole) in
    let words : m ≡ (m - k) + k = omega arith in
    let all : List ℕ = (word_bytes (to_le_bytes w32) step m s).0 in
    let long = words-count step k s in
    take-take n (n + more) all (omega arith)
    ∙ ap (λ j. take j all) bytes
    ∙ ap (λ j. take (4 * k) (word_bytes (to_le_bytes w32) step j s).0) words
    ∙ words-front step k (m - k) s
    ∙ sym (take_all n (word_bytes (to_le_bytes w32) step k s).0 (omega (arith, long, bytes)))
