-- Bytes that are changed in runs of sectors, each under the number of its first unit.
use Rattle.std.proofs.Common.{◌≡◌, ℕ, zero, suc, ◌+◌, ◌-◌, ◌*◌, ◌/◌, ◌%◌, ◌<◌, ◌≤◌, List, ◌++◌}
use Rattle.std.proofs.Common.{length, take, drop, ap, sym, ◌∙◌, arith, inl, inr, length-drop}
use Rattle.std.proofs.lemmas.Bool.{cases_lt}
use Rattle.std.proofs.lemmas.List.{nil_from_length, take_all, drop-drop, length-take-le}
use Rattle.std.proofs.lemmas.List.{take-append-drop}
use Rattle.std.proofs.Math.Nat.{mod-add-div', add-mul-mod_self_right, mul-mod_left, mul_assoc}
use Rattle.std.proofs.Math.Nat.{le-mul_of_pos_right}
use Rattle.std.specs.Fork.{slice_chunk, IsChunk}
use Rattle.cipher_laws.specs.Bytes.{AreBytes, AreSectors}
use Rattle.cipher_laws.specs.Laws.{KeepsLengths, JoinsSectors}
use Rattle.cipher_laws.specs.Pieces.{worked}
use Rattle.cipher_laws.specs.Sectors.{by_sectors}
use Rattle.cipher_laws.specs.CipherBlocks.BytesLaws.{bytes-take, bytes-drop}
use Rattle.cipher_laws.specs.CipherBlocks.RowLaws.{whole_sectors}

-- a multiple is some times the number
multiple_is : (m a : ℕ) → a % m ≡ 0 → a ≡ a / m * m
multiple_is m a whole = sym (mod-add-div' a m) ∙ ap (λ (r : ℕ). r + a / m * m) whole ∙ omega arith

-- the difference of two multiples is one
pub multiple_minus : (m a b : ℕ) → a % m ≡ 0 → b % m ≡ 0 → b ≤ a → (a - b) % m ≡ 0
multiple_minus m a b whole_a whole_b le =
    let b_is : b ≡ b / m * m = multiple_is m b whole_b in
    let sum : (a - b) + b / m * m ≡ a = omega (arith, b_is) in
    sym (add-mul-mod_self_right (a - b) (b / m) m) ∙ ap (λ (n : ℕ). n % m) sum ∙ whole_a

-- and so is a multiple of a multiple
pub multiple_times : (m n a : ℕ) → a % m ≡ 0 → n * a % m ≡ 0
multiple_times m n a whole =
    ap (λ (k : ℕ). n * k % m) (multiple_is m a whole)
    ∙ ap (λ (k : ℕ). k % m) (sym (mul_assoc n (a / m) m)) ∙ mul-mod_left (n * (a / m)) m

pub multiple_through : (m n a : ℕ) → a % n ≡ 0 → n % m ≡ 0 → a % m ≡ 0
multiple_through m n a whole_a whole_n =
    ap (λ (k : ℕ). k % m) (multiple_is n a whole_a) ∙ multiple_times m (a / n) n whole_n

front_sectors : (sector n : ℕ) (xs : List ℕ) → AreSectors sector xs → n % sector ≡ 0 → n ≤ length xs
    → AreSectors sector (take n xs)
front_sectors sector n xs are whole le =
    record {
      whole = ap (λ (k : ℕ). k % sector) (length-take-le n xs le) ∙ whole;
      are_bytes =
          bytes-take n xs are.are_bytes;
    }

back_sectors : (sector n : ℕ) (xs : List ℕ) → AreSectors sector xs → n % sector ≡ 0 → n ≤ length xs
    → AreSectors sector (drop n xs)
back_sectors sector n xs are whole le = record {
  whole = ap (λ (k : ℕ). k % sector) (length-drop n xs)
      ∙ multiple_minus sector (length xs) n are.whole whole le;
  are_bytes = bytes-drop n xs are.are_bytes;
}

-- a law of sectors, cut at n bytes
cut : (sector : ℕ) (change : ℕ → List ℕ → List ℕ) → JoinsSectors sector change
    → (first n : ℕ) (xs : List ℕ) → AreSectors sector xs → n % sector ≡ 0 → n ≤ length xs →
    change first xs ≡ change first (take n xs) ++ change (first + n / 512) (drop n xs)
cut sector change joins first n xs are whole le =
    ap (change first) (sym (take-append-drop n xs))
    ∙ joins first (take n xs) (drop n xs) (front_sectors sector n xs are whole le)
    (back_sectors sector n xs are whole le)
    ∙ ap (λ (k : ℕ). change first (take n xs) ++ change (first + k / 512) (drop n xs))
    (length-take-le n xs le)

-- chunks of `size` bytes that are each changed under their number are all of the bytes changed
-- under the first
pub chunks_changed : (sector : ℕ) (change : ℕ → List ℕ → List ℕ) → JoinsSectors sector change
    → (size : ℕ) → size % sector ≡ 0 → size % 512 ≡ 0 → 0 < size →
    (m first : ℕ) (xs ys : List ℕ) → length xs ≤ m * size → 0 < length xs → AreSectors sector xs
    → length ys ≡ length xs →
    ((n : ℕ) → n * size < length xs
    → slice_chunk ys size n ≡ change (first + n * size / 512) (slice_chunk xs size n))
    → ys ≡ change first xs
chunks_changed sector change joins size whole units some zero first xs ys fits any are long chunks =
    absurd (omega arith)
chunks_changed sector change joins size whole units some (suc m) first xs ys fits any are long
    chunks =
    let none : 0 * size ≡ 0 = omega arith in
    let start : first + 0 * size / 512 ≡ first =
    ap (λ (k : ℕ). first + k / 512) none ∙ omega arith in
    let here : take size ys ≡ change first (take size xs) =
    sym (ap (λ (k : ℕ). take size (drop k ys)) none) ∙ chunks 0 (omega (arith, none))
    ∙ ap (λ (k : ℕ). change (first + 0 * size / 512) (take size (drop k xs))) none
    ∙ ap (λ (k : ℕ). change k (take size xs)) start in
    elim (cases_lt size (length xs)) [
      | inl more ↦
          let rest_fits : length (drop size xs) ≤ m * size = grind (arith, length-drop) in
          let rest_any : 0 < length (drop size xs) = omega (arith, length-drop size xs) in
          let rest_long : length (drop size ys) ≡ length (drop size xs) =
          length-drop size ys ∙ ap (λ (k : ℕ). k - size) long ∙ sym (length-drop size xs) in
          let later = λ (n : ℕ) (below : n * size < length (drop size xs)).
          let place : suc n * size ≡ size + n * size = grind arith in
          let inside : suc n * size < length xs =
          omega (arith, place, below, length-drop size xs) in
          let number : first + suc n * size / 512 ≡ (first + size / 512) + n * size / 512 =
          omega (arith, place, units) in
          let cut_ys : slice_chunk (drop size ys) size n ≡ slice_chunk ys size (suc n) =
          ap (take size) (drop-drop (n * size) size ys ∙ ap (λ (k : ℕ). drop k ys) (sym place)) in
          let cut_xs : slice_chunk xs size (suc n) ≡ slice_chunk (drop size xs) size n =
          sym (ap (take size)
          (drop-drop (n * size) size xs ∙ ap (λ (k : ℕ). drop k xs) (sym place))) in
          cut_ys ∙ chunks (suc n) inside
          ∙ ap (λ (k : ℕ). change k (slice_chunk xs size (suc n))) number
          ∙ ap (change ((first + size / 512) + n * size / 512)) cut_xs
          in
          let rest =
          chunks_changed sector change joins size whole units some m (first + size / 512)
          (drop size xs) (drop size ys) rest_fits rest_any
          (back_sectors sector size xs are whole (omega arith)) rest_long later in
          sym (take-append-drop size ys)
          ∙ ap (λ (l : List ℕ). l ++ drop size ys) here
          ∙ ap (λ (l : List ℕ). change first (take size xs) ++ l) rest
          ∙ sym (cut sector change joins first size xs are whole (omega arith))
      | inr all ↦
          sym (take_all size ys (omega (arith, long))) ∙ here
          ∙ ap (change first) (take_all size xs (omega arith))
    ]

-- and atoms changed one by one are, too
atoms_changed : (sector : ℕ) (change : ℕ → List ℕ → List ℕ) → JoinsSectors sector change
    → KeepsLengths sector change → (atom : ℕ) → atom % sector ≡ 0 →
    (n first : ℕ) (bytes : List ℕ) → length bytes ≡ n * atom → AreSectors sector bytes →
    change first bytes ≡ worked change (λ number _ _. number + atom / 512) atom first n bytes
unfolding worked
atoms_changed sector change joins keeps atom whole zero first bytes long are =
    nil_from_length (change first bytes) (keeps first bytes are ∙ long ∙ omega arith)
atoms_changed sector change joins keeps atom whole (suc n) first bytes long are =
    let le : atom ≤ length bytes = grind (arith, long) in
    let rest_long : length (drop atom bytes) ≡ n * atom = grind (arith, length-drop, long) in
    cut sector change joins first atom bytes are whole le
    ∙ ap (λ (l : List ℕ). change first (take atom bytes) ++ l)
    (atoms_changed sector change joins keeps atom whole n (first + atom / 512) (drop atom bytes)
    rest_long (back_sectors sector atom bytes are whole le))

pub in_turn : (sector : ℕ) (change : ℕ → List ℕ → List ℕ) → JoinsSectors sector change
    → KeepsLengths sector change → (atom first : ℕ) (bytes : List ℕ) →
    0 < atom → atom % sector ≡ 0 → length bytes % atom ≡ 0 → AreBytes bytes
    → change first bytes ≡ by_sectors change atom first bytes
unfolding by_sectors
in_turn sector change joins keeps atom first bytes some whole atoms in_bytes =
    atoms_changed sector change joins keeps atom whole (length bytes / atom) first bytes
    (whole_sectors atom bytes some atoms)
    (record {
      whole = multiple_through sector atom (length bytes) atoms whole;
      are_bytes =
          in_bytes;
    })

-- a chunk of whole sectors is whole sectors, where its size is
pub chunk_whole : (sector size start : ℕ) (xs ys : List ℕ) → size % sector ≡ 0
    → length xs % sector ≡ 0 → IsChunk xs size start ys → length ys % sector ≡ 0
chunk_whole sector size start xs ys whole_size whole chunk =
    elim (cases_lt size (length xs - start)) [
      | inl more ↦ ap (λ (k : ℕ). k % sector) (omega (arith, chunk.len)) ∙ whole_size
      | inr last ↦ ap (λ (k : ℕ). k % sector) (omega (arith, chunk.len))
          ∙ multiple_minus sector (length xs) start whole
          (multiple_through sector size start chunk.start_is_multiple whole_size)
          (omega (arith, chunk.in_bounds))
    ]

-- chunks under their numbers, which are changed each, as one change
pub runs_changed : (sector : ℕ) (change : ℕ → List ℕ → List ℕ) → JoinsSectors sector change
    → (size : ℕ) → 0 < size → size % sector ≡ 0 → size % 512 ≡ 0 →
    (first : ℕ) (xs ys : List ℕ) → AreSectors sector xs → length ys ≡ length xs
    → KeepsLengths sector change →
    ((n : ℕ) → n * size < length xs
    → slice_chunk ys size n ≡ change (first + n * size / 512) (slice_chunk xs size n))
    → ys ≡ change first xs
runs_changed sector change joins size some whole units first xs ys are long keeps chunks =
    elim (cases_lt 0 (length xs)) [
      | inl any ↦
          chunks_changed sector change joins size whole units some (length xs) first xs ys
          (le-mul_of_pos_right (length xs) some) any are long chunks
      | inr none ↦
          nil_from_length ys (omega (arith, long))
          ∙ sym (nil_from_length (change first xs) (keeps first xs are ∙ omega arith))
    ]
