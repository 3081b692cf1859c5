-- Lemmas on texts, block by block.
use Rattle.std.proofs.Common.{◌≡◌, ℕ, zero, suc, ◌+◌, ◌-◌, ◌*◌, ◌<◌, ◌≤◌, List, ◌++◌, length, take}
use Rattle.std.proofs.Common.{drop, refl, sym, ◌∙◌, ap, ap₂, subst, inl, inr, arith, lit<}
use Rattle.std.proofs.Common.{append_assoc, length-append, length-drop, length-take, length-take-le}
use Rattle.std.proofs.Common.{suc-le-suc, mul-le-mul_right}
use Rattle.std.specs.Prelude.{get_or}
use Rattle.std.proofs.lemmas.Bool.{cases_lt}
use Rattle.std.proofs.lemmas.List.{take-append-drop, take-append-le, drop-append-le, take_all}
use Rattle.std.proofs.lemmas.List.{take-take, drop-drop, drop-take, nil_from_length, get_or_past}
use Rattle.std.proofs.lemmas.List.{get_or_append_left, get_or-append_right, get_or-take}
use Rattle.std.proofs.lemmas.List.{get_or-drop}
use Rattle.std.proofs.Math.Seq.{drop-append-add}
use Rattle.base_terms.specs.Blocks.{pasted}
use Rattle.cipher_laws.specs.Bytes.{AreBytes}
use Rattle.sector_disk.specs.DiskViews.Parts.{AreBlocks, block_at}
use Rattle.sector_disk.specs.DiskViews.Views.{IsOutside}

-- where blocks begin and end
pub block_end : (atom k : ℕ) → suc k * atom ≡ atom + k * atom
block_end atom k = grind arith

pub blocks_end : (atom m n : ℕ) → (m + n) * atom ≡ m * atom + n * atom
blocks_end atom m n = grind arith

pub block_within : (atom n k : ℕ) → k < n → k * atom + atom ≤ n * atom
block_within atom n k inside =
    let ends : suc k * atom ≤ n * atom = mul-le-mul_right atom inside in
    omega (arith, block_end atom k, ends)

pub blocks_within : (atom count at n : ℕ) (bytes : List ℕ) → length bytes ≡ count * atom
    → at + n ≤ count
    → (at + n) * atom ≤ length bytes
blocks_within atom count at n bytes long within =
    let ends : (at + n) * atom ≤ count * atom = mul-le-mul_right atom within in omega (arith, long)

-- bytes stay bytes in parts and one after the other
bytes_within : (xs : List ℕ) → ((k : ℕ) → k < length xs → get_or xs k 0 < 256) → AreBytes xs
bytes_within xs within k =
    elim (cases_lt k (length xs)) [
      | inl inside ↦ within k inside
      | inr past ↦ subst (λ x. x < 256) (sym (get_or_past xs k 0 past)) (lit< tt)
    ]

pub bytes-append : (xs ys : List ℕ) → AreBytes xs → AreBytes ys → AreBytes (xs ++ ys)
bytes-append xs ys in_xs in_ys k =
    elim (cases_lt k (length xs)) [
      | inl front ↦ subst (λ x. x < 256) (sym (get_or_append_left xs ys 0 k front)) (in_xs k)
      | inr behind ↦
          subst (λ x. x < 256) (sym (get_or-append_right xs ys (length xs) k 0 refl behind))
          (in_ys (k - length xs))
    ]

pub bytes-drop : (n : ℕ) (xs : List ℕ) → AreBytes xs → AreBytes (drop n xs)
bytes-drop n xs in_xs k = subst (λ x. x < 256) (sym (get_or-drop n xs k 0)) (in_xs (n + k))

pub bytes-take : (n : ℕ) (xs : List ℕ) → AreBytes xs → AreBytes (take n xs)
bytes-take n xs in_xs = bytes_within (take n xs)
    (λ k inside. let below : k < n = omega (arith, length-take n xs) in
    subst (λ x. x < 256) (sym (get_or-take n xs k 0 below)) (in_xs k))

-- a block's bytes
pub length-block_at : (atom n : ℕ) (bytes : List ℕ) (k : ℕ) → k < n → n * atom ≤ length bytes
    → length (block_at atom bytes k) ≡ atom
length-block_at atom n bytes k inside enough =
    length-take-le atom (drop (k * atom) bytes)
    (rw (length-drop (k * atom) bytes) (omega (arith, block_within atom n k inside)))

-- a place at which a text has a whole block lies within it
pub place_of_whole : (atom : ℕ) (bytes : List ℕ) (place : ℕ) → 0 < atom
    → length (block_at atom bytes place) ≡ atom → suc place * atom ≤ length bytes
place_of_whole atom bytes place some whole =
    let taken = length-take atom (drop (place * atom) bytes) in
    let left = length-drop (place * atom) bytes in
    omega (arith, some, whole, taken, left, block_end atom place)

pub blocks_of_whole : (atom at n : ℕ) (bytes : List ℕ) → 0 < atom → 0 < n
    → ((k : ℕ) → k < n → length (block_at atom bytes (at + k)) ≡ atom)
    → (at + n) * atom ≤ length bytes
blocks_of_whole atom at n bytes some more whole =
    let last : suc (at + (n - 1)) ≡ at + n = omega arith in
    subst (λ m. m * atom ≤ length bytes) last
    (place_of_whole atom bytes (at + (n - 1)) some (whole (n - 1) (omega arith)))

pub bytes-block_at : (atom : ℕ) (bytes : List ℕ) (k : ℕ) → AreBytes bytes
    → AreBytes (block_at atom bytes k)
bytes-block_at atom bytes k are =
    bytes-take atom (drop (k * atom) bytes) (bytes-drop (k * atom) bytes are)

-- the first block of a text, and a text of one block
pub block_at-first : (atom : ℕ) (bytes : List ℕ) → block_at atom bytes 0 ≡ take atom bytes
block_at-first atom bytes =
    ap (λ n. take atom (drop n bytes)) (let e : 0 * atom ≡ 0 = omega arith in e)

pub block_at-one : (atom : ℕ) (bytes : List ℕ) → length bytes ≡ 1 * atom
    → block_at atom bytes 0 ≡ bytes
block_at-one atom bytes is = block_at-first atom bytes ∙ take_all atom bytes (omega arith)

-- the blocks of what lies behind some blocks
pub block_at-drop : (atom s : ℕ) (bytes : List ℕ) (k : ℕ)
    → block_at atom (drop (s * atom) bytes) k ≡ block_at atom bytes (s + k)
block_at-drop atom s bytes k =
    ap (λ rest. take atom rest) (drop-drop (k * atom) (s * atom) bytes
    ∙ ap (λ n. drop n bytes) (sym (blocks_end atom s k)))

pub block_at-next : (atom : ℕ) (bytes : List ℕ) (k : ℕ)
    → block_at atom (drop atom bytes) k ≡ block_at atom bytes (suc k)
block_at-next atom bytes k =
    ap (λ rest. take atom rest) (drop-drop (k * atom) atom bytes
    ∙ ap (λ n. drop n bytes) (sym (block_end atom k)))

-- the blocks of a front
pub block_at-take : (atom n : ℕ) (bytes : List ℕ) (k : ℕ) → k < n
    → block_at atom (take (n * atom) bytes) k ≡ block_at atom bytes k
block_at-take atom n bytes k inside =
    let within = block_within atom n k inside in
    let split : n * atom ≡ k * atom + (n * atom - k * atom) = omega (arith, within) in
    ap (λ m. take atom (drop (k * atom) (take m bytes))) split
    ∙ ap (λ rest. take atom rest) (drop-take (k * atom) (n * atom - k * atom) bytes)
    ∙ take-take atom (n * atom - k * atom) (drop (k * atom) bytes) (omega (arith, within))

-- the blocks of a part
pub block_at-part : (atom s n : ℕ) (bytes : List ℕ) (k : ℕ) → k < n
    → block_at atom (take (n * atom) (drop (s * atom) bytes)) k ≡ block_at atom bytes (s + k)
block_at-part atom s n bytes k inside =
    block_at-take atom n (drop (s * atom) bytes) k inside ∙ block_at-drop atom s bytes k

pub length-part : (atom s n : ℕ) (bytes : List ℕ) → (s + n) * atom ≤ length bytes
    → length (take (n * atom) (drop (s * atom) bytes)) ≡ n * atom
length-part atom s n bytes within =
    length-take-le (n * atom) (drop (s * atom) bytes)
    (rw (length-drop (s * atom) bytes) (omega (arith, blocks_end atom s n)))

-- the blocks of two texts one after the other
pub block_at-front : (atom n : ℕ) (xs ys : List ℕ) (k : ℕ) → k < n → n * atom ≤ length xs
    → block_at atom (xs ++ ys) k ≡ block_at atom xs k
block_at-front atom n xs ys k inside enough =
    let within = block_within atom n k inside in
    ap (λ rest. take atom rest) (drop-append-le (k * atom) xs ys (omega (arith, within)))
    ∙ take-append-le atom (drop (k * atom) xs) ys
    (rw (length-drop (k * atom) xs) (omega (arith, within)))

pub block_at-behind : (atom n : ℕ) (xs ys : List ℕ) (k : ℕ) → length xs ≡ n * atom
    → block_at atom (xs ++ ys) (n + k) ≡ block_at atom ys k
block_at-behind atom n xs ys k is =
    let place : (n + k) * atom ≡ length xs + k * atom = omega (arith, blocks_end atom n k) in
    ap (λ m. take atom (drop m (xs ++ ys))) place
    ∙ ap (λ rest. take atom rest) (drop-append-add xs ys (k * atom))

-- texts with the same blocks are the same
pub same_blocks : (atom n : ℕ) (xs ys : List ℕ) → length xs ≡ n * atom → length ys ≡ n * atom
    → ((k : ℕ) → k < n → block_at atom xs k ≡ block_at atom ys k) → xs ≡ ys
same_blocks atom zero xs ys long_xs long_ys same =
    nil_from_length xs (omega arith) ∙ sym (nil_from_length ys (omega arith))
same_blocks atom (suc n) xs ys long_xs long_ys same =
    let one = block_end atom n in
    let first : take atom xs ≡ take atom ys =
    sym (block_at-first atom xs) ∙ same 0 (omega arith) ∙ block_at-first atom ys in
    let rest : drop atom xs ≡ drop atom ys =
    same_blocks atom n (drop atom xs) (drop atom ys)
    (length-drop atom xs ∙ (let e : length xs - atom ≡ n * atom = omega (arith, one) in e))
    (length-drop atom ys ∙ (let e : length ys - atom ≡ n * atom = omega (arith, one) in e))
    (λ k inside. block_at-next atom xs k ∙ same (suc k) (suc-le-suc inside)
    ∙ sym (block_at-next atom ys k)) in
    sym (take-append-drop atom xs) ∙ ap₂ (λ front behind. front ++ behind) first rest
    ∙ take-append-drop atom ys

-- bytes of whole blocks, in parts and one after the other
pub one_block : (atom n : ℕ) (bytes : List ℕ) (k : ℕ) → AreBlocks atom n bytes → k < n
    → AreBlocks atom 1 (block_at atom bytes k)
one_block atom n bytes k are inside = record {
  size = length-block_at atom n bytes k inside (omega (arith, are.size)) ∙ omega arith;
  are_bytes = bytes-block_at atom bytes k are.are_bytes;
}

pub blocks_joined : (atom m n : ℕ) (xs ys : List ℕ) → AreBlocks atom m xs → AreBlocks atom n ys
    → AreBlocks atom (m + n) (xs ++ ys)
blocks_joined atom m n xs ys first rest = record {
  size = length-append xs ys ∙ ap₂ (λ a b. a + b) first.size rest.size ∙ sym (blocks_end atom m n);
  are_bytes = bytes-append xs ys first.are_bytes rest.are_bytes;
}

pub blocks_part : (atom count s n : ℕ) (bytes : List ℕ) → AreBlocks atom count bytes → s + n ≤ count
    → AreBlocks atom n (take (n * atom) (drop (s * atom) bytes))
blocks_part atom count s n bytes are within = record {
  size = length-part atom s n bytes (blocks_within atom count s n bytes are.size within);
  are_bytes =
      bytes-take (n * atom) (drop (s * atom) bytes) (bytes-drop (s * atom) bytes are.are_bytes);
}

-- a text put in place of blocks of another
pub length-pasted : (old : List ℕ) (at : ℕ) (text : List ℕ) → at + length text ≤ length old
    → length (pasted old at text) ≡ length old
unfolding pasted
length-pasted old at text within =
    let front = length-take-le at old (omega arith) in
    let behind = length-drop (at + length text) old in
    length-append (take at old ++ text) (drop (at + length text) old)
    ∙ ap (λ n. n + length (drop (at + length text) old)) (length-append (take at old) text)
    ∙ omega (arith, front, behind)

pub length-pasted_blocks : (atom at n : ℕ) (old text : List ℕ) → (at + n) * atom ≤ length old
    → length text ≡ n * atom → length (pasted old (at * atom) text) ≡ length old
length-pasted_blocks atom at n old text within is =
    length-pasted old (at * atom) text (omega (arith, blocks_end atom at n))

pub block_at-pasted : (atom at n : ℕ) (old text : List ℕ) (k : ℕ) → (at + n) * atom ≤ length old
    → length text ≡ n * atom → k < n
    → block_at atom (pasted old (at * atom) text) (at + k) ≡ block_at atom text k
unfolding pasted
block_at-pasted atom at n old text k within is inside =
    let front = length-take-le (at * atom) old (omega (arith, blocks_end atom at n)) in
    ap (λ all. block_at atom all (at + k))
    (append_assoc (take (at * atom) old) text (drop (at * atom + length text) old))
    ∙ block_at-behind atom at (take (at * atom) old) (text ++ drop (at * atom + length text) old) k
    front
    ∙ block_at-front atom n text (drop (at * atom + length text) old) k inside (omega arith)

pub block_at-pasted_outside : (atom at n : ℕ) (old text : List ℕ) (place : ℕ)
    → (at + n) * atom ≤ length old → length text ≡ n * atom → IsOutside at n place
    → block_at atom (pasted old (at * atom) text) place ≡ block_at atom old place
unfolding pasted
block_at-pasted_outside atom at n old text place within is (inl before) =
    let front = length-take-le (at * atom) old (omega (arith, blocks_end atom at n)) in
    ap (λ all. block_at atom all place)
    (append_assoc (take (at * atom) old) text (drop (at * atom + length text) old))
    ∙ block_at-front atom at (take (at * atom) old) (text ++ drop (at * atom + length text) old)
    place before
    (omega (arith, front))
    ∙ block_at-take atom at old place before
block_at-pasted_outside atom at n old text place within is (inr behind) =
    let ends = blocks_end atom at n in
    let front = length-take-le (at * atom) old (omega (arith, ends)) in
    let k = place - at - n in
    let rest : List ℕ = drop (at * atom + length text) old in
    let split : place ≡ at + (n + k) = omega arith in
    let total : at + n + k ≡ place = omega arith in
    let past : at * atom + length text ≡ (at + n) * atom = omega (arith, ends) in
    ap (λ all. block_at atom all place) (append_assoc (take (at * atom) old) text rest)
    ∙ ap (λ p. block_at atom (take (at * atom) old ++ (text ++ rest)) p) split
    ∙ block_at-behind atom at (take (at * atom) old) (text ++ rest) (n + k) front
    ∙ block_at-behind atom n text rest k is
    ∙ ap (λ m. block_at atom (drop m old) k) past
    ∙ block_at-drop atom (at + n) old k
    ∙ ap (λ p. block_at atom old p) total
