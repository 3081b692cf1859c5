-- Sectors in a row that are changed at one place each, and rows that stand in longer ones.
use Rattle.std.proofs.Common.{◌≡◌, ℕ, zero, suc, ◌+◌, ◌-◌, ◌*◌, ◌/◌, ◌%◌, ◌<◌, ◌≤◌, ◌^◌, List, ◌++◌}
use Rattle.std.proofs.Common.{length, take, drop, ap, sym, subst, refl, ◌∙◌, arith, inl, inr}
use Rattle.std.proofs.Common.{append_assoc, length-append, length-drop}
use Rattle.std.proofs.lemmas.Bool.{cases_lt}
use Rattle.std.proofs.lemmas.List.{take_at, drop_at, take_all, take-take, drop-take, drop-drop}
use Rattle.std.proofs.lemmas.List.{drop_all, length-take-le, take-append-drop}
use Rattle.std.proofs.Math.Nat.{mod-add-div', div-mul-le_self, mul-le-mul_left, mul-le-mul_right}
use borrow.Rule.Slice.PartMut.{put_mid}
use Rattle.cipher_laws.specs.CipherBlocks.Blocks.{block_of, with_block, joined}
use Rattle.cipher_laws.specs.CipherBlocks.RowLaws.{sectors_within, units_within}
use Rattle.cbc_essiv.specs.Rows.{sector_of}

-- sectors before one lie before it
sectors_before : (size k n : ℕ) → k < n → size * k + size ≤ size * n
sectors_before size k n below = omega (arith, mul-le-mul_left size below)

-- a piece that lies in the front of a list
front_alone : (m a n : ℕ) (xs : List ℕ) → a + m ≤ n
    → take m (drop a xs) ≡ take m (drop a (take n xs))
front_alone m a n xs fits =
    let whole : n ≡ a + (n - a) = omega arith in
    sym (ap (λ (k : ℕ). take m (drop a (take k xs))) whole ∙ ap (take m) (drop-take a (n - a) xs)
    ∙ take-take m (n - a) (drop a xs) (omega arith))

pub length-sector : (size k : ℕ) (row : List ℕ) → k < 8 → length row ≡ 8 * size
    → length (sector_of size k row) ≡ size
length-sector size k row below long =
    length-take-le size (drop (size * k) row)
    (omega (arith, length-drop (size * k) row, sectors_before size k 8 below))

-- a block of a sector is a block of the row
pub block_in_sector : (size k at : ℕ) (row : List ℕ) → at + 16 ≤ size
    → block_of (sector_of size k row) at ≡ block_of row (size * k + at)
block_in_sector size k at row within =
    sym (front_alone 16 at size (drop (size * k) row) within)
    ∙ ap (take 16) (drop-drop at (size * k) row)

-- a sector is put into a row: it stands there, and the sectors before and after it stand as they
-- did
sector_here : (size n : ℕ) (old sector new : List ℕ) → size * n ≤ length old → length sector ≡ size
    → new ≡ (take (size * n) old ++ sector) ++ drop (size * n + size) old
    → sector_of size n new ≡ sector
sector_here size n old sector new within long is =
    let front : List ℕ = take (size * n) old in
    let rest : List ℕ = drop (size * n + size) old in
    ap (λ (l : List ℕ). take size (drop (size * n) l)) (is ∙ append_assoc front sector rest)
    ∙ ap (take size)
    (drop_at front (sector ++ rest) (size * n) (length-take-le (size * n) old within))
    ∙ take_at sector rest size long

sector_before : (size n k : ℕ) (old sector new : List ℕ) → k < n → size * n ≤ length old
    → new ≡ (take (size * n) old ++ sector) ++ drop (size * n + size) old
    → sector_of size k new ≡ sector_of size k old
sector_before size n k old sector new below within is =
    let front : List ℕ = take (size * n) old in
    let rest : List ℕ = drop (size * n + size) old in
    let fits : size * k + size ≤ size * n = sectors_before size k n below in
    let same : take (size * n) new ≡ front =
    ap (take (size * n)) (is ∙ append_assoc front sector rest)
    ∙ take_at front (sector ++ rest) (size * n) (length-take-le (size * n) old within) in
    front_alone size (size * k) (size * n) new fits
    ∙ ap (λ (l : List ℕ). take size (drop (size * k) l)) same
    ∙ sym (front_alone size (size * k) (size * n) old fits)

sector_after : (size n k : ℕ) (old sector new : List ℕ) → n < k → size * n ≤ length old
    → length sector ≡ size → new ≡ (take (size * n) old ++ sector) ++ drop (size * n + size) old
    → sector_of size k new ≡ sector_of size k old
sector_after size n k old sector new above within long is =
    let front : List ℕ = take (size * n) old in
    let past : ℕ = size * n + size in
    let fits : past ≤ size * k = sectors_before size n k above in
    let whole : size * k ≡ past + (size * k - past) = omega arith in
    let done : length (front ++ sector) ≡ past =
    length-append front sector ∙ omega (arith, long, length-take-le (size * n) old within) in
    let same : drop past new ≡ drop past old =
    ap (drop past) is ∙ drop_at (front ++ sector) (drop past old) past done in
    let further : (xs : List ℕ) → drop (size * k) xs ≡ drop (size * k - past) (drop past xs) =
    λ xs. ap (λ (m : ℕ). drop m xs) whole ∙ sym (drop-drop (size * k - past) past xs) in
    ap (take size) (further new ∙ ap (drop (size * k - past)) same ∙ sym (further old))

-- the first n of eight sectors have these blocks at a place, and the others stand as they did
pub record ArePutApart (size at n : ℕ) (blocks : ℕ → List ℕ) (old new : List ℕ) : Type 0 where
  pub put : (k : ℕ) → k < n → k < 8
      → sector_of size k new ≡ with_block (sector_of size k old) at (blocks k)
  pub left : (k : ℕ) → n ≤ k → k < 8 → sector_of size k new ≡ sector_of size k old

pub put_none : (size at : ℕ) (blocks : ℕ → List ℕ) (row : List ℕ)
    → ArePutApart size at 0 blocks row row
put_none size at blocks row =
    record { put = λ k below _. absurd (omega (arith, below)); left = λ _ _ _. refl }

pub put_more : {size at n : ℕ} {blocks : ℕ → List ℕ} {old mid : List ℕ}
    → ArePutApart size at n blocks old mid → (past m : ℕ) (sector : List ℕ) → n < 8
    → length mid ≡ 8 * size →
    past ≡ suc n → m ≡ size → length sector ≡ size
    → sector ≡ with_block (sector_of size n mid) at (blocks n)
    → ArePutApart size at past blocks old (put_mid (size * n) m mid sector)
put_more {size} {at} {n} {blocks} {old} {mid} apart past m sector inside whole next m_is long
    sector_is =
    let within : size * n ≤ length mid = omega (arith, whole, sectors_before size n 8 inside) in
    let new : List ℕ = put_mid (size * n) m mid sector in
    let rest : drop m (drop (size * n) mid) ≡ drop (size * n + size) mid =
    ap (λ (k : ℕ). drop k (drop (size * n) mid)) m_is ∙ drop-drop size (size * n) mid in
    let is : new ≡ (take (size * n) mid ++ sector) ++ drop (size * n + size) mid =
    ap (λ (l : List ℕ). take (size * n) mid ++ (sector ++ l)) rest
    ∙ sym (append_assoc (take (size * n) mid) sector (drop (size * n + size) mid)) in
    let here : sector_of size n new ≡ with_block (sector_of size n old) at (blocks n) =
    sector_here size n mid sector new within long is ∙ sector_is
    ∙ ap (λ (s : List ℕ). with_block s at (blocks n)) (apart.left n (omega arith) inside) in
    record {
      put = λ k below in_row. elim (cases_lt k n) [
        | inl before ↦
            sector_before size n k mid sector new before within is ∙ apart.put k before in_row
        | inr last ↦ let same : n ≡ k =
            omega (arith, below, last, next) in
            subst (λ (j : ℕ). sector_of size j new
            ≡ with_block (sector_of size j old) at (blocks j)) same here
      ];
      left = λ k after in_row. sector_after size n k mid sector new (omega (arith, after, next))
          within long is ∙ apart.left k (omega (arith, after, next)) in_row;
    }

-- a sector of a row that stands in a longer one
pub sector_in_row : (size k at : ℕ) (bytes : List ℕ) → k < 8
    → sector_of size k (take (8 * size) (drop at bytes)) ≡ take size (drop (at + size * k) bytes)
sector_in_row size k at bytes below =
    let fits : size * k + size ≤ 8 * size = omega (arith, sectors_before size k 8 below) in
    sym (front_alone size (size * k) (8 * size) (drop at bytes) fits)
    ∙ ap (take size) (drop-drop (size * k) at bytes)

-- a row is its sectors from one on, joined
sectors_joined : (size j n : ℕ) (row : List ℕ) → length row ≡ size * (j + n)
    → joined (λ k. sector_of size k row) j n ≡ drop (size * j) row
unfolding joined
sectors_joined size j zero row long = sym (drop_all (size * j) row (omega (arith, long)))
sectors_joined size j (suc n) row long =
    let next : size * suc j ≡ size * j + size = omega arith in
    let rest = sectors_joined size (suc j) n row (long ∙ ap (λ (k : ℕ). size * k) (omega arith)) in
    ap (λ (l : List ℕ). sector_of size j row ++ l)
    (rest ∙ ap (λ (k : ℕ). drop k row) next ∙ sym (drop-drop size (size * j) row))
    ∙ take-append-drop size (drop (size * j) row)

pub eight_joined : (size : ℕ) (row : List ℕ) → length row ≡ 8 * size
    → joined (λ k. sector_of size k row) 0 8 ≡ row
eight_joined size row long =
    let start : size * 0 ≡ 0 = omega arith in
    sectors_joined size 0 8 row (omega (arith, long)) ∙ ap (λ (k : ℕ). drop k row) start

-- a row of eight is put into a longer one
pub row_put : (size at m : ℕ) (old row : List ℕ) → m ≡ 8 * size → length row ≡ 8 * size
    → put_mid at m old row
    ≡ (take at old ++ joined (λ k. sector_of size k row) 0 8) ++ drop (at + size * 8) old
row_put size at m old row m_is long =
    let sides : m ≡ size * 8 = omega (arith, m_is) in
    let rest : drop m (drop at old) ≡ drop (at + size * 8) old =
    ap (λ (k : ℕ). drop k (drop at old)) sides ∙ drop-drop (size * 8) at old in
    ap (λ (l : List ℕ). take at old ++ (row ++ l)) rest
    ∙ ap (λ (l : List ℕ). take at old ++ (l ++ drop (at + size * 8) old))
    (sym (eight_joined size row long))
    ∙ sym (append_assoc (take at old) (joined (λ k. sector_of size k row) 0 8)
    (drop (at + size * 8) old))

-- eight sectors more lie within a row that has them
pub eight_within : (size long i : ℕ) → i < long / size / 8 → size * (8 * i) + 8 * size ≤ long
eight_within size long i inside =
    omega (arith, sectors_within size long (8 * i + 7) (omega (arith, inside)))

pub eight_units : (size long i : ℕ) → size % 512 ≡ 0 → i < long / size / 8
    → (8 * i + 8) * (size / 512) ≤ long / 512
eight_units size long i units inside =
    omega (arith, units_within size long (8 * i + 7) units (omega (arith, inside)))

le_seven : (k : ℕ) → k < 8 → k ≤ 7
le_seven k below = omega (arith, below)

-- so each of the eight has a number that fits
pub number_fits : (first number units i k long : ℕ) → number ≡ first + 8 * i * units
    → (8 * i + 8) * units ≤ long → first + long < 2 ^ 64 → k < 8 → number + k * units < 2 ^ 64
number_fits first number units i k long is within fits below =
    omega (arith, is, within, fits, mul-le-mul_right units (le_seven k below))

pub length-row_put : (at m : ℕ) (old row : List ℕ) → length row ≡ m → at + m ≤ length old
    → length (put_mid at m old row) ≡ length old
length-row_put at m old row long within =
    let rest : List ℕ = drop m (drop at old) in
    omega (
      arith,
      long,
      within,
      length-append (take at old) (row ++ rest),
      length-append row rest,
      length-take-le at old (omega (arith, within)),
      length-drop m (drop at old),
      length-drop at old,
    )

-- what is left of whole sectors after some of them
pub sectors_left : (size long n : ℕ) → 0 < size → long % size ≡ 0 → n ≤ long / size
    → long - size * n ≡ (long / size - n) * size
sectors_left size long n some whole within =
    let parts : long % size + long / size * size ≡ long = mod-add-div' long size in
    let count : long / size ≡ n + (long / size - n) = omega (arith, within) in
    let split : long / size * size ≡ n * size + (long / size - n) * size =
    ap (λ (k : ℕ). k * size) count ∙ omega arith in
    omega (arith, parts, split, whole)

-- sectors of whole units, in units
pub units_of : (size n : ℕ) → size % 512 ≡ 0 → size * n ≡ n * (size / 512) * 512
units_of size n units =
    let size_is : size ≡ size / 512 * 512 = omega (arith, units) in
    ap (λ (k : ℕ). k * n) size_is ∙ omega arith

-- the sectors after the first n of a row, as they are taken from it
pub rest_alone : (size n : ℕ) (row : List ℕ)
    → take (length row - size * n) (drop (size * n) row) ≡ drop (size * n) row
rest_alone size n row =
    take_all (length row - size * n) (drop (size * n) row)
    (omega (arith, length-drop (size * n) row))

pub length-rest : (size n : ℕ) (row : List ℕ) → 0 < size → length row % size ≡ 0
    → n ≤ length row / size → length (drop (size * n) row) ≡ (length row / size - n) * size
length-rest size n row some whole within =
    length-drop (size * n) row ∙ sectors_left size (length row) n some whole within

-- and their number is in range, if the first one's is
pub rest_in_range : (size long first number n rest : ℕ) → size % 512 ≡ 0
    → number ≡ first + n * (size / 512) → long ≡ size * n + size * rest
    → first + long / 512 < 2 ^ 64 → number + rest * size / 512 < 2 ^ 64
rest_in_range size long first number n rest units is split fits =
    let sides : rest * size ≡ size * rest = omega arith in
    omega (arith, is, split, fits, sides, units_of size n units, units_of size rest units)

-- the first n sectors lie within a row that has them
pub fits_in : (size n long : ℕ) → n ≤ long / size → size * n ≤ long
fits_in size n long within = omega (arith, mul-le-mul_right size within, div-mul-le_self long size)
