-- Sectors in a row: lengths, bytes, how the work is undone, and how rows are joined.
use Rattle.std.proofs.Common.{◌≤◌, ◌≡◌, ℕ, zero, suc, ◌+◌, ◌*◌, ◌/◌, ◌%◌, ◌<◌, List, [], ◌++◌}
use Rattle.std.proofs.Common.{length, take, drop, refl, ap, sym, ◌∙◌, arith, append_assoc}
use Rattle.std.proofs.Common.{length-append}
use Rattle.std.proofs.lemmas.List.{nil_from_length, take-append-le, drop-append-le}
use Rattle.std.proofs.Math.Nat.{mul-div_cancel, mul_assoc}
use Rattle.cipher_laws.specs.Bytes.{AreBytes, AreSectors}
use Rattle.cipher_laws.specs.Laws.{KeepsLengths, GivesBytes, UndoesSectors, JoinsSectors}
use Rattle.cipher_laws.specs.Pieces.{worked}
use Rattle.cipher_laws.specs.CipherBlocks.RowLaws.{whole_sectors}
use Rattle.cipher_laws.specs.CipherBlocks.PieceLaws.{KeepsPieces, UndoesPieces, other_pieces, length-worked}
use Rattle.cipher_laws.specs.CipherBlocks.PieceLaws.{bytes-worked, worked_undone}
use Rattle.cipher_laws.specs.Sectors.{by_sectors}

-- a size that sectors can have: a multiple of 512, and not 0
pub record IsSectorSize (size : ℕ) : Type 0 where
  pub some : 0 < size
  pub units : size % 512 ≡ 0

-- `change` makes of a sector as many bytes, whatever its number is
pub record KeepsSectors (change : ℕ → List ℕ → List ℕ) : Type 0 where
  pub lengths : KeepsLengths 16 change
  pub bytes : GivesBytes 16 change

abbrev Any : ℕ → Type 0
Any _ = Unit {0}

abbrev number_after : ℕ → ℕ → List ℕ → List ℕ → ℕ
number_after size number _ _ = number + size / 512

sector_of_piece : (size : ℕ) (piece : List ℕ) → IsSectorSize size → length piece ≡ size
    → AreBytes piece → AreSectors 16 piece
sector_of_piece size piece sized long bytes =
    record { whole = omega (arith, sized.units, long); are_bytes = bytes }

sectors_keep : (change : ℕ → List ℕ → List ℕ) (size : ℕ) → IsSectorSize size → KeepsSectors change
    → KeepsPieces Any size change (number_after size)
sectors_keep change size sized keeps = record {
  length_is =
      λ number piece _ long bytes. keeps.lengths number piece
      (sector_of_piece size piece sized long bytes) ∙ long;
  are_bytes =
      λ number piece _ long bytes. keeps.bytes number piece
      (sector_of_piece size piece sized long bytes);
  good = λ _ _ _ _ _. tt;
}

-- the units of 512 bytes in m sectors
whole_units : (m size long : ℕ) → size % 512 ≡ 0 → long ≡ m * size → long / 512 ≡ m * (size / 512)
whole_units m size long units is =
    let size_is : size ≡ size / 512 * 512 = omega arith in
    let long_is : long ≡ m * (size / 512) * 512 =
    is ∙ ap (λ (k : ℕ). m * k) size_is ∙ sym (mul_assoc m (size / 512) 512) in
    omega arith

length-by_sectors : (change : ℕ → List ℕ → List ℕ) (size : ℕ) → IsSectorSize size
    → KeepsSectors change → KeepsLengths size (by_sectors change size)
unfolding by_sectors
length-by_sectors change size sized keeps first bytes are =
    length-worked (sectors_keep change size sized keeps) first (length bytes / size) bytes tt
    (whole_sectors size bytes sized.some are.whole) are.are_bytes

bytes-by_sectors : (change : ℕ → List ℕ → List ℕ) (size : ℕ) → IsSectorSize size
    → KeepsSectors change → GivesBytes size (by_sectors change size)
unfolding by_sectors
bytes-by_sectors change size sized keeps first bytes are =
    bytes-worked (sectors_keep change size sized keeps) first (length bytes / size) bytes tt
    (whole_sectors size bytes sized.some are.whole) are.are_bytes

by_sectors_undone : (back change : ℕ → List ℕ → List ℕ) (size : ℕ) → IsSectorSize size
    → KeepsSectors change → UndoesSectors 16 back change → (first : ℕ) (bytes : List ℕ)
    → AreSectors size bytes →
    by_sectors back size first (by_sectors change size first bytes) ≡ bytes
unfolding by_sectors
by_sectors_undone back change size sized keeps undoes first bytes are =
    let undone : UndoesPieces Any size change (number_after size) back (number_after size) =
    record {
      undone =
          λ number piece _ long in_bytes. undoes number piece
          (sector_of_piece size piece sized long in_bytes);
      same_value = λ _ _ _ _ _. refl;
    } in
    rw (length-by_sectors change size sized keeps first bytes are)
    (worked_undone (sectors_keep change size sized keeps) undone first (length bytes / size) bytes
    tt (whole_sectors size bytes sized.some are.whole) are.are_bytes)

worked_joined : (change : ℕ → List ℕ → List ℕ) (size m n first : ℕ) (front back : List ℕ)
    → length front ≡ m * size →
    worked change (number_after size) size first (m + n) (front ++ back)
    ≡ worked change (number_after size) size first m front
    ++ worked change (number_after size) size (first + m * (size / 512)) n back
unfolding worked
worked_joined change size zero n first front back long =
    let none : front ≡ [] = nil_from_length front (omega (arith, long)) in
    let all : 0 + n ≡ n = omega arith in
    let same : first + 0 * (size / 512) ≡ first = omega arith in
    rw (none, all, same) refl
worked_joined change size (suc m) n first front back long =
    let one_more : suc m + n ≡ suc (m + n) = omega arith in
    let fits : size ≤ length front = grind arith in
    let later : (first + size / 512) + m * (size / 512) ≡ first + suc m * (size / 512) =
    omega arith in
    let rest : worked change (number_after size) size (first + size / 512) (m + n)
    (drop size front ++ back)
    ≡ worked change (number_after size) size (first + size / 512) m (drop size front)
    ++ worked change (number_after size) size (first + suc m * (size / 512)) n back
    = worked_joined change size m n (first + size / 512) (drop size front) back
    (other_pieces size m front long)
    ∙ ap (λ (k : ℕ). worked change (number_after size) size (first + size / 512) m (drop size front)
    ++ worked change (number_after size) size k n back) later in
    ap (λ (k : ℕ). worked change (number_after size) size first k (front ++ back)) one_more
    ∙ rw (take-append-le size front back fits, drop-append-le size front back fits, rest)
    (sym (append_assoc (change first (take size front))
    (worked change (number_after size) size (first + size / 512) m (drop size front))
    (worked change (number_after size) size (first + suc m * (size / 512)) n back)))

by_sectors_joined : (change : ℕ → List ℕ → List ℕ) (size : ℕ) → IsSectorSize size
    → (first : ℕ) (front back : List ℕ) → AreSectors size front → AreSectors size back →
    by_sectors change size first (front ++ back)
    ≡ by_sectors change size first front ++ by_sectors change size (first + length front / 512) back
unfolding by_sectors
by_sectors_joined change size sized first front back in_front in_back =
    let m : ℕ = length front / size in
    let n : ℕ = length back / size in
    let front_long : length front ≡ m * size = whole_sectors size front sized.some in_front.whole in
    let back_long : length back ≡ n * size = whole_sectors size back sized.some in_back.whole in
    let long : length (front ++ back) ≡ (m + n) * size =
    length-append front back ∙ ap (λ (k : ℕ). k + length back) front_long
    ∙ ap (λ (k : ℕ). m * size + k) back_long ∙ omega arith in
    let count : length (front ++ back) / size ≡ m + n =
    ap (λ (k : ℕ). k / size) long ∙ mul-div_cancel (m + n) sized.some in
    let units : length front / 512 ≡ m * (size / 512) =
    whole_units m size (length front) sized.units front_long in
    rw (count, units) (worked_joined change size m n first front back front_long)

-- work on sectors of `size` bytes that keeps the laws of a cipher, with what undoes it
pub record AreLawful (size : ℕ) (change back : ℕ → List ℕ → List ℕ) : Type 0 where
  pub lengths : KeepsLengths size change
  pub bytes : GivesBytes size change
  pub undone : UndoesSectors size back change
  pub joined : JoinsSectors size change

pub lawful_rows : (size : ℕ) (change back : ℕ → List ℕ → List ℕ) → IsSectorSize size
    → KeepsSectors change → UndoesSectors 16 back change
    → AreLawful size (by_sectors change size) (by_sectors back size)
lawful_rows size change back sized keeps undoes = record {
  lengths = length-by_sectors change size sized keeps;
  bytes = bytes-by_sectors change size sized keeps;
  undone = by_sectors_undone back change size sized keeps undoes;
  joined = by_sectors_joined change size sized;
}

pub lawful_rest : (size : ℕ) → AreLawful size (λ _ bytes. bytes) (λ _ bytes. bytes)
lawful_rest size = record {
  lengths = λ _ _ _. refl;
  bytes = λ _ _ are. are.are_bytes;
  undone = λ _ _ _. refl;
  joined = λ _ _ _ _ _. refl;
}
