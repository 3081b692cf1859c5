-- Squares of bits transposed, and blocks turned.
use Rattle.std.proofs.Common.{◌≡◌, ℕ, zero, suc, ◌<◌, ◌+◌, ◌*◌, ◌/◌, ◌%◌, List, [], ◌∷◌, ◌++◌}
use Rattle.std.proofs.Common.{length, slice_index, slice_index_or, refl, sym, subst, ap, ◌∙◌, arith}
use Rattle.std.proofs.Common.{Fits, w8}
use Rattle.std.specs.Simd.Lanes.{pick_l, Each1}
use Rattle.std.specs.Int.{bit_at}
use Rattle.std.proofs.lemmas.Simd.{pick_l_left}
use Rattle.cipher_laws.specs.Bytes.{AreBytes}
use Rattle.cipher_laws.specs.declared.eight_blocks.EightBlocks.{EightBlocks}
use Rattle.cipher_laws.specs.EachOfEight.{each_of_eight}
use Rattle.aes_core.specs.State.{byte_at}
use Rattle.aes_core.specs.Planes.{listed, bits_of, bits_in, byte_from, byte_in, state_in, place}
use Rattle.aes_core.specs.Transposition.{first_bits, second_bits, row, column, rows, columns}
use Rattle.aes_core.specs.Transposition.{AreTurned}
use Rattle.aes_core.specs.Laws.Bytes.{agree_below, at_each_byte}
use Rattle.aes_core.specs.Laws.Steps.{same_states, state_of_its_bytes}
use Rattle.aes_core.specs.declared.planes.Planes.{Planes}
use Rattle.aes_core.proofs.BitLemmas.{lane_fits}
use Rattle.aes_core.proofs.MoveLemmas.{moved}

-- ---- the square of bits at one lane

abbrev column_of : ℕ → List ℕ → List ℕ
column_of i lanes = listed (λ k. bit_at (slice_index lanes k) i)

-- bits one place apart exchanged, then two, and then four
pub square_transposed : (v0 v1 v2 v3 v4 v5 v6 v7 : ℕ)
    → (let a0 = first_bits 1 0x55 (bits_of v0) (bits_of v1) in
    let a1 = second_bits 1 0x55 (bits_of v0) (bits_of v1) in
    let a2 = first_bits 1 0x55 (bits_of v2) (bits_of v3) in
    let a3 = second_bits 1 0x55 (bits_of v2) (bits_of v3) in
    let a4 = first_bits 1 0x55 (bits_of v4) (bits_of v5) in
    let a5 = second_bits 1 0x55 (bits_of v4) (bits_of v5) in
    let a6 = first_bits 1 0x55 (bits_of v6) (bits_of v7) in
    let a7 = second_bits 1 0x55 (bits_of v6) (bits_of v7) in
    let b0 = first_bits 2 0x33 a0 a2 in
    let b2 = second_bits 2 0x33 a0 a2 in
    let b1 = first_bits 2 0x33 a1 a3 in
    let b3 = second_bits 2 0x33 a1 a3 in
    let b4 = first_bits 2 0x33 a4 a6 in
    let b6 = second_bits 2 0x33 a4 a6 in
    let b5 = first_bits 2 0x33 a5 a7 in
    let b7 = second_bits 2 0x33 a5 a7 in
    (first_bits 4 0x0f b0 b4 ∷ first_bits 4 0x0f b1 b5 ∷ first_bits 4 0x0f b2 b6
    ∷ first_bits 4 0x0f b3 b7
    ∷ second_bits 4 0x0f b0 b4 ∷ second_bits 4 0x0f b1 b5 ∷ second_bits 4 0x0f b2 b6
    ∷ second_bits 4 0x0f b3 b7 ∷ []))
    ≡ (let lanes = v0 ∷ v1 ∷ v2 ∷ v3 ∷ v4 ∷ v5 ∷ v6 ∷ v7 ∷ [] in
    column_of 0 lanes ∷ column_of 1 lanes ∷ column_of 2 lanes ∷ column_of 3 lanes
    ∷ column_of 4 lanes ∷ column_of 5 lanes ∷ column_of 6 lanes ∷ column_of 7 lanes ∷ [])
unfolding first_bits second_bits bits_of
square_transposed v0 v1 v2 v3 v4 v5 v6 v7 = refl

-- the rows of the one are the columns of the other, and so its columns are the rows
pub row_is_column : (x y : EightBlocks) (p : ℕ) → rows p y ≡ columns p x → (i : ℕ) → i < 8
    → row i p y ≡ column i p x
row_is_column x y p all =
    each_of_eight (λ i. row i p y ≡ column i p x)
    (ap (λ rows. slice_index_or rows 0 []) all) (ap (λ rows. slice_index_or rows 1 []) all)
    (ap (λ rows. slice_index_or rows 2 []) all) (ap (λ rows. slice_index_or rows 3 []) all)
    (ap (λ rows. slice_index_or rows 4 []) all) (ap (λ rows. slice_index_or rows 5 []) all)
    (ap (λ rows. slice_index_or rows 6 []) all) (ap (λ rows. slice_index_or rows 7 []) all)

abbrev across : ℕ → List (List ℕ) → List ℕ
across i rows = listed (λ k. slice_index (slice_index_or rows k []) i)

pub column_is_row : (x y : EightBlocks) (p : ℕ) → rows p y ≡ columns p x → (i : ℕ) → i < 8
    → column i p y ≡ row i p x
unfolding bits_of
column_is_row x y p all =
    each_of_eight (λ i. column i p y ≡ row i p x)
    (ap (across 0) all) (ap (across 1) all) (ap (across 2) all) (ap (across 3) all)
    (ap (across 4) all) (ap (across 5) all) (ap (across 6) all) (ap (across 7) all)

-- ---- bytes from their bits

byte_of_its_bits : (v : ℕ) → v < 256 → byte_from (bits_of v) ≡ v
unfolding agree_below bits_of
byte_of_its_bits = at_each_byte (λ v. byte_from (bits_of v)) (λ v. v) refl

-- planes whose bits are those of a turned block
pub state_from_bits : (k : ℕ) (v w : List ℕ) → AreTurned v w → (x : Planes)
    → ((p : ℕ) → p < 16 → bits_in k p x ≡ bits_of (slice_index w p)) → state_in k x ≡ v
unfolding state_in byte_in
state_from_bits k v w turned x bits =
    same_states (λ r c. byte_in k (place r c) x) (byte_at v)
    (λ r c.
    ap byte_from (bits (place r c) (omega arith))
    ∙ byte_of_its_bits (slice_index w (place r c)) (turned.turned.are_bytes _)
    ∙ turned.by_rows r c)
    ∙ state_of_its_bytes v turned.block.length_is

-- and a block that is turned into one whose bits are those of planes
pub block_from_bits : (k : ℕ) (v w : List ℕ) → AreTurned v w → (x : Planes)
    → ((p : ℕ) → p < 16 → bits_of (slice_index v p) ≡ bits_in k p x) → w ≡ state_in k x
unfolding state_in byte_in
block_from_bits k v w turned x bits =
    sym (state_of_its_bytes w turned.turned.length_is)
    ∙ same_states (byte_at w) (λ r c. byte_in k (place r c) x)
    (λ r c.
    turned.by_columns r c
    ∙ sym (byte_of_its_bits (slice_index v (place r c)) (turned.block.are_bytes _))
    ∙ ap byte_from (bits (place r c) (omega arith)))

-- ---- a block turned

picked_fits : (v : List ℕ) → AreBytes v → (places : List ℕ) (q : ℕ)
    → slice_index (pick_l 0 v places) q < 256
picked_fits v fits [] q = omega arith
picked_fits v fits (p ∷ places) zero = fits p
picked_fits v fits (p ∷ places) (suc q) = picked_fits v fits places q

abbrev turned_places : List ℕ
turned_places = 0 ∷ 4 ∷ 8 ∷ 12 ∷ 1 ∷ 5 ∷ 9 ∷ 13 ∷ 2 ∷ 6 ∷ 10 ∷ 14 ∷ 3 ∷ 7 ∷ 11 ∷ 15 ∷ []

pub block_turned : (v : List ℕ) → length v ≡ 16 → Each1 (Fits w8) v
    → AreTurned v
    (pick_l 0 (v ++ v) (0 ∷ 4 ∷ 8 ∷ 12 ∷ 1 ∷ 5 ∷ 9 ∷ 13 ∷ 2 ∷ 6 ∷ 10 ∷ 14 ∷ 3 ∷ 7 ∷ 11 ∷ 15 ∷ []))
unfolding agree_below
block_turned v long fits = record {
  block = record { length_is = long; are_bytes = lane_fits v fits };
  turned = record {
    length_is = refl;
    are_bytes =
        λ q. subst (λ lanes. slice_index lanes q < 256)
        (sym (pick_l_left 0 v v 16 turned_places long tt))
        (picked_fits v (lane_fits v fits) turned_places q);
  };
  by_rows =
      λ r c. moved turned_places (λ p. p / 4 + 4 * (p % 4)) refl tt refl v long r c
      (r % 4 + 4 * (c % 4)) (omega arith);
  by_columns = λ r c.
      let at : r % 4 + 4 * (c % 4) ≡ place c r = omega arith in
      ap (slice_index (pick_l 0 (v ++ v) turned_places)) at
      ∙ moved turned_places (λ p. p / 4 + 4 * (p % 4)) refl tt refl v long c r (place r c)
      (omega arith);
}
