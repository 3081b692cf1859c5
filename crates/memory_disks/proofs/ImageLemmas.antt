-- Lemmas on images: each takes a candidate of each atom, and candidates have an atom's bytes.
use Rattle.std.proofs.Common.{◌≡◌, ℕ, zero, suc, ◌+◌, ◌*◌, ◌/◌, ◌<◌, ◌≤◌, List, [], ◌∷◌, ◌++◌}
use Rattle.std.proofs.Common.{length, drop, replicate, refl, sym, ◌∙◌, ap, ap₂, inl, inr, arith}
use Rattle.std.proofs.Common.{length-append, length-drop, length-take-le}
use Rattle.std.specs.Prelude.{Contains}
use Rattle.std.specs.List.{AllByRecursion}
use Rattle.std.proofs.lemmas.List.{get_or_default, take_at, drop_at}
use Rattle.std.proofs.lemmas.List.Elements.{Contains-push_cases}
use Rattle.base_terms.proofs.BlockLemmas.{blocks_of-joined, length-joined}
use Rattle.base_terms.specs.Blocks.{blocks_of, joined, lengths}
use Rattle.memory_disks.specs.Calls.{Call, table}
use Rattle.sector_disk.specs.Cells.{Cell, sures, currents, IsHeld, AreHeld, IsImage}
use Rattle.memory_disks.specs.EachCell.{IsLasting, each_sures, each_last, held_table}
use Rattle.memory_disks.specs.Images.{IsChoice, place_of, chosen, image_from}
use Rattle.memory_disks.specs.declared.images.Choice.{Choice}
use Rattle.memory_disks.specs.declared.images.Choice.TheVariants.{Newest, Oldest, Pick}

-- the values of an atom have its bytes
pub record IsSized (atom : ℕ) (cell : Cell) : Type 0 where
  pub current : length cell.current ≡ atom
  pub candidates : (value : List ℕ) → Contains cell.candidates value → length value ≡ atom

abbrev pub HasSize : ℕ → List ℕ → Type 0
HasSize atom value = length value ≡ atom

pub sized_push : (atom : ℕ) (values : List (List ℕ)) (last value : List ℕ)
    → ((other : List ℕ) → Contains values other → length other ≡ atom) → length last ≡ atom
    → Contains (values ++ last ∷ []) value → length value ≡ atom
sized_push atom values last value sized is has =
    elim (Contains-push_cases values last value has)
    [ inl before ↦ sized value before | inr same ↦ ap (λ text. length text) (sym same) ∙ is ]

pub none_contained : (atom : ℕ) (value : List ℕ) → Contains [] value → length value ≡ atom
none_contained atom value has = absurd (omega (arith, has.1))

pub sized_lasting : (atom : ℕ) → IsLasting (IsSized atom) (HasSize atom)
sized_lasting atom = record {
  at_start = λ value is. record {
    current = is;
    candidates =
        λ other has. sized_push atom [] value other (none_contained atom) is has;
  };
  in_write = λ cell value is sized. record {
    current = is;
    candidates =
        λ other has. sized_push atom cell.candidates value other sized.candidates is has;
  };
  in_failed_write = λ cell value is sized. record {
    current = sized.current;
    candidates =
        λ other has. sized_push atom cell.candidates value other sized.candidates is has;
  };
  in_sync = λ cell sized. record {
    current = sized.current;
    candidates =
        λ other has. sized_push atom [] cell.current other (none_contained atom) sized.current has;
  };
}

pub sized_blocks : (atom n : ℕ) (text : List ℕ) → n * atom ≤ length text
    → AllByRecursion (HasSize atom) (blocks_of atom n text)
unfolding blocks_of
sized_blocks atom zero text enough = tt
sized_blocks atom (suc n) text enough =
    let one : suc n * atom ≡ atom + n * atom = grind arith in
    let first : atom ≤ length text = omega arith in
    let rest : n * atom ≤ length (drop atom text) = rw (length-drop atom text) (omega arith) in
    (length-take-le atom text first, sized_blocks atom n (drop atom text) rest)

pub whole_part : (len atom : ℕ) → len / atom * atom ≤ len
whole_part len atom = grind arith

pub sized_table : (atom atoms : ℕ) (start : List ℕ) (calls : List Call)
    → length start ≡ atoms * atom
    → AllByRecursion (IsSized atom) (table atom atoms start calls)
unfolding table
sized_table atom atoms start calls whole =
    each_last (IsSized atom) (HasSize atom) (sized_lasting atom) atom
    (λ body. sized_blocks atom (length body / atom) body (whole_part (length body) atom))
    (sures (blocks_of atom atoms start)) calls
    (each_sures (IsSized atom) (HasSize atom) (sized_lasting atom) (blocks_of atom atoms start)
    (sized_blocks atom atoms start (omega arith)))

-- a choice takes one of the candidates
pub place_within : (choice : Choice) (atom count : ℕ) → IsChoice choice → 0 < count
    → place_of choice atom count < count
place_within Newest atom count is some = omega arith
place_within Oldest atom count is some = some
place_within (Pick numbers) atom count is some = omega arith

pub chosen_contained : (choice : Choice) (atom : ℕ) (cell : Cell) → IsChoice choice → IsHeld cell
    → Contains cell.candidates (chosen choice atom cell)
chosen_contained choice atom cell is held =
    let some : 0 < length cell.candidates = omega (arith, held.1) in
    let within : place_of choice atom (length cell.candidates) < length cell.candidates =
    place_within choice atom (length cell.candidates) is some in (
      place_of choice atom (length cell.candidates),
      within,
      get_or_default cell.candidates _
          (chosen choice atom cell) [] within,
    )

pub image_is : (choice : Choice) (atom : ℕ) (cells : List Cell) → IsChoice choice → AreHeld cells
    → IsImage cells (image_from choice atom cells)
unfolding IsImage image_from
image_is choice atom [] is held = tt
image_is choice atom (cell ∷ cells) is held =
    (chosen_contained choice atom cell is held.0, image_is choice (atom + 1) cells is held.1)

pub lengths-image_from : (choice : Choice) (size atom : ℕ) (cells : List Cell) → IsChoice choice
    → AreHeld cells
    → AllByRecursion (IsSized size) cells
    → lengths (image_from choice atom cells) ≡ replicate (length cells) size
unfolding lengths image_from
lengths-image_from choice size atom [] is held sized = refl
lengths-image_from choice size atom (cell ∷ cells) is held sized =
    ap₂ (λ x xs. x ∷ xs) (sized.0.candidates (chosen choice atom cell)
    (chosen_contained choice atom cell is held.0))
    (lengths-image_from choice size (atom + 1) cells is held.1 sized.1)

-- even cells are as many as the count says
pub length-even : (count size : ℕ) (cells : List Cell)
    → lengths (currents cells) ≡ replicate count size
    → length cells ≡ count
unfolding lengths currents
length-even zero size [] even = refl
length-even (suc count) size [] even = absurd (cc)
length-even zero size (cell ∷ cells) even = absurd (cc)
length-even (suc count) size (cell ∷ cells) even =
    ap (λ n. suc n)
    (length-even count size cells (let rest : lengths (currents cells) ≡ replicate count size =
    cc in rest))

-- the image of a disk has an atom's bytes for each atom
pub even_image : (choice : Choice) (atom atoms : ℕ) (start : List ℕ) (calls : List Call)
    → IsChoice choice
    → length start ≡ atoms * atom
    → lengths (currents (table atom atoms start calls)) ≡ replicate atoms atom
    → lengths (image_from choice 0 (table atom atoms start calls)) ≡ replicate atoms atom
even_image choice atom atoms start calls is whole even =
    lengths-image_from choice atom 0 (table atom atoms start calls) is
    (held_table atom atoms start calls)
    (sized_table atom atoms start calls whole)
    ∙ ap (λ n. replicate n atom) (length-even atoms atom (table atom atoms start calls) even)
