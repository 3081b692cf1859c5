-- A disk that holds its bytes for certain: its atoms are those of the bytes, and so are those of a
-- copy that stands there.
use Rattle.std.proofs.Common.{◌≡◌, ℕ, zero, suc, ◌+◌, ◌*◌, ◌<◌, ◌≤◌, List, [], ◌∷◌, ◌++◌, length}
use Rattle.std.proofs.Common.{take, drop, replicate, refl, sym, ◌∙◌, ap, arith}
use Rattle.std.proofs.lemmas.List.{drop_at, take_at}
use Rattle.base_terms.specs.Blocks.{joined, lengths}
use Rattle.crash_laws.specs.HeaderAreas.Areas.{IsOf, Shows}
use Rattle.crash_laws.specs.HeaderAreas.Headers.{Copy, IsLaidOut, Layout, byte_of, place_of, primary, secondary}
use Rattle.base_terms.specs.declared.disk_sizes.Sizes.{Sizes}
use Rattle.sector_disk.proofs.DiskViews.Blockwise.{block_at-first, block_at-next, block_at-part}
use Rattle.sector_disk.specs.DiskViews.Parts.{block_at, cell_in, value_in}
use Rattle.sector_disk.specs.DiskViews.Views.{view_of_cells}
use Rattle.luks_store.specs.Devices.{IsCertain}
use Rattle.sector_disk.specs.Cells.{Cell, currents}
use Rattle.std.proofs.Common.{Bool}

-- ---- the atoms of an image, one behind the other
pub even_head : (atom n : ℕ) (value : List ℕ) (image : List (List ℕ))
    → lengths (value ∷ image) ≡ replicate (suc n) atom → length value ≡ atom
unfolding lengths
even_head atom n value image even = cc

pub even_tail : (atom n : ℕ) (value : List ℕ) (image : List (List ℕ))
    → lengths (value ∷ image) ≡ replicate (suc n) atom → lengths image ≡ replicate n atom
unfolding lengths
even_tail atom n value image even = cc

pub none_even : (atom n : ℕ) → lengths [] ≡ replicate (suc n) atom → ⊥
unfolding lengths
none_even atom n even = cc

pub atom_of_joined : (atom n : ℕ) (image : List (List ℕ)) (place : ℕ)
    → lengths image ≡ replicate n atom → place < n
    → block_at atom (joined image) place ≡ value_in image place
unfolding joined
atom_of_joined atom zero image place even below = absurd (omega (arith, below))
atom_of_joined atom (suc n) [] place even below = absurd (none_even atom n even)
atom_of_joined atom (suc n) (value ∷ image) zero even below =
    block_at-first atom (value ++ joined image)
    ∙ take_at value (joined image) atom (even_head atom n value image even)
atom_of_joined atom (suc n) (value ∷ image) (suc place) even below =
    sym (block_at-next atom (value ++ joined image) place)
    ∙ ap (λ bytes. block_at atom bytes place)
    (drop_at value (joined image) atom (even_head atom n value image even))
    ∙ atom_of_joined atom n image place (even_tail atom n value image even) (omega (arith, below))

-- the current value of a cell stands in the list of all
current_in : (cells : List Cell) (place : ℕ)
    → value_in (currents cells) place ≡ (cell_in cells place).current
unfolding currents
current_in [] place = refl
current_in (cell ∷ cells) zero = refl
current_in (cell ∷ cells) (suc place) = current_in cells place

-- ---- where a copy begins, and how long it is
begins_at : (atom atoms size : ℕ) (layout : Layout) (copy : Copy) → IsLaidOut atom atoms size layout
    → byte_of size copy ≡ (place_of layout copy).start * atom
begins_at atom atoms size layout primary laid =
    (let e : 0 ≡ 0 * atom = omega arith in e) ∙ ap (λ n. n * atom) (sym laid.first)
begins_at atom atoms size layout secondary laid =
    sym laid.long ∙ ap (λ n. n * atom) (sym laid.second)

takes_up : (atom atoms size : ℕ) (layout : Layout) (copy : Copy) → IsLaidOut atom atoms size layout
    → size ≡ (place_of layout copy).count * atom
takes_up atom atoms size layout primary laid = sym laid.long
takes_up atom atoms size layout secondary laid =
    sym laid.long ∙ ap (λ n. n * atom) (sym laid.same)

lies_in : (atom atoms size : ℕ) (layout : Layout) (copy : Copy) → IsLaidOut atom atoms size layout
    → (place_of layout copy).start + (place_of layout copy).count ≤ atoms
lies_in atom atoms size layout primary laid =
    omega (arith, laid.first, laid.second, laid.within)
lies_in atom atoms size layout secondary laid = laid.within

-- ---- what the disk shows
module _ (sizes : Sizes) (layout : Layout) (size : ℕ) (bytes : List ℕ) (cells : List Cell)
    (certain : IsCertain sizes bytes cells)
    (laid : IsLaidOut sizes.atom sizes.header_atoms size layout) where
  pub current_is : (place : ℕ) → place < length cells
      → (cell_in cells place).current ≡ block_at sizes.atom bytes place
  current_is place below =
      sym (current_in cells place)
      ∙ sym (atom_of_joined sizes.atom (length cells) (currents cells) place certain.even below)
      ∙ ap (λ all. block_at sizes.atom all place) certain.holds

  -- an atom of a copy
  of_copy : (copy : Copy) (text : List ℕ) → take size (drop (byte_of size copy) bytes) ≡ text
      → (i : ℕ) → i < (place_of layout copy).count
      → (cell_in cells ((place_of layout copy).start + i)).current ≡ block_at sizes.atom text i
  of_copy copy text stands i below =
      let area = place_of layout copy in
      let within = lies_in sizes.atom sizes.header_atoms size layout copy laid in
      let more = certain.header_atoms in
      current_is (area.start + i) (omega (arith, below, within, more))
      ∙ sym (block_at-part sizes.atom area.start area.count bytes i below)
      ∙ ap (λ n. block_at sizes.atom (take (area.count * sizes.atom) (drop n bytes)) i)
      (sym (begins_at sizes.atom sizes.header_atoms size layout copy laid))
      ∙ ap (λ n. block_at sizes.atom (take n (drop (byte_of size copy) bytes)) i)
      (sym (takes_up sizes.atom sizes.header_atoms size layout copy laid))
      ∙ ap (λ all. block_at sizes.atom all i) stands

  -- a copy stands there for certain
  pub shows_copy : (copy : Copy) (text : List ℕ) (broken : Bool)
      → take size (drop (byte_of size copy) bytes) ≡ text
      → Shows (place_of layout copy) (IsOf sizes.atom text) (IsOf sizes.atom text) broken
      (view_of_cells cells)
  shows_copy copy text broken stands = record {
    now = λ whole i below. of_copy copy text stands i below;
    left = λ i below value has.
        certain.only ((place_of layout copy).start + i) value has
        ∙ of_copy copy text stands i below;
  }
