-- Each atom of a table has an atom's bytes, and so has each of an image; where the atoms stand in
-- the bytes of an image.
use Rattle.std.proofs.Common.{◌≡◌, inl, inr, ℕ, zero, suc, ◌+◌, ◌-◌, ◌*◌, ◌<◌, ◌≤◌, List, [], ◌∷◌}
use Rattle.std.proofs.Common.{◌++◌, ◌⊎◌, length, take, replicate, refl, sym, ◌∙◌, ap, ap₂, subst}
use Rattle.std.proofs.Common.{arith}
use Rattle.std.specs.Prelude.{Contains}
use Rattle.std.proofs.Math.Seq.{take-append-add}
use Rattle.std.proofs.lemmas.Bool.{cases_lt}
use Rattle.base_terms.specs.Blocks.{lengths}
use Rattle.crash_laws.specs.HeaderAreas.Areas.{Image, text_from}
use Rattle.sector_disk.proofs.DiskViews.Blockwise.{block_end, length-block_at}
use Rattle.sector_disk.proofs.DiskViews.Entries.{image_in, length-image}
use Rattle.sector_disk.specs.DiskViews.Parts.{cell_in, value_in}
use Rattle.sector_disk.specs.DiskViews.Views.{IsOutside, IsSynced, IsThinned, IsTried, IsWritten, View}
use Rattle.sector_disk.specs.Cells.{Cell, IsImage, currents}

-- ---- by place
-- what the place holds now, and what a stop may leave there, have an atom's bytes
pub record IsEven (atom : ℕ) (view : View) (place : ℕ) : Type 0 where
  pub now : length (view.current place) ≡ atom
  pub left : (value : List ℕ) → Contains (view.candidates place) value → length value ≡ atom

-- a place lies among those that are written, or beside them
among : (at n place : ℕ) → ((k : ℕ) × (k < n) × (place ≡ at + k)) ⊎ IsOutside at n place
among at n place = elim (cases_lt place at) [
  | inl before ↦ inr (inl before)
  | inr from ↦ elim (cases_lt place (at + n)) [
    | inl inside ↦ inl (place - at, omega arith, omega arith)
    | inr behind ↦ inr (inr behind)
  ]
]

module _ (atom : ℕ) (old new : View) (place : ℕ) (even : IsEven atom old place) where
  left_try : (at n : ℕ) (text : List ℕ) → length text ≡ n * atom → IsTried atom at n text old new
      → (value : List ℕ) → Contains (new.candidates place) value → length value ≡ atom
  left_try at n text long call value has = elim (among at n place) [
    | inl (k, below, same) ↦
        elim (call.inside k below value
        (subst (λ p. Contains (new.candidates p) value) same has)) [
          | inl before ↦
              even.left value (subst (λ p. Contains (old.candidates p) value) (sym same) before)
          | inr is ↦
              ap length is ∙ length-block_at atom n text k below (omega (arith, long))
        ]
    | inr outside ↦ even.left value (call.outside place outside value has)
  ]

  now_write : (at n : ℕ) (text : List ℕ) → length text ≡ n * atom → IsWritten atom at n text old new
      → length (new.current place) ≡ atom
  now_write at n text long call = elim (among at n place) [
    | inl (k, below, same) ↦
        ap (λ p. length (new.current p)) same ∙ ap length (call.inside k below)
        ∙ length-block_at atom n text k below (omega (arith, long))
    | inr outside ↦ ap length (call.outside place outside) ∙ even.now
  ]

  pub even_write : (at n : ℕ) (text : List ℕ) → length text ≡ n * atom
      → IsWritten atom at n text old new → IsEven atom new place
  even_write at n text long call = record {
    now = now_write at n text long call;
    left = left_try at n text long call.tried;
  }

  pub even_sync : IsSynced old new → IsEven atom new place
  even_sync call = record {
    now = ap length (call.current place) ∙ even.now;
    left = λ value has. ap length (call.candidates place value has) ∙ even.now;
  }

  -- what a stop may leave after a call that failed
  pub even_try : (at n : ℕ) (text : List ℕ) → length text ≡ n * atom
      → IsTried atom at n text old new
      → (value : List ℕ) → Contains (new.candidates place) value → length value ≡ atom
  even_try at n text long call = left_try at n text long call

  pub even_thin : IsThinned old new
      → (value : List ℕ) → Contains (new.candidates place) value → length value ≡ atom
  even_thin call value has = even.left value (call place value has)

-- ---- lists of atoms
pub even_by_place : (atom n : ℕ) (values : List (List ℕ)) → length values ≡ n
    → ((place : ℕ) → place < n → length (value_in values place) ≡ atom)
    → lengths values ≡ replicate n atom
unfolding lengths
even_by_place atom zero [] count each = refl
even_by_place atom zero (value ∷ values) count each = absurd (omega (arith, count))
even_by_place atom (suc n) [] count each = absurd (omega (arith, count))
even_by_place atom (suc n) (value ∷ values) count each =
    ap₂ (λ x xs. x ∷ xs) (each 0 (omega arith))
    (even_by_place atom n values (omega (arith, count))
    (λ place below. each (suc place) (omega (arith, below))))

pub length-currents : (cells : List Cell) → length (currents cells) ≡ length cells
unfolding currents
length-currents [] = refl
length-currents (cell ∷ cells) = ap (λ n. suc n) (length-currents cells)

pub current_in : (cells : List Cell) (place : ℕ)
    → value_in (currents cells) place ≡ (cell_in cells place).current
unfolding currents
current_in [] place = refl
current_in (cell ∷ cells) zero = refl
current_in (cell ∷ cells) (suc place) = current_in cells place

-- each image of a table whose candidates have an atom's bytes is one of whole atoms
pub even_image : (atom : ℕ) (cells : List Cell) (image : List (List ℕ))
    → ((place : ℕ) → place < length cells → (value : List ℕ)
    → Contains (cell_in cells place).candidates value → length value ≡ atom)
    → IsImage cells image → lengths image ≡ replicate (length cells) atom
even_image atom cells image each is =
    even_by_place atom (length cells) image (length-image cells image is)
    (λ place below. each place below (value_in image place) (image_in cells image place is below))

pub even_currents : (atom : ℕ) (cells : List Cell)
    → ((place : ℕ) → place < length cells → length (cell_in cells place).current ≡ atom)
    → lengths (currents cells) ≡ replicate (length cells) atom
even_currents atom cells each =
    even_by_place atom (length cells) (currents cells) (length-currents cells)
    (λ place below. ap length (current_in cells place) ∙ each place below)

-- ---- the first atoms of a text are the text of the first atoms
pub front_text : (atom start n k : ℕ) (image : Image)
    → ((place : ℕ) → start ≤ place → place < start + n → length (image place) ≡ atom)
    → take (n * atom) (text_from image start (n + k)) ≡ text_from image start n
unfolding text_from
front_text atom start zero k image whole =
    ap (λ m. take m (text_from image start (0 + k))) (let e : 0 * atom ≡ 0 = omega arith in e)
front_text atom start (suc n) k image whole =
    let one_more : suc n + k ≡ suc (n + k) = omega arith in
    let long : suc n * atom ≡ length (image start) + n * atom =
    block_end atom n
    ∙ ap (λ m. m + n * atom) (sym (whole start (omega arith) (omega arith))) in
    ap (λ m. take (suc n * atom) (text_from image start m)) one_more
    ∙ ap (λ m. take m (image start ++ text_from image (suc start) (n + k))) long
    ∙ take-append-add (image start) (text_from image (suc start) (n + k)) (n * atom)
    ∙ ap (λ rest. image start ++ rest) (front_text atom (suc start) n k image
    (λ place from below. whole place (omega (arith, from)) (omega (arith, below))))
