-- Lemmas on lists of which some entries are changed, entry by entry.
use Rattle.std.proofs.Common.{◌≡◌, ℕ, zero, suc, ◌+◌, ◌<◌, List, [], ◌∷◌, length, drop, refl, sym}
use Rattle.std.proofs.Common.{◌∙◌, ap, inl, inr, arith, le_of_suc-le-suc}
use Rattle.std.specs.Prelude.{slice_index_or, Contains}
use Rattle.base_terms.specs.Blocks.{blocks_of, changed}
use Rattle.sector_disk.specs.Cells.{Cell, IsImage}
use Rattle.sector_disk.specs.DiskViews.Parts.{cell_in, value_in}
use Rattle.sector_disk.specs.DiskViews.Parts.{block_at}
use Rattle.sector_disk.specs.DiskViews.Views.{IsOutside}
use Rattle.sector_disk.proofs.DiskViews.Blockwise.{block_at-first, block_at-next}

-- a change keeps how many there are
pub length-changed : {C : Type 0} (change : C → List ℕ → C) (cells : List C) (at : ℕ)
    (values : List (List ℕ))
    → length (changed change cells at values) ≡ length cells
unfolding changed
length-changed change [] at values = refl
length-changed change (cell ∷ cells) at [] = refl
length-changed change (cell ∷ cells) zero (value ∷ values) =
    ap (λ n. suc n) (length-changed change cells 0 values)
length-changed change (cell ∷ cells) (suc at) (value ∷ values) =
    ap (λ n. suc n) (length-changed change cells at (value ∷ values))

-- an entry outside stays
pub changed-outside : {C : Type 0} (change : C → List ℕ → C) (cells : List C) (at : ℕ)
    (values : List (List ℕ)) (place : ℕ) (d : C) → IsOutside at (length values) place
    → slice_index_or (changed change cells at values) place d ≡ slice_index_or cells place d
unfolding changed
changed-outside change [] at values place d is = refl
changed-outside change (cell ∷ cells) at [] place d is = refl
changed-outside change (cell ∷ cells) zero (value ∷ values) zero d (inl before) =
    absurd (omega arith)
changed-outside change (cell ∷ cells) zero (value ∷ values) zero d (inr behind) =
    absurd (omega arith)
changed-outside change (cell ∷ cells) zero (value ∷ values) (suc place) d (inl before) =
    absurd (omega arith)
changed-outside change (cell ∷ cells) zero (value ∷ values) (suc place) d (inr behind) =
    changed-outside change cells 0 values place d (inr (omega arith))
changed-outside change (cell ∷ cells) (suc at) (value ∷ values) zero d is = refl
changed-outside change (cell ∷ cells) (suc at) (value ∷ values) (suc place) d (inl before) =
    changed-outside change cells at (value ∷ values) place d (inl (omega arith))
changed-outside change (cell ∷ cells) (suc at) (value ∷ values) (suc place) d (inr behind) =
    changed-outside change cells at (value ∷ values) place d (inr (omega arith))

-- an entry inside is changed by its value
changed_at : {C : Type 0} (change : C → List ℕ → C) (cells : List C) (at : ℕ)
    (values : List (List ℕ))
    (k place : ℕ) (d : C) (e : List ℕ) → place ≡ at + k → k < length values → place < length cells
    → slice_index_or (changed change cells at values) place d
    ≡ change (slice_index_or cells place d) (slice_index_or values k e)
unfolding changed
changed_at change [] at values k place d e is inside within = absurd (omega arith)
changed_at change (cell ∷ cells) at [] k place d e is inside within = absurd (omega arith)
changed_at change (cell ∷ cells) zero (value ∷ values) zero zero d e is inside within = refl
changed_at change (cell ∷ cells) zero (value ∷ values) zero (suc place) d e is inside within =
    absurd (omega arith)
changed_at change (cell ∷ cells) zero (value ∷ values) (suc k) zero d e is inside within =
    absurd (omega arith)
changed_at change (cell ∷ cells) zero (value ∷ values) (suc k) (suc place) d e is inside within =
    changed_at change cells 0 values k place d e (omega arith) (omega arith) (omega arith)
changed_at change (cell ∷ cells) (suc at) (value ∷ values) k zero d e is inside within =
    absurd (omega arith)
changed_at change (cell ∷ cells) (suc at) (value ∷ values) k (suc place) d e is inside within =
    changed_at change cells at (value ∷ values) k place d e (omega arith) inside (omega arith)

pub changed-inside : {C : Type 0} (change : C → List ℕ → C) (cells : List C) (at : ℕ)
    (values : List (List ℕ)) (k : ℕ) (d : C) (e : List ℕ) → k < length values
    → at + k < length cells
    → slice_index_or (changed change cells at values) (at + k) d
    ≡ change (slice_index_or cells (at + k) d) (slice_index_or values k e)
changed-inside change cells at values k d e inside within =
    changed_at change cells at values k (at + k) d e refl inside within

-- the blocks of a text as a list
pub length-blocks_of : (atom n : ℕ) (text : List ℕ) → length (blocks_of atom n text) ≡ n
unfolding blocks_of
length-blocks_of atom zero text = refl
length-blocks_of atom (suc n) text = ap (λ m. suc m) (length-blocks_of atom n (drop atom text))

pub blocks_of-at : (atom n : ℕ) (text : List ℕ) (k : ℕ) (e : List ℕ) → k < n
    → slice_index_or (blocks_of atom n text) k e ≡ block_at atom text k
unfolding blocks_of
blocks_of-at atom zero text k e inside = absurd (omega arith)
blocks_of-at atom (suc n) text zero e inside = sym (block_at-first atom text)
blocks_of-at atom (suc n) text (suc k) e inside =
    blocks_of-at atom n (drop atom text) k e (le_of_suc-le-suc inside) ∙ block_at-next atom text k

-- entries that are changed by the blocks of a text
pub changed_blocks-outside : {C : Type 0} (change : C → List ℕ → C) (cells : List C) (atom at n : ℕ)
    (text : List ℕ) (place : ℕ) (d : C) → IsOutside at n place
    → slice_index_or (changed change cells at (blocks_of atom n text)) place d
    ≡ slice_index_or cells place d
changed_blocks-outside change cells atom at n text place d (inl before) =
    changed-outside change cells at (blocks_of atom n text) place d (inl before)
changed_blocks-outside change cells atom at n text place d (inr behind) =
    changed-outside change cells at (blocks_of atom n text) place d
    (inr (rw (length-blocks_of atom n text) behind))

pub changed_blocks-inside : {C : Type 0} (change : C → List ℕ → C) (cells : List C) (atom at n : ℕ)
    (text : List ℕ) (k : ℕ) (d : C) → k < n → at + k < length cells
    → slice_index_or (changed change cells at (blocks_of atom n text)) (at + k) d
    ≡ change (slice_index_or cells (at + k) d) (block_at atom text k)
changed_blocks-inside change cells atom at n text k d inside within =
    changed-inside change cells at (blocks_of atom n text) k d []
    (rw (length-blocks_of atom n text) inside) within
    ∙ ap (λ value. change (slice_index_or cells (at + k) d) value)
    (blocks_of-at atom n text k [] inside)

-- an image takes a candidate of each atom
pub image_in : (cells : List Cell) (image : List (List ℕ)) (place : ℕ) → IsImage cells image
    → place < length cells → Contains (cell_in cells place).candidates (value_in image place)
unfolding IsImage
image_in [] [] place is inside = absurd (omega arith)
image_in [] (value ∷ image) place is inside = absurd is
image_in (cell ∷ cells) [] place is inside = absurd is
image_in (cell ∷ cells) (value ∷ image) zero is inside = is.0
image_in (cell ∷ cells) (value ∷ image) (suc place) is inside =
    image_in cells image place is.1 (le_of_suc-le-suc inside)

pub length-image : (cells : List Cell) (image : List (List ℕ)) → IsImage cells image
    → length image ≡ length cells
unfolding IsImage
length-image [] [] is = refl
length-image [] (value ∷ image) is = absurd is
length-image (cell ∷ cells) [] is = absurd is
length-image (cell ∷ cells) (value ∷ image) is = ap (λ n. suc n) (length-image cells image is.1)
