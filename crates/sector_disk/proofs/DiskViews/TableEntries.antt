-- Lemmas on what device calls do to tables, atom by atom.
use Rattle.std.proofs.Common.{◌≡◌, ℕ, zero, suc, ◌+◌, ◌<◌, ◌≤◌, ◌⊎◌, List, [], ◌∷◌, ◌++◌, length}
use Rattle.std.proofs.Common.{map, refl, sym, ◌∙◌, ap, subst, inl, inr, arith}
use Rattle.std.specs.Prelude.{slice_index_or, Contains}
use Rattle.std.proofs.lemmas.Bool.{cases_lt}
use Rattle.std.proofs.lemmas.List.{get_or_past}
use Rattle.std.proofs.lemmas.List.Elements.{Contains-push_cases, All-contains}
use Rattle.base_terms.specs.Blocks.{blocks_of, changed}
use Rattle.sector_disk.specs.Cells.{Cell, wrote, tried, synced, IsTriedAt, IsThinned}
use Rattle.sector_disk.specs.Cells as disk_cells
use Rattle.sector_disk.specs.DiskViews.Parts.{cell_in}
use Rattle.sector_disk.specs.DiskViews.Parts.{block_at}
use Rattle.sector_disk.specs.DiskViews.Views.{View, view_of_cells, HasNoMore, IsOutside, IsUnchanged, IsTried}
use Rattle.sector_disk.specs.DiskViews.Views.{IsWritten, IsSynced}
use Rattle.sector_disk.specs.DiskViews.Views as views
use Rattle.sector_disk.proofs.DiskViews.Entries.{length-blocks_of, blocks_of-at, changed_blocks-outside}
use Rattle.sector_disk.proofs.DiskViews.Entries.{changed_blocks-inside}

-- an atom past the table's end
abbrev no_cell : Cell
no_cell = record { current = []; candidates = [] }

pub none_contained : (P : Type 0) (value : List ℕ) → Contains [] value → P
none_contained P value has = absurd (omega (arith, has.1))

one_contained : (x value : List ℕ) → Contains (x ∷ []) value → value ≡ x
one_contained x value has =
    elim (Contains-push_cases [] x value has) as (λ _. value ≡ x) [
      | inl held ↦ none_contained (value ≡ x) value held
      | inr same ↦ sym same
    ]

more_contained : (values : List (List ℕ)) (last value : List ℕ)
    → Contains (values ++ last ∷ []) value
    → Contains values value ⊎ (value ≡ last)
more_contained values last value has =
    elim (Contains-push_cases values last value has) as
    (λ _. Contains values value ⊎ (value ≡ last)) [
      | inl held ↦ inl held
      | inr same ↦ inr (sym same)
    ]

-- after a read
pub kept_view : (old new : List Cell) → new ≡ old
    → IsUnchanged (view_of_cells old) (view_of_cells new)
kept_view old new is = record {
  current = λ place. ap (λ cells. (cell_in cells place).current) is;
  candidates =
      λ place atom has. subst (λ cells. Contains (cell_in cells place).candidates atom) is has;
}

-- after a write
wrote_contained : (cell new : Cell) (text value : List ℕ) → new ≡ wrote cell text
    → Contains new.candidates value
    → Contains cell.candidates value ⊎ (value ≡ text)
wrote_contained cell new text value is has =
    more_contained cell.candidates text value (subst (λ c. Contains c.candidates value) is has)

pub wrote_view : (atom at n : ℕ) (text : List ℕ) (old new : List Cell)
    → ((k : ℕ) → k < n → at + k < length old) → new ≡ changed wrote old at (blocks_of atom n text)
    → IsWritten atom at n text (view_of_cells old) (view_of_cells new)
wrote_view atom at n text old new within is =
    let inside : (k : ℕ) → k < n
    → cell_in new (at + k) ≡ wrote (cell_in old (at + k)) (block_at atom text k) =
    λ k below. ap (λ cells. cell_in cells (at + k)) is
    ∙ changed_blocks-inside wrote old atom at n text k no_cell below (within k below) in
    let outside : (place : ℕ) → IsOutside at n place → cell_in new place ≡ cell_in old place =
    λ place far. ap (λ cells. cell_in cells place) is
    ∙ changed_blocks-outside wrote old atom at n text place no_cell far in
    record {
      tried = record {
        inside = λ k below value has. wrote_contained (cell_in old (at + k)) (cell_in new (at + k))
            (block_at atom text k) value (inside k below) has;
        outside = λ place far value has.
            subst (λ cell. Contains cell.candidates value) (outside place far) has;
      };
      inside = λ k below. ap (λ cell. cell.current) (inside k below);
      outside = λ place far. ap (λ cell. cell.current) (outside place far);
    }

-- after a write that failed
pub length-tried : (old : List Cell) (at : ℕ) (values : List (List ℕ)) (new : List Cell)
    → disk_cells.IsTried old at values new → length new ≡ length old
unfolding disk_cells.IsTried
length-tried [] at values new is = ap (λ cells. length cells) is
length-tried (cell ∷ old) at [] new is = ap (λ cells. length cells) is
length-tried (cell ∷ old) zero (value ∷ values) [] is = absurd is
length-tried (cell ∷ old) zero (value ∷ values) (next ∷ new) is =
    ap (λ n. suc n) (length-tried old 0 values new is.1)
length-tried (cell ∷ old) (suc at) (value ∷ values) [] is = absurd is
length-tried (cell ∷ old) (suc at) (value ∷ values) (next ∷ new) is =
    ap (λ n. suc n) (length-tried old at (value ∷ values) new is.1)

pub tried-outside : (old : List Cell) (at : ℕ) (values : List (List ℕ)) (new : List Cell)
    (place : ℕ)
    → disk_cells.IsTried old at values new → IsOutside at (length values) place
    → cell_in new place ≡ cell_in old place
unfolding disk_cells.IsTried
tried-outside [] at values new place is far = ap (λ cells. cell_in cells place) is
tried-outside (cell ∷ old) at [] new place is far = ap (λ cells. cell_in cells place) is
tried-outside (cell ∷ old) zero (value ∷ values) [] place is far = absurd is
tried-outside (cell ∷ old) zero (value ∷ values) (next ∷ new) place is (inl before) =
    absurd (omega arith)
tried-outside (cell ∷ old) zero (value ∷ values) (next ∷ new) zero is (inr behind) =
    absurd (omega arith)
tried-outside (cell ∷ old) zero (value ∷ values) (next ∷ new) (suc place) is (inr behind) =
    tried-outside old 0 values new place is.1 (inr (omega arith))
tried-outside (cell ∷ old) (suc at) (value ∷ values) [] place is far = absurd is
tried-outside (cell ∷ old) (suc at) (value ∷ values) (next ∷ new) zero is far = is.0
tried-outside (cell ∷ old) (suc at) (value ∷ values) (next ∷ new) (suc place) is (inl before) =
    tried-outside old at (value ∷ values) new place is.1 (inl (omega arith))
tried-outside (cell ∷ old) (suc at) (value ∷ values) (next ∷ new) (suc place) is (inr behind) =
    tried-outside old at (value ∷ values) new place is.1 (inr (omega arith))

pub tried-inside : (old : List Cell) (at : ℕ) (values : List (List ℕ)) (new : List Cell)
    (k place : ℕ)
    (e : List ℕ) → disk_cells.IsTried old at values new → place ≡ at + k → k < length values
    → place < length old
    → IsTriedAt (cell_in old place) (slice_index_or values k e) (cell_in new place)
unfolding disk_cells.IsTried
tried-inside [] at values new k place e is same below within = absurd (omega arith)
tried-inside (cell ∷ old) at [] new k place e is same below within = absurd (omega arith)
tried-inside (cell ∷ old) zero (value ∷ values) [] k place e is same below within = absurd is
tried-inside (cell ∷ old) zero (value ∷ values) (next ∷ new) zero zero e is same below within = is.0
tried-inside (cell ∷ old) zero (value ∷ values) (next ∷ new) zero (suc place) e is same below
    within = absurd (omega arith)
tried-inside (cell ∷ old) zero (value ∷ values) (next ∷ new) (suc k) zero e is same below within =
    absurd (omega arith)
tried-inside (cell ∷ old) zero (value ∷ values) (next ∷ new) (suc k) (suc place) e is same below
    within =
    tried-inside old 0 values new k place e is.1 (omega arith) (omega arith) (omega arith)
tried-inside (cell ∷ old) (suc at) (value ∷ values) [] k place e is same below within = absurd is
tried-inside (cell ∷ old) (suc at) (value ∷ values) (next ∷ new) k zero e is same below within =
    absurd (omega arith)
tried-inside (cell ∷ old) (suc at) (value ∷ values) (next ∷ new) k (suc place) e is same below
    within =
    tried-inside old at (value ∷ values) new k place e is.1 (omega arith) below (omega arith)

tried_contained : (cell new : Cell) (text value : List ℕ) → IsTriedAt cell text new
    → Contains new.candidates value
    → Contains cell.candidates value ⊎ (value ≡ text)
tried_contained cell new text value (inl same) has =
    inl (subst (λ c. Contains c.candidates value) same has)
tried_contained cell new text value (inr (inl is)) has =
    more_contained cell.candidates text value (subst (λ c. Contains c.candidates value) is has)
tried_contained cell new text value (inr (inr is)) has = wrote_contained cell new text value is has

outside_blocks : (atom at n : ℕ) (text : List ℕ) (place : ℕ) → IsOutside at n place
    → IsOutside at (length (blocks_of atom n text)) place
outside_blocks atom at n text place (inl before) = inl before
outside_blocks atom at n text place (inr behind) = inr (rw (length-blocks_of atom n text) behind)

tried_within : (atom at n : ℕ) (text : List ℕ) (old new : List Cell) (k : ℕ) (value : List ℕ)
    → disk_cells.IsTried old at (blocks_of atom n text) new → k < n → at + k < length old
    → Contains (cell_in new (at + k)).candidates value
    → Contains (cell_in old (at + k)).candidates value ⊎ (value ≡ block_at atom text k)
tried_within atom at n text old new k value is below within has =
    tried_contained (cell_in old (at + k)) (cell_in new (at + k)) (block_at atom text k) value
    (subst (λ block. IsTriedAt (cell_in old (at + k)) block (cell_in new (at + k)))
    (blocks_of-at atom n text k [] below)
    (tried-inside old at (blocks_of atom n text) new k (at + k) [] is refl
    (rw (length-blocks_of atom n text) below) within)) has

tried_past : (P : Type 0) (old : List Cell) (at : ℕ) (values : List (List ℕ)) (new : List Cell)
    (place : ℕ)
    (value : List ℕ) → disk_cells.IsTried old at values new → length old ≤ place
    → Contains (cell_in new place).candidates value → P
tried_past P old at values new place value is past has =
    none_contained P value (subst (λ cell. Contains cell.candidates value)
    (get_or_past new place no_cell (omega (arith, length-tried old at values new is, past))) has)

pub tried_view : (atom at n : ℕ) (text : List ℕ) (old new : List Cell)
    → disk_cells.IsTried old at (blocks_of atom n text) new
    → IsTried atom at n text (view_of_cells old) (view_of_cells new)
tried_view atom at n text old new is = record {
  inside = λ k below value has.
      elim (cases_lt (at + k) (length old)) as
      (λ _. Contains (cell_in old (at + k)).candidates value ⊎ (value ≡ block_at atom text k)) [
        | inl within ↦ tried_within atom at n text old new k value is below within has
        | inr past ↦ tried_past _ old at (blocks_of atom n text) new (at + k) value is past has
      ];
  outside = λ place far value has. subst (λ cell. Contains cell.candidates value)
      (tried-outside old at (blocks_of atom n text) new place is
      (outside_blocks atom at n text place far)) has;
}

-- after a write that made no device call
pub untried_view : (atom at n : ℕ) (text : List ℕ) (old new : List Cell) → new ≡ old
    → IsTried atom at n text (view_of_cells old) (view_of_cells new)
untried_view atom at n text old new is = record {
  inside = λ k below value has. inl ((kept_view old new is).candidates (at + k) value has);
  outside = λ place far. (kept_view old new is).candidates place;
}

-- after a sync
synced-current : (old : List Cell) (place : ℕ)
    → (cell_in (map synced old) place).current ≡ (cell_in old place).current
synced-current [] place = refl
synced-current (cell ∷ old) zero = refl
synced-current (cell ∷ old) (suc place) = synced-current old place

synced-candidates : (old : List Cell) (place : ℕ) (value : List ℕ)
    → Contains (cell_in (map synced old) place).candidates value
    → value ≡ (cell_in old place).current
synced-candidates [] place value has = none_contained (value ≡ []) value has
synced-candidates (cell ∷ old) zero value has = one_contained cell.current value has
synced-candidates (cell ∷ old) (suc place) value has = synced-candidates old place value has

pub synced_view : (old new : List Cell) → new ≡ map synced old
    → IsSynced (view_of_cells old) (view_of_cells new)
synced_view old new is = record {
  current = λ place. ap (λ cells. (cell_in cells place).current) is ∙ synced-current old place;
  candidates = λ place value has. synced-candidates old place value
      (subst (λ cells. Contains (cell_in cells place).candidates value) is has);
}

-- after a sync that failed
pub length-thinned : (old new : List Cell) → IsThinned old new → length new ≡ length old
unfolding IsThinned
length-thinned [] [] is = refl
length-thinned [] (next ∷ new) is = absurd is
length-thinned (cell ∷ old) [] is = absurd is
length-thinned (cell ∷ old) (next ∷ new) is = ap (λ n. suc n) (length-thinned old new is.1)

pub thinned_view : (old new : List Cell) → IsThinned old new
    → views.IsThinned (view_of_cells old) (view_of_cells new)
unfolding IsThinned
thinned_view [] [] is place value has = has
thinned_view [] (next ∷ new) is place value has = absurd is
thinned_view (cell ∷ old) [] is place value has = absurd is
thinned_view (cell ∷ old) (next ∷ new) is zero value has =
    All-contains (λ v. Contains cell.candidates v) next.candidates value is.0.candidates has
thinned_view (cell ∷ old) (next ∷ new) is (suc place) value has =
    thinned_view old new is.1 place value has

pub unthinned_view : (old new : List Cell) → new ≡ old
    → views.IsThinned (view_of_cells old) (view_of_cells new)
unthinned_view old new is = (kept_view old new is).candidates

-- an atom that holds some bytes is one of the table's
pub place_of_some : (cells : List Cell) (place : ℕ) → 0 < length (cell_in cells place).current
    → place < length cells
place_of_some cells place some =
    elim (cases_lt place (length cells)) as (λ _. place < length cells) [
      | inl within ↦ within
      | inr past ↦
          let none : length (cell_in cells place).current ≡ 0 =
          ap (λ cell. length cell.current) (get_or_past cells place no_cell past) in
          absurd (omega (arith, none, some))
    ]
