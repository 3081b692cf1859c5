-- A disk as a run of events sees it: of each atom what it holds now, and what a stop may leave.
use Rattle.std.specs.Prelude.{ℕ, ◌≡◌, ◌+◌, ◌<◌, ◌≤◌, ◌⊎◌, List, [], Contains}
use Rattle.sector_disk.specs.Cells.{Cell}
use Rattle.sector_disk.specs.DiskViews.Parts.{cell_in}
use Rattle.sector_disk.specs.DiskViews.Parts.{block_at}

-- by place: the current value, and the candidates
pub record View : Type 0 where
  pub current : ℕ → List ℕ
  pub candidates : ℕ → List (List ℕ)

-- a disk that tells its bytes, and one that tells its tables
abbrev pub view_of_bytes : ℕ → List ℕ → View
view_of_bytes atom bytes = record {
  current = λ place. block_at atom bytes place;
  candidates = λ place. [];
}

abbrev pub view_of_cells : List Cell → View
view_of_cells cells = record {
  current = λ place. (cell_in cells place).current;
  candidates = λ place. (cell_in cells place).candidates;
}

-- each candidate of the place was one before
abbrev pub HasNoMore : View → View → ℕ → Type 0
HasNoMore old new place =
    (atom : List ℕ) → Contains (new.candidates place) atom → Contains (old.candidates place) atom

-- the place is none of the `n` from `at` on
abbrev pub IsOutside : ℕ → ℕ → ℕ → Type 0
IsOutside at n place = (place < at) ⊎ (at + n ≤ place)

-- after a read
pub record IsUnchanged (old new : View) : Type 0 where
  pub current : (place : ℕ) → new.current place ≡ old.current place
  pub candidates : (place : ℕ) → HasNoMore old new place

-- after a write of the blocks of a text that may have failed: only they were added, and only in
-- their places
pub record IsTried (atom at n : ℕ) (bytes : List ℕ) (old new : View) : Type 0 where
  pub inside : (k : ℕ) → k < n → (value : List ℕ) → Contains (new.candidates (at + k)) value →
      Contains (old.candidates (at + k)) value ⊎ (value ≡ block_at atom bytes k)
  pub outside : (place : ℕ) → IsOutside at n place → HasNoMore old new place

-- after a write that succeeded they are current
pub record IsWritten (atom at n : ℕ) (bytes : List ℕ) (old new : View) : Type 0 where
  pub tried : IsTried atom at n bytes old new
  pub inside : (k : ℕ) → k < n → new.current (at + k) ≡ block_at atom bytes k
  pub outside : (place : ℕ) → IsOutside at n place → new.current place ≡ old.current place

-- after a sync that succeeded only the current values are left
pub record IsSynced (old new : View) : Type 0 where
  pub current : (place : ℕ) → new.current place ≡ old.current place
  pub candidates : (place : ℕ) (value : List ℕ) → Contains (new.candidates place) value
      → value ≡ old.current place

-- after a sync that failed
abbrev pub IsThinned : View → View → Type 0
IsThinned old new = (place : ℕ) → HasNoMore old new place
