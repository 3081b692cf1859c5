-- What each atom of a disk holds: its current value, and the values that a stop may leave there.
use Rattle.std.specs.Prelude.{ℕ, zero, suc, ◌≡◌, ◌⊎◌, List, [], ◌∷◌, ◌++◌, length, map, All}
use Rattle.std.specs.Prelude.{Contains}
use Rattle.std.specs.List.{AllByRecursion}
use Rattle.base_terms.specs.Blocks.{joined}

-- an atom: the value that a read gives, and its candidates, the oldest first
pub record Cell : Type 0 where
  pub current : List ℕ
  pub candidates : List (List ℕ)

-- an atom that holds this value for certain
abbrev pub sure : List ℕ → Cell
sure value = record { current = value; candidates = value ∷ [] }

-- after a write: the new value is current, and a candidate besides the earlier ones
abbrev pub wrote : Cell → List ℕ → Cell
wrote cell value = record { current = value; candidates = cell.candidates ++ value ∷ [] }

-- after a write that failed at this atom with the old value current
abbrev pub tried : Cell → List ℕ → Cell
tried cell value = record { current = cell.current; candidates = cell.candidates ++ value ∷ [] }

-- after a sync: the current value is the only candidate
abbrev pub synced : Cell → Cell
synced cell = sure cell.current

-- the current values
unfoldable pub currents : List Cell → List (List ℕ)
currents cells = map (λ cell. cell.current) cells

-- the current values, as one text
unfoldable pub content : List Cell → List ℕ
content cells = joined (currents cells)

-- the current value is a candidate
abbrev pub IsHeld : Cell → Type 0
IsHeld cell = Contains cell.candidates cell.current

-- each current value is a candidate
abbrev pub AreHeld : List Cell → Type 0
AreHeld cells = AllByRecursion IsHeld cells

-- each candidate has so many bytes
abbrev pub IsSized : ℕ → Cell → Type 0
IsSized size cell = (value : List ℕ) → Contains cell.candidates value → length value ≡ size

-- each candidate of each atom has so many bytes
abbrev pub AreSized : ℕ → List Cell → Type 0
AreSized size cells = AllByRecursion (IsSized size) cells

-- atoms that hold the values of a text for certain
unfoldable pub sures : List (List ℕ) → List Cell
sures values = map sure values

-- what a failed write may leave of one atom
abbrev pub IsTriedAt : Cell → List ℕ → Cell → Type 0
IsTriedAt old value new = (new ≡ old) ⊎ (new ≡ tried old value) ⊎ (new ≡ wrote old value)

-- what a failed write of these values from atom `at` on may leave
unfoldable pub IsTried : List Cell → ℕ → List (List ℕ) → List Cell → Type 0
IsTried [] at values new = new ≡ []
IsTried (cell ∷ cells) at [] new = new ≡ cell ∷ cells
IsTried (cell ∷ cells) zero (value ∷ values) [] = ⊥
IsTried (cell ∷ cells) zero (value ∷ values) (next ∷ new) =
    IsTriedAt cell value next × IsTried cells zero values new
IsTried (cell ∷ cells) (suc at) (value ∷ values) [] = ⊥
IsTried (cell ∷ cells) (suc at) (value ∷ values) (next ∷ new) =
    (next ≡ cell) × IsTried cells at (value ∷ values) new

-- what a failed sync may leave of one atom
pub record IsThinnedAt (old new : Cell) : Type 0 where
  pub current : new.current ≡ old.current
  pub candidates : All (Contains old.candidates) new.candidates

-- what a failed sync may leave
unfoldable pub IsThinned : List Cell → List Cell → Type 0
IsThinned [] [] = Unit {0}
IsThinned [] (next ∷ new) = ⊥
IsThinned (cell ∷ cells) [] = ⊥
IsThinned (cell ∷ cells) (next ∷ new) = IsThinnedAt cell next × IsThinned cells new

-- an image takes one candidate of each atom
unfoldable pub IsImage : List Cell → List (List ℕ) → Type 0
IsImage [] [] = Unit {0}
IsImage [] (value ∷ values) = ⊥
IsImage (cell ∷ cells) [] = ⊥
IsImage (cell ∷ cells) (value ∷ values) = Contains cell.candidates value × IsImage cells values

-- each atom holds its current value for certain
unfoldable pub AreSettled : List Cell → Type 0
AreSettled [] = Unit {0}
AreSettled (cell ∷ cells) = (cell.candidates ≡ cell.current ∷ []) × AreSettled cells
