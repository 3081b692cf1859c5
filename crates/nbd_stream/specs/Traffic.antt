-- What went from a source and to a sink between two moments, where they tell it.
use Rattle.std.specs.Prelude.{ℕ, ◌≡◌, ◌+◌, ◌<◌, ◌≤◌, List, [], ◌++◌, length, Some}
use Rattle.base_terms.specs.Causes.{Rose}
use Rattle.io_edge.specs.Intake.{Intake}
use Rattle.io_edge.specs.Outlet.{Outlet}
use Rattle.nbd_stream.specs.Counts.{capped}
use Rattle.nbd_stream.specs.declared.filling.Filled.{Filled}
use Rattle.nbd_stream.specs.declared.filling.Filled.TheVariants.{Whole, Ended, Fault}

-- these bytes were taken from a source
pub record Took (old new : Intake) (bytes : List ℕ) : Type 0 where
  pub given : (xs : List ℕ) → old.given ≡ Some xs → new.given ≡ Some (xs ++ bytes)
  pub left : (xs : List ℕ) → old.left ≡ Some xs → (rest : List ℕ) × (xs ≡ bytes ++ rest)
      × (new.left ≡ Some rest)

-- nothing is left of an input
abbrev pub HasEnded : Intake → Intake → Type 0
HasEnded old new = (xs : List ℕ) → old.left ≡ Some xs → new.left ≡ Some []

-- these bytes went to a sink
abbrev pub Sent : Outlet → Outlet → List ℕ → Type 0
Sent old new bytes = (xs : List ℕ) → old.had ≡ Some xs → new.had ≡ Some (xs ++ bytes)

-- how many bytes came of `len` that were wanted
abbrev pub filled_of : ℕ → Filled → ℕ
filled_of len Whole = len
filled_of len (Ended n) = n
filled_of len (Fault n) = n

-- fewer came than were wanted only at the end of the input, or where the source failed
abbrev pub FillsOr : ℕ → Intake → Intake → Filled → Type 0
FillsOr len old new Whole = new.faults ≡ old.faults
FillsOr len old new (Ended n) = (n < len) × HasEnded old new × (new.faults ≡ old.faults)
FillsOr len old new (Fault n) = (n < len) × Rose old.faults new.faults

-- `len` bytes were wanted, and these were taken
pub record Fills (old new : Intake) (len : ℕ) (result : Filled) (bytes : List ℕ) : Type 0 where
  pub took : Took old new bytes
  pub count : length bytes ≡ filled_of len result
  pub fewer : FillsOr len old new result
  pub later : old.faults ≤ new.faults

-- how far a session read: its source at a moment, and the session's count of bytes taken
pub record Reach : Type 0 where
  pub source : Intake
  pub taken : ℕ

abbrev pub reach : Intake → ℕ → Reach
reach source taken = record { source = source; taken = taken }

-- these bytes were taken and counted
pub record Takes (old new : Reach) (bytes : List ℕ) : Type 0 where
  pub took : Took old.source new.source bytes
  pub later : old.source.faults ≤ new.source.faults
  pub counted : capped new.taken ≡ capped (old.taken + length bytes)
