-- A disk as the layers above see it, and what one call does to it.
use Rattle.std.specs.Prelude.{ℕ, ◌≡◌, ◌⊎◌, List, Option, Some, None, Result, Ok, Err, IsSome}
use Rattle.std.specs.Prelude.{option_map}
use Rattle.base_terms.specs.declared.failed.Failed.{Failed}
use Rattle.base_terms.specs.Causes.{HasCause}
use Rattle.sector_disk.specs.Steps.{Told, remarked, TellsRead, TellsWrite, TellsSync}
use Rattle.sector_disk.specs.Values.{Reads, Writes}

-- how many bytes an atom has, how many atoms there are, and how many bytes lie behind the last whole
-- one, which no call reaches; the current bytes and the tables after each device call, where they are
-- told; and how many calls failed
pub record Device : Type 0 where
  pub size : ℕ
  pub atoms : ℕ
  pub tail : ℕ
  pub values : Option (List ℕ)
  pub told : Option Told
  pub faults : ℕ

-- A disk that told its tables with marks before a call tells them after it too. Of one that keeps
-- no marks, as a disk behind a head, its own clauses say how long it goes on.
abbrev pub GoesOn : Device → Device → Type 0
GoesOn old new = (before : Told) → old.told ≡ Some before → IsSome new.told ⊎ (before.mark ≡ None)

-- After a mark no table is another. A disk that tells marks tells this one with each call from here
-- on.
abbrev pub marked : Device → ℕ → Device
marked device number =
    record device {
      told = option_map {T = Told} (λ told. record told { mark = remarked told.mark number })
          device.told;
    }

-- whole atoms are read from atom `at` on; these bytes came
pub record ReadCall (atom at : ℕ) (bytes : List ℕ) (old new : Device)
    (result : Result (Unit {0}) Failed) : Type 0 where
  pub size : new.size ≡ old.size
  pub atoms : new.atoms ≡ old.atoms
  pub tail : new.tail ≡ old.tail
  pub values : new.values ≡ old.values
  pub content : Reads atom at old.values bytes result
  pub told : TellsRead old.told new.told result
  pub goes_on : GoesOn old new
  pub cause : HasCause old.faults new.faults result

-- whole atoms are written from atom `at` on
pub record WriteCall (atom at : ℕ) (bytes : List ℕ) (old new : Device)
    (result : Result (Unit {0}) Failed) : Type 0 where
  pub size : new.size ≡ old.size
  pub atoms : new.atoms ≡ old.atoms
  pub tail : new.tail ≡ old.tail
  pub values : Writes atom at bytes old.values new.values result
  pub told : TellsWrite atom at bytes old.told new.told result
  pub goes_on : GoesOn old new
  pub cause : HasCause old.faults new.faults result

-- every write so far is to be certain to be kept
pub record SyncCall (old new : Device) (result : Result (Unit {0}) Failed) : Type 0 where
  pub size : new.size ≡ old.size
  pub atoms : new.atoms ≡ old.atoms
  pub tail : new.tail ≡ old.tail
  pub values : new.values ≡ old.values
  pub told : TellsSync old.told new.told result
  pub goes_on : GoesOn old new
  pub cause : HasCause old.faults new.faults result

-- a device call that succeeded, and one that failed
abbrev pub succeeded : Result (Unit {0}) Failed
succeeded = Ok tt

abbrev pub failed_call : Result (Unit {0}) Failed
failed_call = Err (record {})
