-- What the worker does to a volume where a call of it fails, or a zone can't be made.
use Rattle.std.specs.Prelude.{◌≡◌, ◌≢◌, ◌⊎◌, false, true, Some}
use Rattle.base_terms.specs.Causes.{Rose}
use Rattle.volume_machine.specs.Courses.{IsAtRest}
use Rattle.volume_machine.specs.States.{State}
use Rattle.volume_machine.specs.WorkSteps.{Hindrance, Worked, faulted, hindered, was_broken}
use Rattle.volume_machine.specs.Works.{Work}

-- the volume stays in use as it was, and no zone is at hand
pub record GoesOnWithout {K : Type 0} (old new : State K) : Type 0 where
  pub whole : new.broken ≡ false
  pub map : new.map ≡ old.map
  pub keys : new.keys ≡ old.keys
  pub at_rest : (work : Work) → new.work ≡ Some work → IsAtRest work

-- A step breaks a volume only where a call of it failed. One that failed has broken the volume, or
-- has given up its zone; one that was hindered has given it up without a call. A broken volume is
-- left alone.
pub record GoesByAnswer {K : Type 0} (old new : State K) (worked : Worked) : Type 0 where
  pub rose : worked ≡ faulted → Rose old.disk.faults new.disk.faults
  pub fails : worked ≡ faulted → (new.broken ≡ true) ⊎ GoesOnWithout old new
  pub gives_up : (cause : Hindrance) → worked ≡ hindered cause → (new.disk ≡ old.disk) × GoesOnWithout old new
  pub leaves : old.broken ≡ true
      → (worked ≡ was_broken) × (new.broken ≡ true) × (new.disk ≡ old.disk)
  pub others : worked ≢ faulted → new.broken ≡ old.broken
