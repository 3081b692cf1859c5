-- Each step of the worker goes on from a moment to another; and while a client holds a block the
-- worker leaves it where it is.
use Rattle.std.proofs.Common.{List, [], length, subst, suc, sym, ℕ, ◌≡◌}
use Rattle.plain_disk.specs.Plain.{Block}
use Rattle.volume_machine.specs.Edges.{InPlain, nothing}
use Rattle.volume_machine.specs.Seals.{Seals}
use Rattle.volume_machine.specs.States.{State}
use Rattle.volume_machine.specs.Courses.{Courses}
use Rattle.volume_machine.specs.Readings.{Reading}
use Rattle.volume_machine.specs.WorkSteps.{WorkStep, Worked, begins, concludes, ends}
use Rattle.volume_machine.specs.WorkSteps.{ends_zone, faults, is_hindered, is_unfinished}
use Rattle.volume_machine.specs.WorkSteps.{leaves_blocks, leaves_broken, misses_conclusion}
use Rattle.volume_machine.specs.WorkSteps.{misses_part, misses_wipe, opens_zone, queues, stays}
use Rattle.volume_machine.specs.WorkSteps.{steps, takes, wiped, wipes}
use Rattle.volume_laws.proofs.BeginsServed.{begins_served}
use Rattle.volume_laws.proofs.FaultsServed.{faults_served, wipe_fails_served}
use Rattle.volume_laws.proofs.FinishServed.{takes_served, wiped_served, wipes_served}
use Rattle.volume_laws.proofs.FreesServed.{broken_served, leaves_served}
use Rattle.volume_laws.proofs.GivesUpServed.{hindered_served, misses_part_served}
use Rattle.volume_laws.proofs.Here.{Here}
use Rattle.volume_laws.proofs.NamedServed.{concludes_served, conclusion_fails_served, steps_served}
use Rattle.volume_laws.proofs.TurnsServed.{opens_served}
use Rattle.volume_laws.proofs.ZoneEnded.{ends_served}

-- the worker's lane has nothing in plain
abbrev pub NothingOfWorkers : {K : Type 0} → State K → (ℕ → InPlain) → Type 0
NothingOfWorkers state plain = (lane : ℕ) → suc lane ≡ length state.lanes → plain lane ≡ nothing

module _ {K P Q : Type 0} {reading : Reading} {old new : State K} {seals : Seals}
    {plain : ℕ → InPlain} {left : List Block} (here : Here P Q old seals plain left) (all : Q)
    (courses : Courses reading old) (none : NothingOfWorkers old plain) where
  same_here : new ≡ old → Here P Q new seals plain left
  same_here same = subst (λ s. Here P Q s seals plain left) (sym same) here

  pub work_served : {worked : Worked} → WorkStep reading seals old new worked
      → Here P Q new seals plain left
  work_served (takes grant it) = takes_served here it (none it.lane it.last)
  work_served (queues lane it) = takes_served here it (none it.lane it.last)
  work_served (stays lane it) = same_here it.same
  work_served (begins it) = begins_served here it
  work_served (steps it) = steps_served here all it
  work_served (opens_zone it) = opens_served here it (courses it.work it.was)
  work_served (ends_zone it) = ends_served here it (courses it.work it.was)
  work_served (leaves_blocks it) = leaves_served here it
  work_served (concludes it) = concludes_served here all it
  work_served (wipes it) = wipes_served here all it
  work_served (wiped it) = wiped_served here it
  work_served (ends it) = same_here it.same
  work_served (misses_part it) = misses_part_served here it
  work_served (is_hindered cause it) = hindered_served here it
  work_served (is_unfinished cause it) = same_here it.same
  work_served (faults it) = faults_served here it
  work_served (misses_conclusion it) = conclusion_fails_served here it
  work_served (misses_wipe it) = wipe_fails_served here it
  work_served (leaves_broken it) = broken_served here it
