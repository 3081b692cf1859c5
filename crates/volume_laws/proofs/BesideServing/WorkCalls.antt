-- What each step of the worker leaves of its disk: at most one call.
use Rattle.std.proofs.Common.{List, Option, Result, ap, arith, inl, inr, refl, sym, ℕ, ◌∙◌, ◌≡◌}
use Rattle.std.proofs.Common.{◌≤◌}
use Rattle.sector_disk.specs.Cells.{Cell}
use Rattle.sector_disk.specs.Steps.{MovesOrNot, Told}
use Rattle.volume_machine.specs.Effects.{Grows}
use Rattle.volume_machine.specs.Seals.{Seals}
use Rattle.volume_machine.specs.States.{State}
use Rattle.volume_machine.specs.Works.{Work}
use Rattle.std.proofs.Common.{Err, Ok}
use Rattle.base_terms.specs.declared.failed.Failed.{Failed}
use Rattle.crash_laws.specs.HeaderAreas.Commits.{Stage, begun, first_kept, first_written, second_written}
use Rattle.crash_laws.specs.HeaderAreas.Headers.{Header, Layout}
use Rattle.sector_disk.specs.Devices.{Device, ReadCall, SyncCall, WriteCall, failed_call, succeeded}
use Rattle.sector_disk.specs.Steps.{Moves}
use Rattle.volume_machine.specs.Readings.{Reading}
use Rattle.volume_machine.specs.WorkCalls as calls
use Rattle.volume_machine.specs.WorkCalls.{PutsCopy}
use Rattle.volume_machine.specs.WorkSteps.{WorkStep, Worked, begins}
use Rattle.volume_machine.specs.WorkSteps.{concludes, ends, ends_zone, faults, is_hindered}
use Rattle.volume_machine.specs.WorkSteps.{is_unfinished, leaves_blocks, leaves_broken}
use Rattle.volume_machine.specs.WorkSteps.{misses_conclusion, misses_part, misses_wipe, opens_zone}
use Rattle.volume_machine.specs.WorkSteps.{queues, stays, steps, takes, wiped, wipes}

pub record IsCalled (old new : Device) : Type 0 where
  pub later : old.faults ≤ new.faults
  pub tables : Grows old.told new.told

pub rests : {old new : Device} → new ≡ old → IsCalled old new
rests same = record {
  later = (let e = ap (λ d. d.faults) same in omega (arith, e));
  tables = λ now is. (now, sym (ap (λ d. d.told) same) ∙ is, inl refl);
}

moved : (Step : List Cell → List Cell → Type 0) {old new : Option Told} → Moves Step old new
    → Grows old new
moved Step moves now is = let (before, was, step) = moves now is in (before, was, inr step.one)

moved_or : (Step : List Cell → List Cell → Type 0) {old new : Option Told}
    → MovesOrNot Step old new → Grows old new
moved_or Step (inl same) now is = (now, sym same ∙ is, inl refl)
moved_or Step (inr moves) now is = moved Step moves now is

module _ {atom at : ℕ} {text : List ℕ} {old new : Device} where
  read_called : (result : Result (Unit {0}) Failed) → ReadCall atom at text old new result
      → IsCalled old new
  read_called (Ok done) call = record { later = call.cause.later; tables = moved _ call.told }
  read_called (Err failed) call = record { later = call.cause.later; tables = moved_or _ call.told }

  write_called : (result : Result (Unit {0}) Failed) → WriteCall atom at text old new result
      → IsCalled old new
  write_called (Ok done) call = record { later = call.cause.later; tables = moved _ call.told }
  write_called (Err failed) call = record { later = call.cause.later; tables = moved_or _ call.told }

sync_called : {old new : Device} (result : Result (Unit {0}) Failed) → SyncCall old new result
    → IsCalled old new
sync_called (Ok done) call = record { later = call.cause.later; tables = moved _ call.told }
sync_called (Err failed) call = record { later = call.cause.later; tables = moved_or _ call.told }

copy_called : (atom : ℕ) (layout : Layout) (to : Header (List ℕ)) (stage : Stage)
    (old new : Device) (result : Result (Unit {0}) Failed)
    → PutsCopy atom layout to stage old new result → IsCalled old new
copy_called atom layout to begun old new result call = write_called result call.call
copy_called atom layout to first_written old new result call = sync_called result call
copy_called atom layout to first_kept old new result call = write_called result call.call
copy_called atom layout to second_written old new result call = sync_called result call

module _ {seals : Seals} {atom : ℕ} {work : Work} {old new : Device} where
  step_called : {phase next : _} {part later : _}
      → calls.ZoneStep seals atom work old new phase part next later → IsCalled old new
  step_called (calls.reads phase first count text is counted any long call) =
      read_called succeeded call
  step_called (calls.saves first count text saved it any call) = write_called succeeded call
  step_called (calls.keeps part call) = sync_called succeeded call
  step_called (calls.opens stage part goes call) =
      copy_called atom work.layout work.zone.opened stage old new succeeded call
  step_called (calls.writes n count text next any is call) = write_called succeeded call
  step_called (calls.settles part call) = sync_called succeeded call
  step_called (calls.moves stage part goes call) =
      copy_called atom work.layout work.zone.moved stage old new succeeded call
  step_called (calls.shifts n count text next any is within call) = write_called succeeded call
  step_called (calls.arrives part call) = sync_called succeeded call
  step_called (calls.turns stage part goes call) =
      copy_called atom work.layout work.zone.moved stage old new succeeded call

  fails_called : {phase next : _} {part : _}
      → calls.StepFails seals atom work old new phase part next → IsCalled old new
  fails_called (calls.read_fails phase first text behind call) = read_called failed_call call
  fails_called (calls.save_fails first count text saved it any call) = write_called failed_call call
  fails_called (calls.open_fails stage part call) =
      copy_called atom work.layout work.zone.opened stage old new failed_call call
  fails_called (calls.write_fails n count text next any is call) = write_called failed_call call
  fails_called (calls.move_fails stage part call) =
      copy_called atom work.layout work.zone.moved stage old new failed_call call
  fails_called (calls.shift_fails n count text next any is within call) =
      write_called failed_call call
  fails_called (calls.turn_fails stage part call) =
      copy_called atom work.layout work.zone.moved stage old new failed_call call
  fails_called (calls.sync_fails phase part is call) = sync_called failed_call call

-- ---- by each step
pub work_called : {K : Type 0} {reading : Reading} {seals : Seals} {old new : State K}
    {worked : Worked} → WorkStep reading seals old new worked → IsCalled old.disk new.disk
work_called (takes grant it) = rests it.admitted.rests
work_called (queues lane it) = rests it.admitted.rests
work_called (stays lane it) = rests (ap (λ s. s.disk) it.same)
work_called (begins it) = sync_called succeeded it.call
work_called (steps it) = step_called it.step
work_called (opens_zone it) = sync_called succeeded it.call
work_called (ends_zone it) = sync_called succeeded it.call
work_called (leaves_blocks it) = rests it.rests
work_called (concludes it) = write_called succeeded it.call.call
work_called (wipes it) = write_called succeeded it.call.call
work_called (wiped it) = sync_called succeeded it.call
work_called (ends it) = rests (ap (λ s. s.disk) it.same)
work_called (misses_part it) = read_called failed_call it.call
work_called (is_hindered cause it) = rests it.rests
work_called (is_unfinished cause it) = rests (ap (λ s. s.disk) it.same)
work_called (faults it) = fails_called it.fails
work_called (misses_conclusion it) = write_called failed_call it.call.call
work_called (misses_wipe it) = write_called failed_call it.call.call
work_called (leaves_broken it) = rests it.rests
