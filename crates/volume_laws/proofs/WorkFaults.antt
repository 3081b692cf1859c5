-- What the worker does to a volume where a call of it fails, or a zone can't be made.
use Rattle.std.proofs.Common.{ap, false, inl, inr, refl, sym, true, ℕ, ◌∙◌, ◌≡◌, ◌≢◌, ◌⊎◌, List}
use Rattle.base_terms.specs.Causes.{Rose}
use Rattle.volume_machine.specs.Seals.{Seals}
use Rattle.volume_machine.specs.States.{State}
use Rattle.volume_machine.specs.Works.{Work}
use Rattle.crash_laws.specs.HeaderAreas.Commits.{Stage, begun, first_written, first_kept, second_written}
use Rattle.crash_laws.specs.HeaderAreas.Headers.{Header, Layout}
use Rattle.crash_laws.specs.HotZones.Zones.{Phase}
use Rattle.sector_disk.specs.Devices.{Device, failed_call}
use Rattle.volume_machine.specs.Readings.{Reading}
use Rattle.volume_machine.specs.WorkCalls as calls
use Rattle.volume_machine.specs.WorkCalls.{PutsCopy}
use Rattle.volume_machine.specs.Works.{Part, converting, resting}
use Rattle.volume_machine.specs.WorkSteps.{GivesUp, Hindrance, WorkStep, Worked, begins, concludes, ends}
use Rattle.volume_machine.specs.WorkSteps.{ends_zone, faulted, faults, hindered, is_hindered}
use Rattle.volume_machine.specs.WorkSteps.{is_unfinished, leaves_blocks, leaves_broken}
use Rattle.volume_machine.specs.WorkSteps.{misses_conclusion, misses_part, misses_wipe, opens_zone}
use Rattle.volume_machine.specs.WorkSteps.{awaits, finished, queues, stays, steps, stepped, takes}
use Rattle.volume_machine.specs.WorkSteps.{wiped, wipes}
use Rattle.volume_laws.specs.Faulting.{GoesByAnswer, GoesOnWithout}

-- ---- the count of faults by a call that failed
copy_rose : (atom : ℕ) (layout : Layout) (to : Header (List ℕ)) (stage : Stage) (old new : Device)
    → PutsCopy atom layout to stage old new failed_call → Rose old.faults new.faults
copy_rose atom layout to begun old new call = call.call.cause.failed refl
copy_rose atom layout to first_written old new call = call.cause.failed refl
copy_rose atom layout to first_kept old new call = call.call.cause.failed refl
copy_rose atom layout to second_written old new call = call.cause.failed refl

fails_rose : {seals : Seals} {atom : ℕ} {work : Work} {old new : Device} {phase next : Phase}
    {part : Part} → calls.StepFails seals atom work old new phase part next
    → Rose old.faults new.faults
fails_rose (calls.read_fails phase first text behind call) = call.cause.failed refl
fails_rose (calls.save_fails first count text saved it any call) = call.cause.failed refl
fails_rose {atom = atom} {work = work} {old = old} {new = new} (calls.open_fails stage part call) =
    copy_rose atom work.layout work.zone.opened stage old new call
fails_rose (calls.write_fails n count text next any is call) = call.cause.failed refl
fails_rose {atom = atom} {work = work} {old = old} {new = new} (calls.move_fails stage part call) =
    copy_rose atom work.layout work.zone.moved stage old new call
fails_rose (calls.shift_fails n count text next any is within call) = call.cause.failed refl
fails_rose {atom = atom} {work = work} {old = old} {new = new} (calls.turn_fails stage part call) =
    copy_rose atom work.layout work.zone.moved stage old new call
fails_rose (calls.sync_fails phase part is call) = call.cause.failed refl

module _ {K : Type 0} {old new : State K} where
  -- ---- by what a step is answered
  calm : (worked : Worked) → worked ≢ faulted → ((cause : Hindrance) → worked ≢ hindered cause)
      → old.broken ≡ false
      → new.broken ≡ false → GoesByAnswer old new worked
  calm worked faultless free was is = record {
    rose = λ e. absurd (faultless e);
    fails = λ e. absurd (faultless e);
    gives_up = λ cause e. absurd (free cause e);
    leaves = λ e. absurd (cc);
    others = λ other. is ∙ sym was;
  }

  failed : old.broken ≡ false → Rose old.disk.faults new.disk.faults
      → (new.broken ≡ true) ⊎ GoesOnWithout old new → GoesByAnswer old new faulted
  failed was rose goes = record {
    rose = λ e. rose;
    fails = λ e. goes;
    gives_up = λ cause e. absurd (cc);
    leaves = λ e. absurd (cc);
    others = λ other. absurd (other refl);
  }

  stopped : (cause : Hindrance) → old.broken ≡ false → new.disk ≡ old.disk
      → GoesOnWithout old new → GoesByAnswer old new (hindered cause)
  stopped cause was rests goes = record {
    rose = λ e. absurd (cc);
    fails = λ e. absurd (cc);
    gives_up = λ one e. (rests, goes);
    leaves = λ e. absurd (cc);
    others = λ other. goes.whole ∙ sym was;
  }

  stepped_so : old.broken ≡ false → new.broken ≡ false → GoesByAnswer old new stepped
  stepped_so = calm stepped (λ e. cc) (λ cause e. cc)

  awaits_so : (lane : ℕ) → old.broken ≡ false → new.broken ≡ false
      → GoesByAnswer old new (awaits lane)
  awaits_so lane = calm (awaits lane) (λ e. cc) (λ cause e. cc)

  -- a zone that is given up
  given : (work : Work) → GivesUp old new work → GoesOnWithout old new
  given work it = record {
    whole = it.frees.broken_is;
    map = it.frees.map;
    keys = it.frees.keys;
    at_rest = λ next at. (let same : next ≡ resting work.layout work.zone.before work.progress =
        (let becomes = it.frees.work in cc) in rw same refl);
  }

  -- ---- each step
  pub goes_by_answer : (reading : Reading) (seals : Seals) (worked : Worked)
      → WorkStep reading seals old new worked → GoesByAnswer old new worked
  goes_by_answer reading seals _ (takes grant it) =
      stepped_so it.unbroken (it.admitted.goes.broken_is ∙ it.unbroken)
  goes_by_answer reading seals _ (queues lane it) =
      awaits_so lane it.unbroken (it.admitted.goes.broken_is ∙ it.unbroken)
  goes_by_answer reading seals _ (stays lane it) =
      awaits_so lane it.unbroken (ap (λ s. s.broken) it.same ∙ it.unbroken)
  goes_by_answer reading seals _ (begins it) = stepped_so it.unbroken it.goes.broken_is
  goes_by_answer reading seals _ (steps it) = stepped_so it.unbroken it.goes.broken_is
  goes_by_answer reading seals _ (opens_zone it) = stepped_so it.unbroken it.goes.broken_is
  goes_by_answer reading seals _ (ends_zone it) = stepped_so it.unbroken it.goes.broken_is
  goes_by_answer reading seals _ (leaves_blocks it) = stepped_so it.unbroken it.frees.broken_is
  goes_by_answer reading seals _ (concludes it) = stepped_so it.may.unbroken it.goes.broken_is
  goes_by_answer reading seals _ (wipes it) = stepped_so it.unbroken it.goes.broken_is
  goes_by_answer reading seals _ (wiped it) = stepped_so it.unbroken it.goes.broken_is
  goes_by_answer reading seals _ (ends it) =
      calm finished (λ e. cc) (λ cause e. cc) it.unbroken (ap (λ s. s.broken) it.same ∙ it.unbroken)
  goes_by_answer reading seals _ (misses_part it) =
      failed it.gives_up.unbroken (it.call.cause.failed refl) (inr (given it.work it.gives_up))
  goes_by_answer reading seals _ (is_hindered cause it) =
      stopped cause it.gives_up.unbroken it.rests (given it.work it.gives_up)
  goes_by_answer reading seals _ (is_unfinished cause it) =
      stopped cause it.unbroken (ap (λ s. s.disk) it.same) (record {
        whole = ap (λ s. s.broken) it.same ∙ it.unbroken;
        map = ap (λ s. s.map) it.same;
        keys = ap (λ s. s.keys) it.same;
        at_rest = λ work at. (let same : work ≡ resting it.layout it.header converting =
            (let was = it.was in let stays_so = ap (λ s. s.work) it.same in cc) in rw same refl);
      })
  goes_by_answer reading seals _ (faults it) =
      failed it.unbroken (fails_rose it.fails) (inl it.frees.broken_is)
  goes_by_answer reading seals _ (misses_conclusion it) =
      failed it.may.unbroken (it.call.call.cause.failed refl) (inl it.frees.broken_is)
  goes_by_answer reading seals _ (misses_wipe it) =
      failed it.unbroken (it.call.call.cause.failed refl) (inl it.frees.broken_is)
  goes_by_answer reading seals _ (leaves_broken it) = record {
    rose = λ e. absurd (cc);
    fails = λ e. absurd (cc);
    gives_up = λ cause e. absurd (cc);
    leaves = λ e. (refl, it.frees.broken_is, it.rests);
    others = λ other. it.frees.broken_is ∙ sym it.broken;
  }
