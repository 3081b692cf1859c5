-- A call of the worker: that it fits, and what its answer tells.
use Rattle.std.proofs.Common.{◌≡◌, ℕ, suc, [], ◌∷◌, ◌++◌, Contains, IsSome, IsSomeAnd}
use Rattle.std.proofs.Common.{Some, append-nil, append_assoc, arith, length, refl, sym, ap, zero}
use Rattle.std.proofs.Common.{◌∙◌, subst}
use Rattle.hotzone.specs.declared.worker.ZoneFault.TheVariants as faults
use Rattle.gates.specs.declared.gate.Converted.{Converted}
use Rattle.reenc_worker.specs.declared.ends.WorkAnswer.TheVariants.{Ended}
use Rattle.reenc_worker.specs.declared.ends.WorkerEnd.TheVariants.{Spent}
use Rattle.shared_volume.specs.Histories.{FitsWorker}
use Rattle.shared_volume.specs.Lanes.{Knowing}
use Rattle.shared_volume.specs.Working.{HasCalled, HasWorker, IsWorkerOf, converted_behind}
use Rattle.shared_volume.specs.Working.{none, refused, step, told_of, work_call}
use Rattle.shared_volume.specs.declared.asking.SharedEvent.{SharedEvent}
use Rattle.shared_volume.specs.declared.asking.SharedEvent.TheVariants as Events
use Rattle.shared_volume.specs.declared.asking.SharedOutcome.TheVariants as Outcomes
use Rattle.shared_volume.specs.declared.asking.WorkDone.{WorkDone}
use Rattle.shared_volume.proofs.Turning.{and-some, same-some, some-and}
use Rattle.volume_cell.specs.Histories.{entry}
use Rattle.volume_cell.specs.Knowing.{beginning, split_off}
use Rattle.volume_cell.specs.Passes.{IsAnswered, IsSamePass, IsSpent}
use Rattle.volume_cell.specs.declared.spent.Spent as cell
use Rattle.volume_core.specs.Zones.{worked_of}
use Rattle.volume_core.specs.declared.answers.Worked.{Worked}
use Rattle.volume_core.specs.declared.answers.Worked.TheVariants as answers
use Rattle.volume_machine.specs.States.{State}
use Rattle.volume_machine.specs.declared.keys.Keys.{Keys}
use Rattle.volume_laws.specs.WorkerRuns.Steps.{told_by}

-- ---- the pass of the worker
-- the last lane's number is that of the worker of the volume with which a cell was made
pub has-worker : {C : Type 0} (volume : State (Keys C)) (first : Knowing C)
    → first ≡ beginning volume → IsSome volume.work → (number : ℕ)
    → suc number ≡ length volume.lanes → IsSomeAnd first.start (HasWorker number)
has-worker {C} volume first is some number last =
    and-some first.start (HasWorker number) volume (ap (λ (v : Knowing C). v.start) is)
    (record { last = last; armed = some })

-- the pass that is split off the first one behind those of all other lanes is the worker's
pub worker-of-split : {C : Type 0} (v w : Knowing C) (number : ℕ) → v.name ≡ []
    → v.splits ≡ number → IsSomeAnd v.start (HasWorker number) → w ≡ split_off v
    → IsWorkerOf w number
worker-of-split {C} v w number name next has is = record {
  name = ap (λ (u : Knowing C). u.name) is
      ∙ (ap (λ n. n ++ v.splits ∷ []) name ∙ ap (λ n. n ∷ []) next);
  start = subst (λ o. IsSomeAnd o (HasWorker number))
      (sym (ap (λ (u : Knowing C). u.start) is)) has;
  joined = ap (λ (u : Knowing C). u.joined) is;
  away = ap (λ (u : Knowing C). u.away) is;
}

module _ {C : Type 0} (v : Knowing C) (number : ℕ) (own : IsWorkerOf v number) where
  -- its call fits
  pub worker-fits : (start : State (Keys C)) → v.start ≡ Some start
      → FitsWorker start v.name number
  worker-fits start is =
      let (s, at, has) = some-and v.start (HasWorker number) own.start in
      let same : s ≡ start = same-some (sym at ∙ is) in record {
        lane_is = own.name;
        last = subst (λ (t : State (Keys C)). suc number ≡ length t.lanes) same has.last;
        armed = subst (λ (t : State (Keys C)). IsSome t.work) same has.armed;
      }

  -- the asker is the worker still
  pub worker-stays : (w : Knowing C) → IsSamePass v w → IsWorkerOf w number
  worker-stays w same = record {
    name = same.name ∙ own.name;
    start = subst (λ o. IsSomeAnd o (HasWorker number)) (sym same.start) own.start;
    joined = same.joined ∙ own.joined;
    away = same.away ∙ own.away;
  }

-- ---- what a call was answered
-- no step is answered that the port is spent
not-spent : (worked : Worked) → told_by (worked_of worked) ≡ Ended Spent → ⊥
not-spent answers.Stepped is = cc
not-spent (answers.Waiting lane) is = cc
not-spent answers.Finished is = cc
not-spent (answers.Fault faults.Device) is = cc
not-spent (answers.Fault (faults.DigestClash block digest)) is = cc
not-spent (answers.Fault (faults.SeqEnd left wanted)) is = cc
not-spent (answers.Fault (faults.JsonFull len limit)) is = cc
not-spent (answers.Fault faults.Memory) is = cc
not-spent answers.Broken is = cc

only-one : {X : Type 0} (x y : X) → Contains (x ∷ []) y → x ≡ y
only-one x y (zero, below, is) = is
only-one x y (suc k, below, is) = absurd (omega (arith, below))

module _ {C : Type 0} (limit number : ℕ) (v w : Knowing C) (same : IsSamePass v w) where
  pub called-one : (made : WorkDone) (converted : Converted)
      → IsAnswered limit v w (Events.Worker number) (Outcomes.Worker made)
      → HasCalled limit number v w converted made.converted (told_of made ∷ [])
  unfolding converted_behind
  called-one made converted answered = record {
    calls = work_call number made ∷ [];
    is = answered.calls;
    answered = step made [] [] none;
    converted = refl;
    same = same;
    later = record {
      rest = answered.later.rest
          ++ entry v.name (Events.Worker number) (Outcomes.Worker made) ∷ [];
      is = answered.last ∙ (ap (λ l. l
          ++ entry v.name (Events.Worker number) (Outcomes.Worker made) ∷ []) answered.later.is
          ∙ append_assoc v.history answered.later.rest
          (entry v.name (Events.Worker number) (Outcomes.Worker made) ∷ []));
    };
    full = λ contains. absurd (not-spent made.worked
        (only-one (told_of made) (Ended Spent) contains));
  }

  pub called-none : (converted : Converted) {event : SharedEvent} {spent : cell.Spent SharedEvent}
      → IsSpent limit v w event spent
      → HasCalled limit number v w converted converted (Ended Spent ∷ [])
  unfolding converted_behind
  called-none converted spent = record {
    calls = [];
    is = spent.calls ∙ sym (append-nil v.calls);
    answered = refused [] [] none;
    converted = refl;
    same = same;
    later = spent.later;
    full = λ contains. (let full = spent.full in omega (arith, full));
  }
