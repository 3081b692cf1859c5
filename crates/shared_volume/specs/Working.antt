-- The worker of a volume that threads share, by what its pass knows.
use Rattle.std.specs.Prelude.{ℕ, suc, ◌≡◌, ◌≤◌, List, [], ◌∷◌, ◌++◌, Contains, length, IsSome}
use Rattle.std.specs.Prelude.{IsSomeAnd}
use Rattle.gates.specs.declared.gate.Converted.{Converted}
use Rattle.reenc_worker.specs.declared.ends.WorkAnswer.{WorkAnswer}
use Rattle.reenc_worker.specs.declared.ends.WorkAnswer.TheVariants.{Ended}
use Rattle.reenc_worker.specs.declared.ends.WorkerEnd.TheVariants.{Spent}
use Rattle.shared_volume.specs.Lanes.{Knowing}
use Rattle.shared_volume.specs.declared.asking.SharedEvent.{SharedEvent}
use Rattle.shared_volume.specs.declared.asking.SharedEvent.TheVariants as Events
use Rattle.shared_volume.specs.declared.asking.SharedOutcome.{SharedOutcome}
use Rattle.shared_volume.specs.declared.asking.SharedOutcome.TheVariants as Outcomes
use Rattle.shared_volume.specs.declared.asking.WorkDone.{WorkDone}
use Rattle.volume_cell.specs.Histories.{Begins, call}
use Rattle.volume_cell.specs.Passes.{IsSamePass}
use Rattle.volume_cell.specs.declared.history.Call.{Call}
use Rattle.volume_core.specs.Zones.{worked_of}
use Rattle.volume_machine.specs.States.{State}
use Rattle.volume_laws.specs.WorkerRuns.Steps.{told_by}

-- the last lane is of this number, on a volume that has its conversion's work
pub record HasWorker {K : Type 0} (number : ℕ) (start : State K) : Type 0 where
  pub last : suc number ≡ length start.lanes
  pub armed : IsSome start.work

-- the asker is the worker, whose name is the last lane's number; no pass was split off it
pub record IsWorkerOf {C : Type 0} (v : Knowing C) (number : ℕ) : Type 0 where
  pub name : v.name ≡ number ∷ []
  pub start : IsSomeAnd v.start (HasWorker number)
  pub joined : v.joined ≡ []
  pub away : v.away ≡ []

-- a call for a step of the worker, and what came of it
abbrev pub work_call : ℕ → WorkDone → Call SharedEvent SharedOutcome
work_call number made = call (Events.Worker number) (Outcomes.Worker made)

-- what the worker is told of it
abbrev pub told_of : WorkDone → WorkAnswer
told_of made = told_by (worked_of made.worked)

-- These calls for steps were made, and the worker was answered so, one by one. A call that isn't
-- made, since the history is full, is answered by an end: the port is spent.
pub data AreAnswered (number : ℕ) : List (Call SharedEvent SharedOutcome) → List WorkAnswer
    → Type 0 where
  none : AreAnswered number [] []
  step : (made : WorkDone) (calls : List (Call SharedEvent SharedOutcome))
      (answers : List WorkAnswer) → AreAnswered number calls answers
      → AreAnswered number (work_call number made ∷ calls) (told_of made ∷ answers)
  refused : (calls : List (Call SharedEvent SharedOutcome)) (answers : List WorkAnswer)
      → AreAnswered number calls answers → AreAnswered number calls (Ended Spent ∷ answers)

-- how far the conversion was behind the last of these calls, where there is one
abbrev pub converted_by : SharedOutcome → Converted → Converted
converted_by (Outcomes.Worker made) before = made.converted
converted_by (Outcomes.Client answer) before = before

unfoldable pub converted_behind : Converted → List (Call SharedEvent SharedOutcome) → Converted
converted_behind converted [] = converted
converted_behind converted (one ∷ calls) =
    converted_behind (converted_by one.outcome converted) calls

-- From one moment to another the worker's calls were answered so, and it made no others. One is
-- answered that the port is spent only where the history has as many entries as the cell can take.
pub record HasCalled {C : Type 0} (limit number : ℕ) (v w : Knowing C) (old new : Converted)
    (answers : List WorkAnswer) : Type 0 where
  pub calls : List (Call SharedEvent SharedOutcome)
  pub is : w.calls ≡ v.calls ++ calls
  pub answered : AreAnswered number calls answers
  pub converted : new ≡ converted_behind old calls
  pub same : IsSamePass v w
  pub later : Begins v.history w.history
  pub full : Contains answers (Ended Spent) → limit ≤ length w.history
