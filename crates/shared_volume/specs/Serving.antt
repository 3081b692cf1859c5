-- What a volume that threads share has answered in all: what is known once its cell is closed.
use Rattle.std.specs.Prelude.{ℕ, suc, ◌≡◌, ◌++◌, List, [], ◌∷◌, All, length, IsSome}
use Rattle.base_terms.specs.declared.disk_sizes.Sizes.{Sizes}
use Rattle.volume_laws.specs.BesideLanes.Lanes.{IsKept, answered_on, deeds_of, works_over}
use Rattle.reenc_worker.specs.Answers.{GoesOn}
use Rattle.reenc_worker.specs.declared.ends.WorkAnswer.TheVariants.{Ended}
use Rattle.reenc_worker.specs.declared.ends.WorkerEnd.{WorkerEnd}
use Rattle.shared_volume.specs.Histories.{IsReadSo, Tells, alone_by, own_calls}
use Rattle.shared_volume.specs.Lanes.{HasAnswered}
use Rattle.shared_volume.specs.declared.asking.SharedEvent.{SharedEvent}
use Rattle.shared_volume.specs.declared.asking.SharedEvent.TheVariants as Events
use Rattle.shared_volume.specs.declared.asking.SharedOutcome.{SharedOutcome}
use Rattle.shared_volume.specs.declared.asking.SharedOutcome.TheVariants as Outcomes
use Rattle.volume_cell.specs.Histories.{accounted}
use Rattle.volume_cell.specs.Knowing.{accounts}
use Rattle.volume_cell.specs.declared.history.Call.{Call}
use Rattle.volume_cell.specs.declared.knowledge.Knowledge.{Knowledge}
use Rattle.volume_core.specs.Zones.{IsReadBy, worked_of}
use Rattle.volume_laws.specs.Lanes.{answered_under}
use Rattle.volume_machine.specs.Alone.{answers_of, idle_lane}
use Rattle.volume_machine.specs.Answers.{AreTagged, Tagged}
use Rattle.volume_machine.specs.Deeds.{AreDeeds, Deed, state_after, worker}
use Rattle.volume_machine.specs.Runs.{Happening, IsRun, last_of, no_plain}
use Rattle.volume_machine.specs.Seals.{Seals}
use Rattle.volume_machine.specs.States.{IsClient, State, open_at}
use Rattle.volume_machine.specs.WorkSteps.{Worked}
use Rattle.volume_laws.specs.WorkerRuns.Steps.{told_by}
use Rattle.hotzone.specs.ZoneEvents.Readings.{reading_of}

-- the calls that were made on a lane, by the account under its number
abbrev pub calls_on : {K : Type 0} → ℕ → Knowledge (State K) SharedEvent SharedOutcome
    → List (Call SharedEvent SharedOutcome)
calls_on lane v = accounted (lane ∷ []) (accounts v)

-- the worker's steps among calls, by what they were answered
abbrev pub work_by : SharedEvent → SharedOutcome → List Worked
work_by (Events.Worker lane) (Outcomes.Worker made) = worked_of made.worked ∷ []
work_by _ _ = []

unfoldable pub works_in : List (Call SharedEvent SharedOutcome) → List Worked
works_in [] = []
works_in (one ∷ calls) = work_by one.event one.outcome ++ works_in calls

-- The history is deeds, from the volume that was handed in to this one, by each sizes by which the
-- volume's header is read. Under each lane they have answered what the calls made on the lane answer,
-- so just the operations that they answered; what is under way on a lane of clients is what they left
-- under way; and the steps of the worker are those that the calls on the last lane made.
pub record HasServedBeside {K : Type 0} (seals : Seals) (start now : State K)
    (v : Knowledge (State K) SharedEvent SharedOutcome) : Type 0 where
  pub deeds : List (Deed K)
  pub tells : Tells (length start.lanes) v.history deeds
  pub are : (sizes : Sizes) → IsReadSo sizes start → AreDeeds (reading_of sizes) seals start deeds
  pub read : (sizes : Sizes) → IsReadBy sizes start → IsReadBy sizes now
  pub armed : IsSome start.work → IsSome now.work
  pub kept : (sizes : Sizes) → IsReadSo sizes start → IsKept (reading_of sizes) now
  pub last : state_after start deeds ≡ now
  pub lanes : (lane : ℕ) → answered_on lane seals start no_plain deeds
      ≡ answers_of start.map.atom seals idle_lane (own_calls (calls_on lane v))
  pub under_way : (lane : ℕ) → IsClient start lane → open_at now.lanes lane
      ≡ (alone_by seals start (calls_on lane v)).operation
  pub answered : (lane : ℕ) (history : List Tagged)
      → HasAnswered seals start [] (calls_on lane v) history
      → AreTagged (answered_on lane seals start no_plain deeds) history
  pub worked : (lane : ℕ) → suc lane ≡ length start.lanes
      → works_over deeds ≡ works_in (calls_on lane v)

-- Without a conversion the history is one run, from the volume that was handed in to this one. Under
-- each lane that run has answered what the calls made on the lane answer, so just the operations that
-- they answered; and what is under way on it is what they left under way.
pub record HasServedLanes {K : Type 0} (seals : Seals) (start now : State K)
    (v : Knowledge (State K) SharedEvent SharedOutcome) : Type 0 where
  pub run : List (Happening K)
  pub tells : Tells (length start.lanes) v.history (deeds_of run)
  pub is : IsRun start run
  pub last : last_of start run ≡ now
  pub lanes : (lane : ℕ) → answered_under lane seals start no_plain run
      ≡ answers_of start.map.atom seals idle_lane (own_calls (calls_on lane v))
  pub under_way : (lane : ℕ) → open_at now.lanes lane
      ≡ (alone_by seals start (calls_on lane v)).operation
  pub answered : (lane : ℕ) (history : List Tagged)
      → HasAnswered seals start [] (calls_on lane v) history
      → AreTagged (answered_under lane seals start no_plain run) history

-- by none of these steps the worker was answered an end
abbrev pub WentOn : List Worked → Type 0
WentOn works = All (λ worked. GoesOn (told_by worked)) works

-- one of these deeds is this step of the worker, and clients' events alone come behind it
pub record IsLastWork {K : Type 0} (deeds : List (Deed K)) (last : Worked) : Type 0 where
  pub earlier : List (Deed K)
  pub one : Deed K
  pub later : List (Deed K)
  pub parts : deeds ≡ earlier ++ one ∷ later
  pub act : one.act ≡ worker last
  pub rests : works_over later ≡ []

-- the last step of the worker among these deeds is the one by which it was answered this end, and by
-- no step before it was it answered one
pub record EndsBy {K : Type 0} (end : WorkerEnd) (deeds : List (Deed K)) : Type 0 where
  pub earlier : List Worked
  pub last : Worked
  pub works : works_over deeds ≡ earlier ++ last ∷ []
  pub deed : IsLastWork deeds last
  pub told : told_by last ≡ Ended end
  pub went : WentOn earlier
