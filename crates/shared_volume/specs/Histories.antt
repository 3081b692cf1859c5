-- The history of a volume that threads share: who asked what, and the deeds that it is.
use Rattle.std.specs.Prelude.{ℕ, suc, ◌≡◌, ◌<◌, List, [], ◌∷◌, ◌++◌, length, IsSome}
use Rattle.base_terms.specs.declared.disk_sizes.Sizes.{Sizes}
use Rattle.lane_plan.specs.Calls.{event_of, outcome_of}
use Rattle.lane_plan.specs.declared.calls.Answer.{Answer}
use Rattle.volume_laws.specs.BesideLanes.Lanes.{AreMade, AreMetBeside}
use Rattle.shared_volume.specs.Calling.{HasFront, IsAnswerOf}
use Rattle.shared_volume.specs.declared.asking.SharedEvent.{SharedEvent}
use Rattle.shared_volume.specs.declared.asking.SharedEvent.TheVariants as Events
use Rattle.shared_volume.specs.declared.asking.SharedOutcome.{SharedOutcome}
use Rattle.shared_volume.specs.declared.asking.SharedOutcome.TheVariants as Outcomes
use Rattle.shared_volume.specs.declared.asking.WorkDone.{WorkDone}
use Rattle.shared_volume.specs.declared.calling.LaneCall.{LaneCall}
use Rattle.volume_cell.specs.declared.history.Call.{Call}
use Rattle.volume_cell.specs.declared.history.Entry.{Entry}
use Rattle.volume_core.specs.Zones.{IsReadBy, worked_of}
use Rattle.volume_laws.specs.Converting.{IsInOrder}
use Rattle.volume_machine.specs.Alone as Own
use Rattle.volume_machine.specs.Alone.{Alone, MeetsAlone, alone_of, idle_lane}
use Rattle.volume_machine.specs.Deeds.{Deed, client, state_after, worker}
use Rattle.volume_machine.specs.Events.{Event}
use Rattle.volume_machine.specs.Seals.{Seals}
use Rattle.volume_machine.specs.Sound.{IsSound}
use Rattle.volume_machine.specs.States.{IsIdle, State}
use Rattle.volume_core.specs.WorkerLoop.Telling.{converted_in}
use Rattle.hotzone.specs.ZoneEvents.Readings.{reading_of}

-- ---- volumes that threads may share
-- its header is read by these sizes, where it has its conversion's work: any will do where it has
-- none
abbrev pub IsReadSo : {K : Type 0} → Sizes → State K → Type 0
IsReadSo sizes state = IsSome state.work → IsReadBy sizes state

-- No operation is under way on it, and it is sound. Where it has its conversion's work, its header
-- is read by some sizes, and by that it is in order.
pub record MayBeShared {K : Type 0} (state : State K) : Type 0 where
  pub idle : IsIdle state
  pub sound : IsSound state
  pub order : IsSome state.work
      → (sizes : Sizes) × IsReadBy sizes state × IsInOrder (reading_of sizes) state

-- ---- entries of a history
-- a call on a lane as its event
abbrev pub event_by : LaneCall → Event
event_by asked = event_of asked.lane asked.call

-- the lane that asks
abbrev pub lane_by : SharedEvent → ℕ
lane_by (Events.Client asked) = asked.lane
lane_by (Events.Worker lane) = lane

-- a call on a lane of clients, of so many lanes, is this deed by its answer
pub record IsEventOf {K : Type 0} (lanes : ℕ) (asked : LaneCall) (answer : Answer) (one : Deed K)
    : Type 0 where
  pub client_is : suc asked.lane < lanes
  pub act : one.act ≡ client (event_by asked) (outcome_of answer)
  pub answers : IsAnswerOf asked.call answer

-- A call of the worker, whose lane is the last one, is this deed by what came of it, which tells how
-- far the conversion is then.
pub record IsStepOf {K : Type 0} (lanes lane : ℕ) (made : WorkDone) (one : Deed K) : Type 0 where
  pub last : suc lane ≡ lanes
  pub act : one.act ≡ worker (worked_of made.worked)
  pub converted : made.converted ≡ converted_in one.after.map

abbrev pub IsDeedOf : {K : Type 0} → ℕ → SharedEvent → SharedOutcome → Deed K → Type 0
IsDeedOf lanes (Events.Client asked) (Outcomes.Client answer) one =
    IsEventOf lanes asked answer one
IsDeedOf lanes (Events.Worker lane) (Outcomes.Worker made) one = IsStepOf lanes lane made one
IsDeedOf lanes _ _ one = ⊥

-- an entry, by an asker whose name is the lane's number, is this deed
pub record IsEntryOf {K : Type 0} (lanes : ℕ) (entry : Entry SharedEvent SharedOutcome)
    (one : Deed K) : Type 0 where
  pub lane : entry.name ≡ lane_by entry.event ∷ []
  pub deed : IsDeedOf lanes entry.event entry.outcome one

-- the history of a volume of so many lanes is these deeds, one by one
unfoldable pub Tells : {K : Type 0} → ℕ → List (Entry SharedEvent SharedOutcome) → List (Deed K)
    → Type 0
Tells lanes [] [] = Unit {0}
Tells lanes [] (one ∷ deeds) = ⊥
Tells lanes (entry ∷ history) [] = ⊥
Tells lanes (entry ∷ history) (one ∷ deeds) =
    IsEntryOf lanes entry one × Tells lanes history deeds

-- From a volume that threads may share the history is deeds to this one: steps of lanes of clients,
-- each of whose calls meets its conditions by the own calls of its lane, and steps of the worker, by
-- each sizes by which the volume's header is read.
pub record StandsFor {K : Type 0} (seals : Seals) (start now : State K)
    (history : List (Entry SharedEvent SharedOutcome)) : Type 0 where
  pub shared : MayBeShared start
  pub deeds : List (Deed K)
  pub tells : Tells (length start.lanes) history deeds
  pub made : (sizes : Sizes) → IsReadSo sizes start → AreMade (reading_of sizes) seals start deeds
  pub met : AreMetBeside start seals deeds
  pub last : state_after start deeds ≡ now
  pub armed : IsSome start.work → IsSome now.work
  pub read : (sizes : Sizes) → IsReadBy sizes start → IsReadBy sizes now

-- ---- own calls of an asker
-- a call that was made on a lane of clients, as its event and outcome
abbrev pub own_by : SharedEvent → SharedOutcome → List Own.Call
own_by (Events.Client asked) (Outcomes.Client answer) =
    record { event = event_by asked; outcome = outcome_of answer } ∷ []
own_by _ _ = []

unfoldable pub own_calls : List (Call SharedEvent SharedOutcome) → List Own.Call
own_calls [] = []
own_calls (one ∷ calls) = own_by one.event one.outcome ++ own_calls calls

-- what a lane of a volume is by these own calls
abbrev pub alone_by : {K : Type 0} → Seals → State K → List (Call SharedEvent SharedOutcome) → Alone
alone_by seals start calls = alone_of start.map.atom seals idle_lane (own_calls calls)

-- From this start an asker of this name that made these calls may make this one: it is on the lane
-- of its name, one of clients, and meets its conditions by the own calls.
pub record FitsLane {K : Type 0} (seals : Seals) (start : State K) (name : List ℕ)
    (calls : List (Call SharedEvent SharedOutcome)) (asked : LaneCall) : Type 0 where
  pub lane : name ≡ asked.lane ∷ []
  pub client : suc asked.lane < length start.lanes
  pub meets : MeetsAlone seals (alone_by seals start calls) (event_by asked)
  pub front : HasFront asked.call

-- the asker has the last lane's name, and the volume has its conversion's work
pub record FitsWorker {K : Type 0} (start : State K) (name : List ℕ) (lane : ℕ) : Type 0 where
  pub lane_is : name ≡ lane ∷ []
  pub last : suc lane ≡ length start.lanes
  pub armed : IsSome start.work

abbrev pub Fits : {K : Type 0} → Seals → State K → List ℕ → List (Call SharedEvent SharedOutcome)
    → SharedEvent → Type 0
Fits seals start name calls (Events.Client asked) = FitsLane seals start name calls asked
Fits seals start name calls (Events.Worker lane) = FitsWorker start name lane
