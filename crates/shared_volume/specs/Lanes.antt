-- Lanes of a volume that threads share, each by what its pass knows.
use Rattle.std.specs.Prelude.{ℕ, suc, ◌≡◌, ◌<◌, List, [], ◌∷◌, ◌++◌, length, IsSomeAnd}
use Rattle.std.specs.Prelude.{Some, None}
use Rattle.lane_plan.specs.Calls.{event_of, outcome_of}
use Rattle.lane_plan.specs.Plans.{IsShape}
use Rattle.lane_plan.specs.declared.calls.Answer.{Answer}
use Rattle.lane_plan.specs.declared.calls.Call as Plans
use Rattle.lane_plan.specs.declared.plan.Shape.{Shape}
use Rattle.shared_volume.specs.Calling.{IsAnswerOf}
use Rattle.shared_volume.specs.Histories.{alone_by, own_calls}
use Rattle.shared_volume.specs.declared.asking.SharedEvent.{SharedEvent}
use Rattle.shared_volume.specs.declared.asking.SharedEvent.TheVariants as Events
use Rattle.shared_volume.specs.declared.asking.SharedOutcome.{SharedOutcome}
use Rattle.shared_volume.specs.declared.asking.SharedOutcome.TheVariants as Outcomes
use Rattle.shared_volume.specs.declared.calling.Called.{Called}
use Rattle.shared_volume.specs.declared.calling.Called.TheVariants.{Answered, Spent}
use Rattle.shared_volume.specs.declared.calling.LaneCall.{LaneCall}
use Rattle.volume_cell.specs.declared.history.Call.{Call}
use Rattle.volume_cell.specs.declared.knowledge.Knowledge.{Knowledge}
use Rattle.volume_cell.specs.Histories.{call}
use Rattle.volume_machine.specs.Alone.{Alone, answers_of}
use Rattle.volume_machine.specs.Answers.{Tagged, AreTagged}
use Rattle.volume_machine.specs.Seals.{KeysFit, Seals, seals_of}
use Rattle.volume_machine.specs.States.{State, open_at}
use Rattle.volume_machine.specs.Steps.{Step}
use Rattle.volume_machine.specs.declared.keys.Keys.{Keys}

-- what the asker of a lane knows of a volume with such keys
abbrev pub Knowing : Type 0 → Type 0
Knowing C = Knowledge (State (Keys C)) SharedEvent SharedOutcome

-- a call on the lane of this number
abbrev pub lane_call : ℕ → Plans.Call → LaneCall
lane_call number called = record { lane = number; call = called }

-- and with its answer
abbrev pub answered_call : ℕ → Plans.Call → Answer → Call SharedEvent SharedOutcome
answered_call number called answer =
    call (Events.Client (lane_call number called)) (Outcomes.Client answer)

-- the lane of this number is one of clients of a volume that began with this shape and these keys
pub record IsOn {C : Type 0} (sector : C → ℕ) (number : ℕ) (keys : Keys C) (shape : Shape)
    (start : State (Keys C)) : Type 0 where
  pub client : suc number < length start.lanes
  pub keys_are : start.keys ≡ keys
  pub fit : KeysFit sector keys shape.atom shape.blocks
  pub atom : start.map.atom ≡ shape.atom
  pub blocks : start.map.blocks ≡ shape.blocks
  pub known : IsShape shape

-- the asker is that of the lane, whose number is its name; no pass was split off it
pub record IsLaneOf {C : Type 0} (sector : C → ℕ) (v : Knowing C) (number : ℕ) (keys : Keys C)
    (shape : Shape) : Type 0 where
  pub name : v.name ≡ number ∷ []
  pub start : IsSomeAnd v.start (IsOn sector number keys shape)
  pub joined : v.joined ≡ []
  pub away : v.away ≡ []

-- What a volume may answer to a call of a lane that stands so: the call is a step of some state of
-- the volume in which the lane has this operation under way.
pub record MayBeAnswered {K : Type 0} (start : State K) (number : ℕ) (alone : Alone)
    (called : Plans.Call) (answer : Answer) : Type 0 where
  pub old : State K
  pub new : State K
  pub atom : old.map.atom ≡ start.map.atom
  pub blocks : old.map.blocks ≡ start.map.blocks
  pub operation : open_at old.lanes number ≡ alone.operation
  pub step : Step old (event_of number called) (outcome_of answer) new
  pub answers : IsAnswerOf called answer

-- by some own calls these operations were answered on a lane, each of its session
pub record HasAnswered {K : Type 0} (seals : Seals) (start : State K)
    (old new : List (Call SharedEvent SharedOutcome)) (history : List Tagged) : Type 0 where
  pub more : List (Call SharedEvent SharedOutcome)
  pub is : new ≡ old ++ more
  pub answered : AreTagged
      (answers_of start.map.atom seals (alone_by seals start old) (own_calls more)) history

module _ {C : Type 0} (sealed opened : C → ℕ → List ℕ → List ℕ) where
  -- the seals of a volume that began so
  abbrev pub seals_at : State (Keys C) → Seals
  seals_at start = seals_of sealed opened start.map.atom start.keys

  -- how the lane stands by its own calls, from its start
  abbrev pub StandsSo : Knowing C → (State (Keys C) → Alone → Type 0) → Type 0
  StandsSo v Is = (start : State (Keys C)) → v.start ≡ Some start
      → Is start (alone_by (seals_at start) start v.calls)

  -- no operation is under way on the lane
  abbrev pub IsAtRest : Knowing C → Type 0
  IsAtRest v = StandsSo v (λ start alone. alone.operation ≡ None)

  -- these operations were answered on the lane, each of its session
  abbrev pub Answers : Knowing C → Knowing C → List Tagged → Type 0
  Answers v w history = (start : State (Keys C)) → v.start ≡ Some start
      → HasAnswered (seals_at start) start v.calls w.calls history

  -- What came of a call: it was made, and may be answered so; or the history that the asker knows
  -- has as many entries as the cell can take.
  abbrev pub IsCalled : ℕ → ℕ → Plans.Call → Knowing C → Knowing C → Called → Type 0
  IsCalled limit number called v w (Answered answer) =
      (w.calls ≡ v.calls ++ answered_call number called answer ∷ [])
      × StandsSo v (λ start alone. MayBeAnswered start number alone called answer)
  IsCalled limit number called v w Spent = (w.calls ≡ v.calls) × (length w.history ≡ limit)
