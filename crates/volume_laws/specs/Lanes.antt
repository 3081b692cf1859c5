-- Lanes of a run, each by its own calls.
use Rattle.std.specs.Prelude.{ℕ, suc, ◌≡◌, ◌<◌, ◌==◌, true, if◌then◌else◌, List, [], ◌∷◌, ◌++◌}
use Rattle.std.specs.Prelude.{length, Some}
use Rattle.segment_map.specs.declared.map.Map.{Map}
use Rattle.volume_machine.specs.Alone.{Alone, AreMet, Call, alone_of, answers_of, idle_lane}
use Rattle.volume_machine.specs.Alone.{in_plain}
use Rattle.volume_machine.specs.Answers.{Answered}
use Rattle.volume_machine.specs.Asks.{has_lock}
use Rattle.volume_machine.specs.Edges.{InPlain}
use Rattle.volume_machine.specs.Events.{lane_of}
use Rattle.volume_machine.specs.Pieces.{AgreeOn}
use Rattle.volume_machine.specs.Runs.{Happening, IsRun, answered_by, last_of, no_plain, plain_after}
use Rattle.volume_machine.specs.Runs.{plain_in}
use Rattle.volume_machine.specs.Seals.{Seals}
use Rattle.volume_machine.specs.States.{State, open_at}
use Rattle.volume_machine.specs.Steps.{Holds, Step}
use Rattle.volume_machine.specs.declared.open.Open.{Open}

-- the calls of a lane in a run
abbrev pub call_of : {K : Type 0} → ℕ → Happening K → List Call
call_of lane one =
    if lane_of one.event == lane then
    record { event = one.event; outcome = one.outcome } ∷ [] else []

unfoldable pub own_calls : {K : Type 0} → ℕ → List (Happening K) → List Call
own_calls lane [] = []
own_calls lane (one ∷ rest) = call_of lane one ++ own_calls lane rest

-- what it has answered under a lane
unfoldable pub answered_under : {K : Type 0} → ℕ → Seals → State K → (ℕ → InPlain) →
    List (Happening K) → List Answered
answered_under lane seals old plain [] = []
answered_under lane seals old plain (one ∷ rest) =
    (if lane_of one.event == lane then answered_by old one.event one.outcome plain else [])
    ++ answered_under lane seals one.after (plain_after seals old one.event one.outcome plain) rest

-- A lane is so by its own calls, in a state in which its operation has this much in plain. What it
-- was granted has the operation's blocks as the state has them.
pub record IsLane {K : Type 0} (state : State K) (plain : ℕ → InPlain) (lane : ℕ)
    (alone : Alone) : Type 0 where
  pub operation : open_at state.lanes lane ≡ alone.operation
  pub plain_is : plain lane ≡ in_plain alone
  pub map : (map : Map) (o : Open) → alone.granted ≡ Some map → alone.operation ≡ Some o →
      AgreeOn o.range map state.map
  pub holds : (map : Map) (o : Open) → alone.granted ≡ Some map → alone.operation ≡ Some o →
      has_lock o.ask ≡ true →
      Holds state lane

-- what a lane is after a run, by its own calls
abbrev pub alone_in : {K : Type 0} → State K → Seals → ℕ → List (Happening K) → Alone
alone_in start seals lane run = alone_of start.map.atom seals idle_lane (own_calls lane run)

-- steps, one after the other
unfoldable pub AreSteps : {K : Type 0} → State K → List (Happening K) → Type 0
AreSteps old [] = Unit {0}
AreSteps old (one ∷ rest) = Step old one.event one.outcome one.after × AreSteps one.after rest

-- events of the lanes of clients, of so many lanes
unfoldable pub AreOfClients : {K : Type 0} → ℕ → List (Happening K) → Type 0
AreOfClients lanes [] = Unit {0}
AreOfClients lanes (one ∷ rest) = (suc (lane_of one.event) < lanes) × AreOfClients lanes rest

-- each event is of a lane of clients, and its call meets its conditions by that lane's own calls
pub record AreMetByLanes {K : Type 0} (start : State K) (seals : Seals)
    (run : List (Happening K)) : Type 0 where
  pub clients : AreOfClients (length start.lanes) run
  pub met : (lane : ℕ) → AreMet start.map.atom seals idle_lane (own_calls lane run)

-- Steps whose calls meet their conditions lane by lane are a run; and after it each lane is what it
-- is by its own calls, and has answered what these answer.
pub record AreAlone {K : Type 0} (start : State K) (seals : Seals)
    (run : List (Happening K)) : Type 0 where
  pub is : IsRun start run
  pub lanes : (lane : ℕ) → IsLane (last_of start run) (plain_in seals start no_plain run) lane
      (alone_in start seals lane run)
  pub answers : (lane : ℕ) → answered_under lane seals start no_plain run
      ≡ answers_of start.map.atom seals idle_lane (own_calls lane run)
