-- Lanes of clients in a history of deeds, each by its own calls.
use Rattle.std.specs.Prelude.{ℕ, suc, ◌≡◌, ◌<◌, ◌==◌, if◌then◌else◌, List, [], ◌∷◌, ◌++◌, length}
use Rattle.std.specs.Prelude.{IsSome}
use Rattle.volume_laws.specs.Converting.{IsInOrder}
use Rattle.volume_laws.specs.Lanes.{IsLane}
use Rattle.volume_machine.specs.Alone.{Alone, AreMet, Call, alone_of, answers_of, idle_lane}
use Rattle.volume_machine.specs.Answers.{Answered}
use Rattle.volume_machine.specs.Deeds.{Act, AreDeeds, Deed, client, plain_by, plain_over}
use Rattle.volume_machine.specs.Deeds.{state_after, worker}
use Rattle.volume_machine.specs.Edges.{InPlain}
use Rattle.volume_machine.specs.Events.{lane_of}
use Rattle.volume_machine.specs.Readings.{Reading}
use Rattle.volume_machine.specs.Runs.{Happening, answered_by, no_plain}
use Rattle.volume_machine.specs.Seals.{Seals}
use Rattle.volume_machine.specs.Sound.{IsSound}
use Rattle.volume_machine.specs.States.{IsClient, IsIdle, State}
use Rattle.volume_machine.specs.Steps.{Step}
use Rattle.volume_machine.specs.WorkSteps.{WorkStep, Worked}

-- ---- what is computed from deeds
-- the call of a lane in a deed: the worker makes none
abbrev pub call_in : ℕ → Act → List Call
call_in lane (client event outcome) =
    if lane_of event == lane then record { event = event; outcome = outcome } ∷ [] else []
call_in lane (worker worked) = []

unfoldable pub calls_over : {K : Type 0} → ℕ → List (Deed K) → List Call
calls_over lane [] = []
calls_over lane (one ∷ rest) = call_in lane one.act ++ calls_over lane rest

-- what they have answered under a lane
abbrev pub answered_at : {K : Type 0} → ℕ → State K → Act → (ℕ → InPlain) → List Answered
answered_at lane old (client event outcome) plain =
    if lane_of event == lane then answered_by old event outcome plain else []
answered_at lane old (worker worked) plain = []

unfoldable pub answered_on : {K : Type 0} → ℕ → Seals → State K → (ℕ → InPlain) → List (Deed K)
    → List Answered
answered_on lane seals old plain [] = []
answered_on lane seals old plain (one ∷ rest) =
    answered_at lane old one.act plain
    ++ answered_on lane seals one.after (plain_by seals old one.act plain) rest

-- what a lane is after deeds, by its own calls
abbrev pub alone_over : {K : Type 0} → State K → Seals → ℕ → List (Deed K) → Alone
alone_over start seals lane deeds =
    alone_of start.map.atom seals idle_lane (calls_over lane deeds)

-- the steps of the worker, by what it was answered
abbrev pub work_in : Act → List Worked
work_in (client event outcome) = []
work_in (worker worked) = worked ∷ []

unfoldable pub works_over : {K : Type 0} → List (Deed K) → List Worked
works_over [] = []
works_over (one ∷ rest) = work_in one.act ++ works_over rest

-- a run of events as deeds
abbrev pub deed_of : {K : Type 0} → Happening K → Deed K
deed_of one = record { act = client one.event one.outcome; after = one.after }

unfoldable pub deeds_of : {K : Type 0} → List (Happening K) → List (Deed K)
deeds_of [] = []
deeds_of (one ∷ rest) = deed_of one ∷ deeds_of rest

-- ---- what is done, whatever the calls ask of the states
abbrev pub Makes : {K : Type 0} → Reading → Seals → State K → Act → State K → Type 0
Makes reading seals old (client event outcome) new = Step old event outcome new
Makes reading seals old (worker worked) new = WorkStep reading seals old new worked

unfoldable pub AreMade : {K : Type 0} → Reading → Seals → State K → List (Deed K) → Type 0
AreMade reading seals old [] = Unit {0}
AreMade reading seals old (one ∷ rest) =
    Makes reading seals old one.act one.after × AreMade reading seals one.after rest

-- events of the lanes of clients, of so many lanes
abbrev pub IsOfClient : ℕ → Act → Type 0
IsOfClient lanes (client event outcome) = suc (lane_of event) < lanes
IsOfClient lanes (worker worked) = Unit {0}

unfoldable pub AreOfClients : {K : Type 0} → ℕ → List (Deed K) → Type 0
AreOfClients lanes [] = Unit {0}
AreOfClients lanes (one ∷ rest) = IsOfClient lanes one.act × AreOfClients lanes rest

-- each event is of a lane of clients, and its call meets its conditions by that lane's own calls
pub record AreMetBeside {K : Type 0} (start : State K) (seals : Seals)
    (deeds : List (Deed K)) : Type 0 where
  pub clients : AreOfClients (length start.lanes) deeds
  pub met : (lane : ℕ) → AreMet start.map.atom seals idle_lane (calls_over lane deeds)

-- ---- how deeds begin, and what they leave
-- it is sound, and one that has its conversion's work is in order
pub record IsKept {K : Type 0} (reading : Reading) (state : State K) : Type 0 where
  pub sound : IsSound state
  pub order : IsSome state.work → IsInOrder reading state

-- and no operation is under way
pub record BeginsBeside {K : Type 0} (reading : Reading) (start : State K) : Type 0 where
  pub kept : IsKept reading start
  pub idle : IsIdle start

-- what never changes of a volume
pub record StaysSame {K : Type 0} (old new : State K) : Type 0 where
  pub lanes : length new.lanes ≡ length old.lanes
  pub atom : new.map.atom ≡ old.map.atom
  pub blocks : new.map.blocks ≡ old.map.blocks
  pub keys : new.keys ≡ old.keys

-- Deeds whose events are met lane by lane are deeds of the machine. After them each lane of clients
-- is what it is by its own calls, and under each lane was answered what its own calls answer.
pub record AreAloneBeside {K : Type 0} (reading : Reading) (start : State K) (seals : Seals)
    (deeds : List (Deed K)) : Type 0 where
  pub are : AreDeeds reading seals start deeds
  pub kept : IsKept reading (state_after start deeds)
  pub same : StaysSame start (state_after start deeds)
  pub lanes : (lane : ℕ) → IsClient start lane → IsLane (state_after start deeds)
      (plain_over seals start no_plain deeds) lane (alone_over start seals lane deeds)
  pub answers : (lane : ℕ) → answered_on lane seals start no_plain deeds
      ≡ answers_of start.map.atom seals idle_lane (calls_over lane deeds)
