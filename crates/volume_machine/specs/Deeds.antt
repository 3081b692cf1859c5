-- Runs of a volume that is being converted while clients use it: events of clients and steps of the
-- worker, in any order.
use Rattle.std.specs.Prelude.{ℕ, List, [], ◌∷◌, ◌++◌}
use Rattle.volume_machine.specs.Answers.{Answered}
use Rattle.volume_machine.specs.Edges.{InPlain}
use Rattle.volume_machine.specs.Events.{Event, Outcome}
use Rattle.volume_machine.specs.Readings.{Reading}
use Rattle.volume_machine.specs.Runs.{answered_by, plain_after}
use Rattle.volume_machine.specs.Seals.{Seals}
use Rattle.volume_machine.specs.States.{State}
use Rattle.volume_machine.specs.Steps.{Step, Meets}
use Rattle.volume_machine.specs.WorkSteps.{Worked, WorkStep}

-- what is done: an event of a client, with its outcome, or a step of the worker, with what it is
-- answered
pub data Act : Type 0 where
  client : (event : Event) (outcome : Outcome) → Act
  worker : (worked : Worked) → Act

-- what was done, and the state that it left
pub record Deed (K : Type 0) : Type 0 where
  pub act : Act
  pub after : State K

abbrev pub Does : {K : Type 0} → Reading → Seals → State K → Act → State K → Type 0
Does reading seals old (client event outcome) new = Meets old event × Step old event outcome new
Does reading seals old (worker worked) new = WorkStep reading seals old new worked

-- deeds, one after the other
unfoldable pub AreDeeds : {K : Type 0} → Reading → Seals → State K → List (Deed K) → Type 0
AreDeeds reading seals old [] = Unit {0}
AreDeeds reading seals old (one ∷ rest) =
    Does reading seals old one.act one.after × AreDeeds reading seals one.after rest

-- the state that they left
unfoldable pub state_after : {K : Type 0} → State K → List (Deed K) → State K
state_after old [] = old
state_after old (one ∷ rest) = state_after one.after rest

-- what each answers, and the plain after it: the worker answers no operation, and its lane has none
-- in plain
abbrev pub plain_by : {K : Type 0} → Seals → State K → Act → (ℕ → InPlain) → ℕ → InPlain
plain_by seals old (client event outcome) plain = plain_after seals old event outcome plain
plain_by seals old (worker worked) plain = plain

abbrev pub answered_of : {K : Type 0} → State K → Act → (ℕ → InPlain) → List Answered
answered_of old (client event outcome) plain = answered_by old event outcome plain
answered_of old (worker worked) plain = []

unfoldable pub plain_over : {K : Type 0} → Seals → State K → (ℕ → InPlain) → List (Deed K) → ℕ
    → InPlain
plain_over seals old plain [] = plain
plain_over seals old plain (one ∷ rest) =
    plain_over seals one.after (plain_by seals old one.act plain) rest

unfoldable pub answered_over : {K : Type 0} → Seals → State K → (ℕ → InPlain) → List (Deed K)
    → List Answered
answered_over seals old plain [] = []
answered_over seals old plain (one ∷ rest) =
    answered_of old one.act plain
    ++ answered_over seals one.after (plain_by seals old one.act plain) rest
