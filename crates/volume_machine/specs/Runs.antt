-- Runs of events, and the operations that were answered in them.
use Rattle.std.specs.Prelude.{ℕ, ◌==◌, if◌then◌else◌, List, [], ◌∷◌, ◌++◌}
use Rattle.volume_machine.specs.Alone.{opened_by, opened_edge}
use Rattle.volume_machine.specs.Answers.{Answered, answers}
use Rattle.volume_machine.specs.Edges.{InPlain, nothing, with_bytes, with_edge}
use Rattle.volume_machine.specs.Events.{Event, admits, reads, fetches, writes, lane_of, Outcome, got}
use Rattle.volume_machine.specs.Events.{done, device}
use Rattle.volume_machine.specs.Seals.{Seals}
use Rattle.volume_machine.specs.States.{State, open_at}
use Rattle.volume_machine.specs.Steps.{Step, Meets}

-- an event, its outcome, and the state that it left
pub record Happening (K : Type 0) : Type 0 where
  pub event : Event
  pub outcome : Outcome
  pub after : State K

-- events one after the other, each of which meets its conditions
unfoldable pub IsRun : {K : Type 0} → State K → List (Happening K) → Type 0
IsRun old [] = Unit {0}
IsRun old (one ∷ rest) =
    Meets old one.event × Step old one.event one.outcome one.after × IsRun one.after rest

-- the state that they left
unfoldable pub last_of : {K : Type 0} → State K → List (Happening K) → State K
last_of old [] = old
last_of old (one ∷ rest) = last_of one.after rest

-- what the lane's operation would have in plain of a piece that is sealed so on the disk
abbrev pub plain_piece : {K : Type 0} → Seals → State K → ℕ → List ℕ → List ℕ
plain_piece seals old lane sealed =
    opened_by seals old.map (open_at old.lanes lane) sealed

-- what its operation would have in plain of an edge that is sealed so on the disk
abbrev pub plain_edge : {K : Type 0} → Seals → State K → ℕ → ℕ → List ℕ → List ℕ
plain_edge seals old lane which sealed =
    opened_edge seals old.map (open_at old.lanes lane) which sealed

-- by lane, what it has in plain of its operation so far
abbrev pub with_plain : (ℕ → InPlain) → ℕ → InPlain → ℕ → InPlain
with_plain plain lane now k = if k == lane then now else plain k

-- after a read of a piece, after that of an edge, and after a write that came to the disk, whether
-- it failed or not
abbrev pub after_read : {K : Type 0} → Seals → State K → ℕ → Outcome → (ℕ → InPlain) → ℕ → InPlain
after_read seals old lane (got sealed) plain =
    with_plain plain lane (with_bytes (plain lane) (plain_piece seals old lane sealed))
after_read seals old lane _ plain = plain

abbrev pub after_fetch : {K : Type 0} → Seals → State K → ℕ → ℕ → Outcome → (ℕ → InPlain) → ℕ
    → InPlain
after_fetch seals old lane which (got sealed) plain =
    with_plain plain lane (with_edge (plain lane) (plain_edge seals old lane which sealed))
after_fetch seals old lane which _ plain = plain

abbrev pub after_write : {K : Type 0} → Seals → State K → ℕ → List ℕ → Outcome → (ℕ → InPlain) → ℕ
    → InPlain
after_write seals old lane sealed done plain =
    with_plain plain lane (with_bytes (plain lane) (plain_piece seals old lane sealed))
after_write seals old lane sealed device plain =
    with_plain plain lane (with_bytes (plain lane) (plain_piece seals old lane sealed))
after_write seals old lane sealed _ plain = plain

unfoldable pub plain_after : {K : Type 0} → Seals → State K → Event → Outcome → (ℕ → InPlain) → ℕ
    → InPlain
plain_after seals old (admits lane session ask) outcome plain = with_plain plain lane nothing
plain_after seals old (reads lane len) outcome plain = after_read seals old lane outcome plain
plain_after seals old (fetches lane which) outcome plain =
    after_fetch seals old lane which outcome plain
plain_after seals old (writes lane sealed) outcome plain =
    after_write seals old lane sealed outcome plain
plain_after seals old _ outcome plain = plain

-- what an event of a run answers
unfoldable pub answered_by : {K : Type 0} → State K → Event → Outcome → (ℕ → InPlain) → List Answered
answered_by old event outcome plain =
    answers old.map.atom event outcome (open_at old.lanes (lane_of event)) (plain (lane_of event))

-- all operations that were answered in a run, in order, and the plain after it
unfoldable pub answered_in : {K : Type 0} → Seals → State K → (ℕ → InPlain) → List (Happening K)
    → List Answered
answered_in seals old plain [] = []
answered_in seals old plain (one ∷ rest) =
    answered_by old one.event one.outcome plain
    ++ answered_in seals one.after (plain_after seals old one.event one.outcome plain) rest

unfoldable pub plain_in : {K : Type 0} → Seals → State K → (ℕ → InPlain) → List (Happening K) → ℕ
    → InPlain
plain_in seals old plain [] = plain
plain_in seals old plain (one ∷ rest) =
    plain_in seals one.after (plain_after seals old one.event one.outcome plain) rest

abbrev pub no_plain : ℕ → InPlain
no_plain lane = nothing
