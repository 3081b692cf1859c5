-- One history of the operations of all lanes.
use Rattle.std.specs.Prelude.{ℕ, ◌≡◌, ◌%◌, List, [], ◌∷◌}
use Rattle.volume_machine.specs.Answers.{Tagged, of_session}

-- each operation is of a session of this lane: of so many lanes, the one that the session's number
-- leaves
unfoldable pub AreOfLane : ℕ → ℕ → List Tagged → Type 0
AreOfLane lanes k [] = Unit {0}
AreOfLane lanes k (one ∷ rest) = (one.session % lanes ≡ k) × AreOfLane lanes k rest

-- of each session the history has just the operations of the session's lane
abbrev pub IsMergedFrom : ℕ → (ℕ → List Tagged) → List Tagged → Type 0
IsMergedFrom lanes each history = (session : ℕ) →
    of_session session history ≡ of_session session (each (session % lanes))
