-- What a step of the worker leaves of a lane of clients.
use Rattle.std.specs.Prelude.{ℕ, ◌≡◌, true, Some}
use Rattle.volume_laws.specs.BesideLanes.Lanes.{StaysSame}
use Rattle.segment_map.specs.declared.map.Map.{Map}
use Rattle.volume_machine.specs.Asks.{has_lock}
use Rattle.volume_machine.specs.Pieces.{AgreeOn}
use Rattle.volume_machine.specs.States.{State, open_at}
use Rattle.volume_machine.specs.Steps.{Holds}
use Rattle.volume_machine.specs.declared.open.Open.{Open}

-- Its operation stays; what it holds it goes on to hold, and a map that tells these blocks goes on
-- to tell them.
pub record IsLeftBeside {K : Type 0} (old new : State K) (lane : ℕ) : Type 0 where
  pub same : StaysSame old new
  pub own : open_at new.lanes lane ≡ open_at old.lanes lane
  pub holds : Holds old lane → Holds new lane
  pub map : (map : Map) (o : Open) → open_at old.lanes lane ≡ Some o
      → (has_lock o.ask ≡ true → Holds old lane) → AgreeOn o.range map old.map
      → AgreeOn o.range map new.map
