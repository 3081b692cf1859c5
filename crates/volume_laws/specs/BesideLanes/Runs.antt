-- Deeds that are a run of events.
use Rattle.std.specs.Prelude.{ℕ, ◌≡◌, List}
use Rattle.volume_laws.specs.BesideLanes.Lanes.{answered_on, calls_over, deeds_of}
use Rattle.volume_laws.specs.Lanes.{answered_under, own_calls}
use Rattle.volume_machine.specs.Deeds.{AreDeeds, Deed, state_after}
use Rattle.volume_machine.specs.Edges.{InPlain}
use Rattle.volume_machine.specs.Readings.{Reading}
use Rattle.volume_machine.specs.Runs.{Happening, IsRun, last_of}
use Rattle.volume_machine.specs.Seals.{Seals}
use Rattle.volume_machine.specs.States.{State}

-- They are just these events: a run where they are deeds of the machine, with the same calls of each
-- lane, the same answers and the same state at the end.
pub record IsRunOf {K : Type 0} (start : State K) (seals : Seals) (deeds : List (Deed K))
    (run : List (Happening K)) : Type 0 where
  pub deeds_are : deeds ≡ deeds_of run
  pub is : (reading : Reading) → AreDeeds reading seals start deeds → IsRun start run
  pub last : last_of start run ≡ state_after start deeds
  pub calls : (lane : ℕ) → own_calls lane run ≡ calls_over lane deeds
  pub answers : (lane : ℕ) (plain : ℕ → InPlain)
      → answered_under lane seals start plain run ≡ answered_on lane seals start plain deeds
