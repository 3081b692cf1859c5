-- Operations that were executed, each to its end, by some deeds.
use Rattle.std.specs.Prelude.{ℕ, ◌≡◌, List}
use Rattle.volume_machine.specs.Answers.{AreTagged, Tagged}
use Rattle.volume_machine.specs.Deeds.{AreDeeds, Deed, answered_over, state_after}
use Rattle.volume_machine.specs.Edges.{InPlain}
use Rattle.volume_machine.specs.Readings.{Reading}
use Rattle.volume_machine.specs.Seals.{Seals}
use Rattle.volume_machine.specs.States.{State}

-- From an old state to a new one these operations were executed, each of its session, by these
-- deeds, events of clients and steps of the worker. Whatever the lanes knew before, nothing of it is
-- answered.
pub record ExecutesBeside {K : Type 0} (reading : Reading) (seals : Seals) (old new : State K)
    (deeds : List (Deed K)) (history : List Tagged) : Type 0 where
  pub are : AreDeeds reading seals old deeds
  pub last : state_after old deeds ≡ new
  pub answers : (plain : ℕ → InPlain) → AreTagged (answered_over seals old plain deeds) history
