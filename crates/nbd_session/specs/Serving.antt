-- The requests of a session, one after the other.
use Rattle.std.specs.Prelude.{ℕ, ◌+◌, Bool, List, length, Option}
use Rattle.nbd_stream.specs.declared.ending.Ending.{Ending}
use Rattle.nbd_session.specs.Grammar.{AreRequests}
use Rattle.nbd_stream.specs.Moments.{Moment, Talks}
use Rattle.nbd_session.specs.Turns.{Turn, replies_to}

-- From one moment to another these requests were taken and answered, behind `n` earlier ones, with
-- structured replies or without; None where the session goes on.
pub record Serves (structured : Bool) (n : ℕ) (old new : Moment) (result : Option Ending)
    (turns : List Turn) (taken whole front : List ℕ) (ended : Bool) : Type 0 where
  pub talks : Talks old new result taken (replies_to turns) whole front ended
  pub requests_are : AreRequests structured result turns (n + length turns) taken ended
