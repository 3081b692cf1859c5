-- Operations that were executed, each to its end, by some run of events.
use Rattle.std.specs.Prelude.{ℕ, ◌≡◌, ◌++◌, ◌<◌, ◌-◌, ◌^◌, true, false, List, All, Option, Some}
use Rattle.base_terms.specs.Causes.{Rose}
use Rattle.plain_disk.specs.Outcomes.{AreServed}
use Rattle.plain_disk.specs.Plain.{Block, Exchange, Legal}
use Rattle.sector_disk.specs.Cells.{Cell}
use Rattle.sector_disk.specs.Steps.{Told}
use Rattle.volume_laws.specs.Contents.{StopsAllowed}
use Rattle.volume_laws.specs.Promises.{StartsCovered}
use Rattle.volume_machine.specs.Answers.{AreExchanges, AreTagged, Tagged}
use Rattle.volume_machine.specs.Edges.{InPlain}
use Rattle.volume_machine.specs.Runs.{Happening, IsRun, last_of, answered_in, plain_in, no_plain}
use Rattle.volume_machine.specs.Seals.{Seals}
use Rattle.volume_machine.specs.States.{State, size_of}

-- From an old state to a new one these operations were executed, each of its session, by this run
-- of events. Whatever the lanes knew before, nothing of it is answered.
pub record Executes {K : Type 0} (seals : Seals) (old new : State K) (run : List (Happening K))
    (history : List Tagged) : Type 0 where
  pub is : IsRun old run
  pub last : last_of old run ≡ new
  pub answers : (plain : ℕ → InPlain) → AreTagged (answered_in seals old plain run) history

-- A stop after some of the events: the operations answered by then are a front of the history, and
-- where the disk tells its tables each image of it is allowed there.
pub record StopsAt {K : Type 0} (start : State K) (seals : Seals) (blocks : List Block)
    (exchanges : List Exchange) (earlier : List (Happening K)) : Type 0 where
  pub first : List Exchange
  pub rest : List Exchange
  pub parts : exchanges ≡ first ++ rest
  pub answered : AreExchanges (answered_in seals start no_plain earlier) first
  pub left : List Block
  pub legal : Legal start.map.atom blocks first left
  pub allowed : StartsCovered start seals blocks → (told : Told) →
      (last_of start earlier).disk.told ≡ Some told →
      StopsAllowed (last_of start earlier) seals
      (plain_in seals start no_plain earlier) left told.now

-- a stop is allowed after each front of a run
abbrev pub StopsAlong : {K : Type 0} → State K → Seals → List Block → List (Happening K) →
    List Exchange → Type 0
StopsAlong {K} start seals blocks run exchanges = (earlier later : List (Happening K)) →
    run ≡ earlier ++ later →
    StopsAt start seals blocks exchanges earlier

-- a table that the disk has had after some of the events
pub record WasTold {K : Type 0} (start : State K) (run : List (Happening K))
    (cells : List Cell) : Type 0 where
  pub earlier : List (Happening K)
  pub later : List (Happening K)
  pub parts : run ≡ earlier ++ later
  pub told : Told
  pub is : (last_of start earlier).disk.told ≡ Some told
  pub now : told.now ≡ cells

-- each table of the disk since the start is one after some of the events
pub record TellsRun {K : Type 0} (start : State K) (run : List (Happening K))
    (now : Told) : Type 0 where
  pub before : Told
  pub was : start.disk.told ≡ Some before
  pub tables : List (Option ℕ × List Cell)
  pub since : now.past ≡ before.past ++ tables
  pub each : All (λ table. WasTold start run table.1) tables

-- where no count of faults moved, every operation was served or refused with its number, and
-- nothing is broken
abbrev pub ServesWithoutFaults : {K : Type 0} → State K → Seals → List (Happening K) → Type 0
ServesWithoutFaults start seals run = (exchanges : List Exchange) →
    AreExchanges (answered_in seals start no_plain run) exchanges →
    (last_of start run).disk.faults ≡ start.disk.faults → start.disk.faults < 2 ^ 64 - 1 →
    AreServed start.map.atom (size_of start.map) exchanges × ((last_of start run).broken ≡ false)

-- a volume breaks only where the count rose
abbrev pub BreaksByFaults : {K : Type 0} → State K → List (Happening K) → Type 0
BreaksByFaults start run = (last_of start run).broken ≡ true →
    Rose start.disk.faults (last_of start run).disk.faults
