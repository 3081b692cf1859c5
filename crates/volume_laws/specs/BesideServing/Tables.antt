-- The tables that deeds left.
use Rattle.std.specs.Prelude.{ℕ, ◌≡◌, ◌++◌, All, List, Option, Some}
use Rattle.sector_disk.specs.Cells.{Cell}
use Rattle.sector_disk.specs.Steps.{Told}
use Rattle.volume_machine.specs.Deeds.{Deed, state_after}
use Rattle.volume_machine.specs.States.{State}

-- one that the disk has had behind some of the deeds
pub record WasTold {K : Type 0} (start : State K) (deeds : List (Deed K)) (cells : List Cell) :
    Type 0 where
  pub earlier : List (Deed K)
  pub later : List (Deed K)
  pub parts : deeds ≡ earlier ++ later
  pub told : Told
  pub is : (state_after start earlier).disk.told ≡ Some told
  pub now : told.now ≡ cells

-- each since the start is one behind some of the deeds
pub record TellsDeeds {K : Type 0} (start : State K) (deeds : List (Deed K)) (now : Told) : Type 0
  where
    pub before : Told
    pub was : start.disk.told ≡ Some before
    pub tables : List (Option ℕ × List Cell)
    pub since : now.past ≡ before.past ++ tables
    pub each : All (λ table. WasTold start deeds table.1) tables
