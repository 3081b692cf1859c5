-- What callers see of the objects in memory, and what these tell.
use Rattle.std.specs.Prelude.{ℕ, ◌+◌, ◌%◌, List, length, slice_index, Some}
use Rattle.io_edge.specs.FaultPlan.{Plan}
use Rattle.io_edge.specs.Intake.{Intake}
use Rattle.io_edge.specs.Outlet.{Outlet}
use Rattle.io_edge.specs.Supply.{Supply}

-- of a source: what it gave, what is left, the most that one call gives, and the plan of its faults
pub record Input : Type 0 where
  pub given : List ℕ
  pub left : List ℕ
  pub piece : ℕ
  pub plan : Plan

-- of a sink: what it was put, what of it was not pushed out since, how much it holds at most, and
-- the plan of its faults
pub record Output : Type 0 where
  pub had : List ℕ
  pub held_back : List ℕ
  pub room : ℕ
  pub plan : Plan

-- of fixed seeds: the bytes, the place of the next one, and the plan of its faults
pub record Seedlings : Type 0 where
  pub bytes : List ℕ
  pub at : ℕ
  pub plan : Plan

-- what a source in memory tells: all of it
abbrev pub intake_of : Input → Intake
intake_of input =
    record { given = Some input.given; left = Some input.left; faults = input.plan.faults }

-- what a sink in memory tells: all of it
abbrev pub outlet_of : Output → Outlet
outlet_of output =
    record { had = Some output.had; held_back = output.held_back; faults = output.plan.faults }

-- the byte that comes `k` places after the next one, the bytes going round
abbrev pub round_from : List ℕ → ℕ → ℕ → ℕ
round_from bytes at k = slice_index bytes ((at + k) % length bytes)

-- what fixed seeds tell: every byte ahead
abbrev pub supply_of : Seedlings → Supply
supply_of seeds =
    record { ahead = λ k. Some (round_from seeds.bytes seeds.at k); faults = seeds.plan.faults }
