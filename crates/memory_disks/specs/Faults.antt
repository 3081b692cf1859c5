-- When the device calls of a disk in memory fail.
use Rattle.std.specs.Prelude.{ℕ, ◌+◌, ◌<◌, ◌≤◌, ◌⊎◌, Bool, List, Option, None, Contains, IsSomeAnd}
use Rattle.std.specs.Prelude.{nat_le, if◌then◌else◌}
use Rattle.io_edge.specs.FaultPlan.{Plan, fresh_plan, next_plan}

-- what decides it: the numbers of the calls that are to fail and how many calls there were; after
-- how many calls the disk stops, if it does; for how many calls and written atoms its record has
-- room, and how many it holds
pub record Limits : Type 0 where
  pub plan : Plan
  pub stop : Option ℕ
  pub room : ℕ
  pub used : ℕ

-- of a disk that was just made
abbrev pub fresh_limits : ℕ → List ℕ → Limits
fresh_limits room fails = record { plan = fresh_plan fails; stop = None; room = room; used = 0 }

-- after one more call of so many written atoms was recorded
abbrev pub recorded : Limits → ℕ → Limits
recorded limits atoms = record limits { used = limits.used + 1 + atoms }

-- a call of so many written atoms would pass the room
abbrev pub IsFull : Limits → ℕ → Type 0
IsFull limits atoms = limits.room < limits.used + 1 + atoms

-- the next call comes after the stop
abbrev pub IsStopped : Limits → Type 0
IsStopped limits = IsSomeAnd limits.stop (λ k. k ≤ limits.plan.calls)

-- the next call fails
abbrev pub Fails : Limits → ℕ → Type 0
Fails limits atoms =
    IsFull limits atoms ⊎ IsStopped limits ⊎ Contains limits.plan.fails limits.plan.calls

-- after a call that failed or not, and was recorded or not
abbrev pub next_limits : Limits → Bool → Bool → ℕ → Limits
next_limits limits failed recorded atoms = record limits {
  plan = next_plan limits.plan failed;
  used = (if recorded then limits.used + 1 + atoms else limits.used);
}

-- there is room to record the next call
abbrev pub is_free : Limits → ℕ → Bool
is_free limits atoms = nat_le (limits.used + 1 + atoms) limits.room
