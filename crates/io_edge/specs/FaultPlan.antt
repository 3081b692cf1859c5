-- Which calls of an object in memory are to fail.
use Rattle.std.specs.Prelude.{ℕ, ◌+◌, ◌-◌, ◌^◌, Bool, List, min, if◌then◌else◌}

-- the numbers of the calls that are to fail, how many calls were made, and how many failed
pub record Plan : Type 0 where
  pub fails : List ℕ
  pub calls : ℕ
  pub faults : ℕ

-- one more, up to the last value of a count
abbrev pub counted : ℕ → ℕ
counted n = min (n + 1) (2 ^ 64 - 1)

abbrev pub fresh_plan : List ℕ → Plan
fresh_plan fails = record { fails = fails; calls = 0; faults = 0 }

-- after a call that failed or not
abbrev pub next_plan : Plan → Bool → Plan
next_plan plan failed = record {
  fails = plan.fails;
  calls = counted plan.calls;
  faults = (if failed then counted plan.faults else plan.faults);
}
