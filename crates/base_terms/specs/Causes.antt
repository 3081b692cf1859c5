-- When a call to the outside may answer that it failed.
use Rattle.base_terms.specs.declared.failed.Failed.{Failed}
use Rattle.std.specs.Prelude.{ℕ, ◌≡◌, ◌^◌, ◌-◌, ◌<◌, ◌≤◌, ◌⊎◌, Result, IsErr, IsOk}

-- a count of faults rose between two moments, or stands at its last value
abbrev pub Rose : ℕ → ℕ → Type 0
Rose before now = (before < now) ⊎ (2 ^ 64 - 1 ≤ now)

-- the count doesn't fall, a failure comes only where it rose, and a success leaves it
pub record HasCause {T : Type 0} (before now : ℕ) (result : Result T Failed) : Type 0 where
  pub later : before ≤ now
  pub failed : IsErr result → Rose before now
  pub held : IsOk result → now ≡ before
