-- How a count of faults moves.
use Rattle.std.specs.Prelude.{ℕ, ◌≡◌, Result, MatchResult}
use Rattle.base_terms.specs.declared.failed.Failed.{Failed}
use Rattle.io_edge.specs.FaultPlan.{counted}

-- the count of faults rises by one at a failure, up to its last value, and stands otherwise
abbrev pub Counts : {T : Type 0} → ℕ → ℕ → Result T Failed → Type 0
Counts before now result = MatchResult result (λ _. now ≡ before) (λ _. now ≡ counted before)
