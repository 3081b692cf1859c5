-- What seeds tell of themselves, and what a fill by them does.
use Rattle.std.specs.Prelude.{ℕ, ◌≡◌, ◌+◌, ◌<◌, List, length, Option, Some, Result, MatchResult}
use Rattle.std.specs.Prelude.{OnOk, slice_index}
use Rattle.base_terms.specs.declared.failed.Failed.{Failed}

-- seeds at a moment: the byte to come at a place, counted from 0, where it is told, and how many
-- calls failed
pub record Supply : Type 0 where
  pub ahead : ℕ → Option ℕ
  pub faults : ℕ

-- a fill gives the bytes ahead and goes on behind them; one that fails draws nothing
pub record Draws {T : Type 0} (old new : Supply) (after : List ℕ)
    (result : Result T Failed) : Type 0 where
  pub drawn : OnOk result ((k byte : ℕ) → k < length after → old.ahead k ≡ Some byte →
      slice_index after k ≡ byte)
  pub goes_on : MatchResult result (λ _. (k : ℕ) → new.ahead k ≡ old.ahead (length after + k))
      (λ _. (k : ℕ) → new.ahead k ≡ old.ahead k)
