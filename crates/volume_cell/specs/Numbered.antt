-- Histories of a machine that answers 0, 1, 2 and so on.
use Rattle.std.specs.Prelude.{◌≡◌, ℕ, ◌+◌, ◌%◌, ◌^◌, List, [], ◌∷◌, length}
use Rattle.volume_cell.specs.declared.history.Entry.{Entry}
use Rattle.volume_cell.specs.Histories.{call, calls_of}

module _ {E : Type 0} where
  -- the outcomes are the numbers from this one on, modulo 2 ^ 64
  unfoldable pub AreNumbered : ℕ → List (Entry E ℕ) → Type 0
  AreNumbered n [] = Unit {0}
  AreNumbered n (e ∷ es) = (e.outcome ≡ n % 2 ^ 64) × AreNumbered (n + 1) es

-- the first pass that was split off drew two of them, the second one, and nobody else any
pub record AreDrawn (one two three : ℕ) (history : List (Entry (Unit {0}) ℕ)) : Type 0 where
  pub left : calls_of (0 ∷ []) history ≡ call tt one ∷ call tt three ∷ []
  pub right : calls_of (1 ∷ []) history ≡ call tt two ∷ []
  pub all : length history ≡ 3
  pub numbers : AreNumbered 0 history
