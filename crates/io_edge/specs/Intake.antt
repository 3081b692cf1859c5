-- What a source tells of itself, and what a take of it does.
use Rattle.std.specs.Prelude.{ℕ, ◌≡◌, ◌≤◌, ◌⊎◌, List, [], ◌++◌, length, take, drop, Option, Some}
use Rattle.std.specs.Prelude.{Result, MatchResult}
use Rattle.base_terms.specs.declared.failed.Failed.{Failed}

-- a source at a moment: all bytes that it gave and what is left of its input, where these are told,
-- and how many of its calls failed
pub record Intake : Type 0 where
  pub given : Option (List ℕ)
  pub left : Option (List ℕ)
  pub faults : ℕ

-- of what was left, the first n bytes went to the front of the buffer, the rest of which stands;
-- none only at the end of the input, or for a buffer that is empty
pub record GivesFront (left : List ℕ) (now : Option (List ℕ)) (before after : List ℕ)
    (n : ℕ) : Type 0 where
  pub left_is : now ≡ Some (drop n left)
  pub bytes_are : after ≡ take n left ++ drop n before
  pub no_more : n ≤ length left
  pub end_only : n ≡ 0 → (before ≡ []) ⊎ (left ≡ [])

-- a take gives bytes of what was left; one that fails takes nothing
abbrev pub TakesLeft : Intake → Intake → List ℕ → List ℕ → Result ℕ Failed → Type 0
TakesLeft old new before after result = (left : List ℕ) → old.left ≡ Some left →
    MatchResult result (GivesFront left new.left before after) (λ _. new.left ≡ Some left)

-- what a source gave grows by the bytes of a take
abbrev pub GaveMore : Intake → Intake → List ℕ → Result ℕ Failed → Type 0
GaveMore old new after result = (given : List ℕ) → old.given ≡ Some given →
    MatchResult result (λ n. new.given ≡ Some (given ++ take n after)) (λ _. new.given ≡ Some given)
