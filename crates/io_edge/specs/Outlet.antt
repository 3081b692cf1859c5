-- What a sink tells of itself, and what a put to it does.
use Rattle.std.specs.Prelude.{ℕ, ◌≡◌, ◌≤◌, List, ◌++◌, length, take, Option, Some, Result}
use Rattle.std.specs.Prelude.{MatchResult}
use Rattle.base_terms.specs.declared.failed.Failed.{Failed}

-- a sink at a moment: all bytes that it was put, where these are told; those of them that it holds
-- back, which have not gone out; and how many of its calls failed
pub record Outlet : Type 0 where
  pub had : Option (List ℕ)
  pub held_back : List ℕ
  pub faults : ℕ

-- a put puts all or fails, and then a front of the piece may have been put
abbrev pub PutsPiece : {T : Type 0} → Outlet → Outlet → List ℕ → Result T Failed → Type 0
PutsPiece old new piece result = (had : List ℕ) → old.had ≡ Some had →
    MatchResult result (λ _. new.had ≡ Some (had ++ piece))
    (λ _. (k : ℕ) × (k ≤ length piece) × (new.had ≡ Some (had ++ take k piece)))

-- the last bytes of a text
abbrev pub IsRear : List ℕ → List ℕ → Type 0
IsRear rear text = (front : List ℕ) × (text ≡ front ++ rear)

-- nothing is held back but the last of what was held back before and of what was put behind it: of
-- the whole piece, or of a front of it where the put failed
abbrev pub HoldsBackRear : {T E : Type 0} → List ℕ → List ℕ → List ℕ → Result T E → Type 0
HoldsBackRear old new piece result = MatchResult result (λ _. IsRear new (old ++ piece))
    (λ _. (k : ℕ) × (k ≤ length piece) × IsRear new (old ++ take k piece))
