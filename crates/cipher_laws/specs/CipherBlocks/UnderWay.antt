-- Work piece after piece that is under way.
use Rattle.std.specs.Prelude.{◌≡◌, ℕ, List, ◌++◌, take, drop}
use Rattle.cipher_laws.specs.Pieces.{worked}

-- a loop over the pieces: what is done stands before `at`; from there `n` pieces are worked on from
-- the value s
pub record IsUnderWay {S : Type 0} (change : S → List ℕ → List ℕ) (next : S → List ℕ → List ℕ → S)
    (size : ℕ) (s : S) (n at : ℕ) (total bytes : List ℕ) : Type 0 where
  pub total_is : total ≡ take at bytes ++ worked change next size s n (drop at bytes)
