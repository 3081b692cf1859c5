-- Places that have something, or nothing while it is in use.
use Rattle.std.specs.Prelude.{List, [], ◌∷◌, Option, Some, None}

-- what each of them has of one kind, in their order
unfoldable pub each_of : {A X : Type 0} → (A → X) → List (Option A) → List X
each_of f [] = []
each_of f (None ∷ rest) = each_of f rest
each_of f (Some one ∷ rest) = f one ∷ each_of f rest

-- calls changed each place so
pub record HaveChanged (each_one : Type 0) : Type 0 where
  pub each : each_one
