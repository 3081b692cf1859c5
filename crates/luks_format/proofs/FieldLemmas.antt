-- A field that ends in a NUL holds one.
use Rattle.std.proofs.Common.{◌≡◌, ℕ, ◌==◌, true, List, ◌∷◌, ◌++◌, ◌∙◌}
use Rattle.std.proofs.Math.Bool.{or-true}
use Rattle.std.proofs.lemmas.List.Folds.{list_any-append}
use Rattle.std.specs.List.{list_any}
use Rattle.luks_bin.specs.Copies.{holds_nul}

pub nul-behind : (xs ys : List ℕ) → holds_nul (xs ++ 0 ∷ ys) ≡ true
nul-behind xs ys =
    list_any-append (λ byte. byte == 0) xs (0 ∷ ys) ∙ or-true (list_any (λ byte. byte == 0) xs)
