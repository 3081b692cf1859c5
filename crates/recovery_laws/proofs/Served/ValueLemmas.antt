-- A content as the list of its values.
use Rattle.std.proofs.Common.{◌≡◌, ◌∙◌, ◌+◌, ◌<◌, ℕ, zero, suc, List, [], ◌∷◌, ap, arith, length, refl}
use Rattle.sector_disk.specs.DiskViews.Parts.{value_in}

unfoldable pub values-from : (ℕ → List ℕ) → ℕ → ℕ → List (List ℕ)
values-from value first zero = []
values-from value first (suc n) = value first ∷ values-from value (suc first) n

pub length-from : (value : ℕ → List ℕ) (first n : ℕ) → length (values-from value first n) ≡ n
unfolding values-from
length-from value first zero = refl
length-from value first (suc n) = ap (λ k. suc k) (length-from value (suc first) n)

pub value-from : (value : ℕ → List ℕ) (first n b : ℕ) → b < n
    → value_in (values-from value first n) b ≡ value (first + b)
unfolding values-from
value-from value first zero b below = absurd (omega (arith, below))
value-from value first (suc n) zero below = ap value (omega arith)
value-from value first (suc n) (suc b) below =
    value-from value (suc first) n b (omega (arith, below)) ∙ ap value (omega arith)
