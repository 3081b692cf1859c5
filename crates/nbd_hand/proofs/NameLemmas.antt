-- Names that are compared.
use Rattle.std.proofs.Common.{◌≡◌, ◌≢◌, ℕ, Bool, true, false, ◌==◌, ◌&&◌, List, [], ◌∷◌, ap, ◌∙◌}
use Rattle.std.proofs.Common.{refl, sym}
use Rattle.std.proofs.lemmas.Bool.{eq-eqb, eqb-true}
use Rattle.nbd_hand.specs.Options.{is_same}

eqb-same : (x : ℕ) → (x == x) ≡ true
eqb-same x = eq-eqb x x refl

same-itself : (xs : List ℕ) → is_same xs xs ≡ true
unfolding is_same
same-itself [] = refl
same-itself (x ∷ xs) = ap (λ b. b && is_same xs xs) (eqb-same x) ∙ same-itself xs

both-true : (a b : Bool) → (a && b) ≡ true → (a ≡ true) × (b ≡ true)
both-true true b is = (refl, is)
both-true false b is = absurd (cc)

cons-same : (x y : ℕ) (xs ys : List ℕ) → x ≡ y → xs ≡ ys → x ∷ xs ≡ y ∷ ys
cons-same x y xs ys first rest = cc

same-texts : (xs ys : List ℕ) → is_same xs ys ≡ true → xs ≡ ys
unfolding is_same
same-texts [] [] is = refl
same-texts [] (y ∷ ys) is = absurd (cc)
same-texts (x ∷ xs) [] is = absurd (cc)
same-texts (x ∷ xs) (y ∷ ys) is =
    let both = both-true (x == y) (is_same xs ys) is in
    cons-same x y xs ys (eqb-true x y both.0) (same-texts xs ys both.1)

tested-false : (b : Bool) → (b ≡ true → ⊥) → false ≡ b
tested-false true never = absurd (never refl)
tested-false false never = refl

-- a test of two texts
pub same-tested : (b : Bool) (xs ys : List ℕ) → (b ≡ true → xs ≡ ys) → (b ≡ false → xs ≢ ys) →
    b ≡ is_same xs ys
same-tested true xs ys same other = sym (ap (λ t. is_same t ys) (same refl) ∙ same-itself ys)
same-tested false xs ys same other =
    tested-false (is_same xs ys) (λ is. other refl (same-texts xs ys is))
