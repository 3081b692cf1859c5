-- What lists contain that were filtered or mapped; and areas among others.
use Rattle.std.proofs.Common.{◌≡◌, ◌∙◌, ◌⊎◌, inl, inr, ℕ, zero, suc, Bool, true, false}
use Rattle.std.proofs.Common.{List, [], ◌∷◌, map, refl, sym, ap, ap₂, subst, arith, cond}
use Rattle.std.proofs.lemmas.Bool.{and_parts, eq-eqb, eqb-true}
use Rattle.std.specs.Prelude.{Contains, ◌&&◌, ◌||◌, ◌==◌}
use Rattle.std.specs.List.{filter}
use Rattle.hotzone.specs.Endings.{is_left}
use Rattle.luks_rules.specs.declared.areas.Area.{Area}

-- ---- the first element, and the rest
pub has-head : {X : Type 0} (x : X) (xs : List X) → Contains (x ∷ xs) x
has-head x xs = (0, omega arith, refl)

pub has-rest : {X : Type 0} (x y : X) (xs : List X) → Contains xs y → Contains (x ∷ xs) y
has-rest x y xs has = (suc has.0, let below = has.1 in omega (arith, below), has.2)

pub has-either : {X : Type 0} (x y : X) (xs : List X) → Contains (x ∷ xs) y
    → (x ≡ y) ⊎ Contains xs y
has-either x y xs (zero, below, is) = inl is
has-either x y xs (suc k, below, is) = inr (k, omega (arith, below), is)

pub has-none : {X : Type 0} (y : X) → Contains [] y → ⊥
has-none y has = let below = has.1 in omega (arith, below)

-- ---- filtered
pub has-filtered : {X : Type 0} (keep : X → Bool) (y : X) (xs : List X) → Contains xs y
    → keep y ≡ true → Contains (filter keep xs) y
has-filtered keep y [] has pass = absurd (has-none y has)
has-filtered {X} keep y (x ∷ xs) has pass = elim (has-either x y xs has) [
  | inl is ↦
      subst (λ b. Contains (cond b (x ∷ filter keep xs) (filter keep xs)) y)
      (sym (ap keep is ∙ pass))
      (subst (λ z. Contains (x ∷ filter keep xs) z) is (has-head x (filter keep xs)))
  | inr more ↦ go (keep x) (has-filtered keep y xs more pass)
]
  where
    go : (b : Bool) → Contains (filter keep xs) y
        → Contains (cond b (x ∷ filter keep xs) (filter keep xs)) y
    go true later = has-rest x y (filter keep xs) later
    go false later = later

pub from-filtered : {X : Type 0} (keep : X → Bool) (y : X) (xs : List X)
    → Contains (filter keep xs) y → Contains xs y × (keep y ≡ true)
from-filtered keep y [] has = absurd (has-none y has)
from-filtered {X} keep y (x ∷ xs) has =
    go (keep x) refl has
    (λ more. let is = from-filtered keep y xs more in (has-rest x y xs is.0, is.1))
  where
    go : (b : Bool) → keep x ≡ b → Contains (cond b (x ∷ filter keep xs) (filter keep xs)) y
        → (Contains (filter keep xs) y → Contains (x ∷ xs) y × (keep y ≡ true))
        → Contains (x ∷ xs) y × (keep y ≡ true)
    go true e more later = elim (has-either x y (filter keep xs) more) [
      | inl is ↦ (
        subst (λ z. Contains (x ∷ xs) z) is (has-head x xs),
        subst (λ z. keep z ≡ true) is e,
      )
      | inr rest ↦ later rest
    ]
    go false e more later = later more

-- ---- mapped
pub has-mapped : {X Y : Type 0} (f : X → Y) (y : X) (xs : List X) → Contains xs y
    → Contains (map f xs) (f y)
has-mapped f y [] has = absurd (has-none y has)
has-mapped f y (x ∷ xs) has = elim (has-either x y xs has) [
  | inl is ↦ subst (λ z. Contains (f x ∷ map f xs) (f z)) is (has-head (f x) (map f xs))
  | inr more ↦ has-rest (f x) (f y) (map f xs) (has-mapped f y xs more)
]

pub from-mapped : {X Y : Type 0} (f : X → Y) (z : Y) (xs : List X) → Contains (map f xs) z
    → (y : X) × Contains xs y × (f y ≡ z)
from-mapped f z [] has = absurd (has-none z has)
from-mapped f z (x ∷ xs) has = elim (has-either (f x) z (map f xs) has) [
  | inl is ↦ (x, has-head x xs, is)
  | inr more ↦
      let found = from-mapped f z xs more in
      (found.0, has-rest x found.0 xs found.1, found.2)
]

-- ---- areas
area-at : ℕ → ℕ → Area
area-at o s = record { offset = o; size = s }

pub same-area : (a b : Area) → a.offset ≡ b.offset → a.size ≡ b.size → a ≡ b
unfolding area-at
same-area a b offset size = ap₂ area-at offset size

is-same : (a b : Area) → a ≡ b → (a.offset == b.offset && a.size == b.size) ≡ true
is-same a b is =
    rw (
      eq-eqb a.offset b.offset (ap (λ (x : Area). x.offset) is),
      eq-eqb a.size b.size (ap (λ (x : Area). x.size) is),
    ) refl

pub left-from : (a : Area) (xs : List Area) → Contains xs a → is_left xs a ≡ true
left-from a [] has = absurd (has-none a has)
left-from a (x ∷ xs) has = elim (has-either x a xs has) [
  | inl is ↦ ap (λ b. b || is_left xs a) (is-same x a is)
  | inr more ↦ go (x.offset == a.offset && x.size == a.size) (left-from a xs more)
]
  where
    go : (b : Bool) → is_left xs a ≡ true → (b || is_left xs a) ≡ true
    go true later = refl
    go false later = later

pub left-to : (a : Area) (xs : List Area) → is_left xs a ≡ true → Contains xs a
left-to a [] is = let bad : false ≡ true = is in cc
left-to a (x ∷ xs) is =
    go (x.offset == a.offset && x.size == a.size) refl is (left-to a xs)
  where
    go : (b : Bool) → (x.offset == a.offset && x.size == a.size) ≡ b
        → (b || is_left xs a) ≡ true → (is_left xs a ≡ true → Contains xs a)
        → Contains (x ∷ xs) a
    go true e h later =
        let both = and_parts (x.offset == a.offset) (x.size == a.size) e in
        subst (λ z. Contains (x ∷ xs) z)
        (same-area x a (eqb-true x.offset a.offset both.0) (eqb-true x.size a.size both.1))
        (has-head x xs)
    go false e h later = has-rest x a xs (later h)
