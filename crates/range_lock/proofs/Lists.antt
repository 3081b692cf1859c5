-- What holds of each element of a list, where one more stands among them, and the first element
-- that passes a test.
use Rattle.std.proofs.Common.{◌≡◌, ℕ, suc, ◌+◌, ◌<◌, ◌≤◌, Bool, true, false, ◌||◌, not, List, []}
use Rattle.std.proofs.Common.{◌∷◌, ◌++◌, length, map, take, drop, Some, refl, sym, ap, ◌∙◌}
use Rattle.std.proofs.Common.{subst, arith, one-add, append_assoc, length-drop}
use Rattle.std.proofs.lemmas.Bool.{cond-true, cond-false, not_from_true, not_from_false, or_parts}
use Rattle.std.proofs.lemmas.List.{take_at, drop_at, length_push, length-take-le, get_or-take}
use Rattle.std.proofs.lemmas.List.{get_or-drop}
use Rattle.std.proofs.lemmas.List.Elements.{recursion_from_All}
use Rattle.std.specs.List.{AllByRecursion, AllWithin, list_any, find, position_or_len}
use Rattle.std.specs.List.{before_first, after_first}

module _ {X : Type 0} (P : X → Type 0) where
  pub all-front : (xs ys : List X) → AllByRecursion P (xs ++ ys) → AllByRecursion P xs
  all-front [] ys all = tt
  all-front (x ∷ xs) ys all = (all.0, all-front xs ys all.1)

  pub all-back : (xs ys : List X) → AllByRecursion P (xs ++ ys) → AllByRecursion P ys
  all-back [] ys all = all
  all-back (x ∷ xs) ys all = all-back xs ys all.1

  pub all-joined : (xs ys : List X) → AllByRecursion P xs → AllByRecursion P ys
      → AllByRecursion P (xs ++ ys)
  all-joined [] ys front back = back
  all-joined (x ∷ xs) ys front back = (front.0, all-joined xs ys front.1 back)

  -- one more among them
  pub all-with : (xs : List X) (y : X) (ys : List X) → P y → AllByRecursion P (xs ++ ys)
      → AllByRecursion P (xs ++ y ∷ ys)
  all-with [] y ys one all = (one, all)
  all-with (x ∷ xs) y ys one all = (all.0, all-with xs y ys one all.1)

  -- one of them, and all others
  pub all-less : (xs : List X) (y : X) (ys : List X) → AllByRecursion P (xs ++ y ∷ ys)
      → AllByRecursion P (xs ++ ys)
  all-less [] y ys all = all.1
  all-less (x ∷ xs) y ys all = (all.0, all-less xs y ys all.1)

  pub all-one : (xs : List X) (y : X) (ys : List X) → AllByRecursion P (xs ++ y ∷ ys) → P y
  all-one [] y ys all = all.0
  all-one (x ∷ xs) y ys all = all-one xs y ys all.1

  pub all-each : (Q : X → Type 0) → ((x : X) → P x → Q x) → (xs : List X) → AllByRecursion P xs
      → AllByRecursion Q xs
  all-each Q gives [] all = tt
  all-each Q gives (x ∷ xs) all = (gives x all.0, all-each Q gives xs all.1)

  pub all-both : (Q R : X → Type 0) → ((x : X) → P x → Q x → R x) → (xs : List X)
      → AllByRecursion P xs → AllByRecursion Q xs → AllByRecursion R xs
  all-both Q R gives [] all also = tt
  all-both Q R gives (x ∷ xs) all also = (gives x all.0 also.0, all-both Q R gives xs all.1 also.1)

  pub all-map : {Y : Type 0} (f : Y → X) (ys : List Y) → AllByRecursion (λ y. P (f y)) ys
      → AllByRecursion P (map f ys)
  all-map f [] all = tt
  all-map f (y ∷ ys) all = (all.0, all-map f ys all.1)

  pub all-unmap : {Y : Type 0} (f : Y → X) (ys : List Y) → AllByRecursion P (map f ys)
      → AllByRecursion (λ y. P (f y)) ys
  all-unmap f [] all = tt
  all-unmap f (y ∷ ys) all = (all.0, all-unmap f ys all.1)

  -- each below a place, and each from it on
  pub all-below : (n : ℕ) (xs : List X) → n ≤ length xs → AllWithin P xs 0 n
      → AllByRecursion P (take n xs)
  all-below n xs within each =
      recursion_from_All P (take n xs)
      (λ k d lt.
      let long = length-take-le n xs within in
      let below : k < n = omega (arith, long, lt) in
      subst P (sym (get_or-take n xs k d below)) (each k d (omega arith) below))

  pub all-behind : (n : ℕ) (xs : List X) → AllWithin P xs n (length xs)
      → AllByRecursion P (drop n xs)
  all-behind n xs each =
      recursion_from_All P (drop n xs)
      (λ k d lt.
      let long = length-drop n xs in
      subst P (sym (get_or-drop n xs k d)) (each (n + k) d (omega arith) (omega (arith, long, lt))))

module _ {X : Type 0} (p : X → Bool) where
  pub any-map : {Y : Type 0} (f : Y → X) (ys : List Y)
      → list_any p (map f ys) ≡ list_any (λ y. p (f y)) ys
  any-map f [] = refl
  any-map f (y ∷ ys) = ap (λ (b : Bool). p (f y) || b) (any-map f ys)

  pub none-pass : (xs : List X) → list_any p xs ≡ false → AllByRecursion (λ x. p x ≡ false) xs
  none-pass [] none = tt
  none-pass (x ∷ xs) none =
      let parts = or_parts (p x) (list_any p xs) none in
      (parts.0, none-pass xs parts.1)

  -- one passes, and none before it does
  position-at : (front : List X) (x : X) (back : List X) → AllByRecursion (λ y. p y ≡ false) front
      → p x ≡ true → position_or_len p (front ++ x ∷ back) ≡ length front
  position-at [] x back fails is =
      cond-false (not (p x)) (1 + position_or_len p back) 0 (not_from_true (p x) is)
  position-at (y ∷ front) x back fails is =
      cond-true (not (p y)) (1 + position_or_len p (front ++ x ∷ back)) 0
      (not_from_false (p y) fails.0)
      ∙ (one-add (position_or_len p (front ++ x ∷ back))
      ∙ ap suc (position-at front x back fails.1 is))

  pub before-at : (front : List X) (x : X) (back : List X)
      → AllByRecursion (λ y. p y ≡ false) front → p x ≡ true
      → before_first p (front ++ x ∷ back) ≡ front
  before-at front x back fails is =
      ap (λ (n : ℕ). take n (front ++ x ∷ back)) (position-at front x back fails is)
      ∙ take_at front (x ∷ back) (length front) refl

  pub after-at : (front : List X) (x : X) (back : List X)
      → AllByRecursion (λ y. p y ≡ false) front → p x ≡ true
      → after_first p (front ++ x ∷ back) ≡ back
  after-at front x back fails is =
      ap (λ (n : ℕ). drop (n + 1) (front ++ x ∷ back)) (position-at front x back fails is)
      ∙ (ap (λ (l : List X). drop (length front + 1) l) (sym (append_assoc front (x ∷ []) back))
      ∙ drop_at (front ++ x ∷ []) back (length front + 1) (length_push front x))

  pub find-first : (front : List X) (x : X) (back : List X)
      → AllByRecursion (λ y. p y ≡ false) front → p x ≡ true → find p (front ++ x ∷ back) ≡ Some x
  find-first [] x back fails is = cond-true (p x) (Some x) (find p back) is
  find-first (y ∷ front) x back fails is =
      cond-false (p y) (Some y) (find p (front ++ x ∷ back)) fails.0
      ∙ find-first front x back fails.1 is
