-- Loops that go over a list and push what they keep.
use Rattle.std.proofs.Common.{◌≡◌, ◌∙◌, ℕ, ◌+◌, ◌<◌, ◌≤◌, ◌++◌, List, [], ◌∷◌, length, get_or}
use Rattle.std.proofs.Common.{drop, drop-cons, add-one, append_assoc, sym, ap}
use Rattle.std.proofs.Common.{cond, Bool, true, false}
use Rattle.std.proofs.lemmas.List.{append-nil, drop_all}
use Rattle.std.specs.List.{filter}

module _ {X Y : Type 0} (g h : List X → List Y) (done : List Y) (xs : List X) (i : ℕ) (d : X)
    (all : List Y) where
  at : i < length xs → drop i xs ≡ get_or xs i d ∷ drop (i + 1) xs
  at below =
      drop-cons xs i d below ∙ ap (λ k. get_or xs i d ∷ drop k xs) (sym (add-one i))

  -- the item is kept
  pub kept-more : (now : List Y) (y : Y) → i < length xs
      → g (get_or xs i d ∷ drop (i + 1) xs) ≡ y ∷ h (drop (i + 1) xs) → now ≡ done ++ y ∷ []
      → done ++ g (drop i xs) ≡ all → now ++ h (drop (i + 1) xs) ≡ all
  kept-more now y below taken pushed before =
      ap (λ l. l ++ h (drop (i + 1) xs)) pushed
      ∙ append_assoc done (y ∷ []) (h (drop (i + 1) xs))
      ∙ ap (λ r. done ++ r) (sym taken) ∙ ap (λ l. done ++ g l) (sym (at below)) ∙ before

  -- it is passed over
  pub kept-none : i < length xs → g (get_or xs i d ∷ drop (i + 1) xs) ≡ h (drop (i + 1) xs)
      → done ++ g (drop i xs) ≡ all → done ++ h (drop (i + 1) xs) ≡ all
  kept-none below passed before =
      ap (λ r. done ++ r) (sym passed) ∙ ap (λ l. done ++ g l) (sym (at below)) ∙ before

-- the list is gone over
pub kept-all : {X Y : Type 0} (g : List X → List Y) (done : List Y) (xs : List X) (i : ℕ)
    (all : List Y) → g [] ≡ [] → length xs ≤ i → done ++ g (drop i xs) ≡ all → done ≡ all
kept-all g done xs i all none over before =
    sym (append-nil done) ∙ ap (λ r. done ++ r) (sym none)
    ∙ ap (λ l. done ++ g l) (sym (drop_all i xs over)) ∙ before

-- ---- some of a list
pub passes : {X : Type 0} (test : X → Bool) (x : X) (xs : List X) → test x ≡ true
    → filter test (x ∷ xs) ≡ x ∷ filter test xs
passes test x xs is = ap (λ b. cond b (x ∷ filter test xs) (filter test xs)) is

pub fails : {X : Type 0} (test : X → Bool) (x : X) (xs : List X) → test x ≡ false
    → filter test (x ∷ xs) ≡ filter test xs
fails test x xs is = ap (λ b. cond b (x ∷ filter test xs) (filter test xs)) is
