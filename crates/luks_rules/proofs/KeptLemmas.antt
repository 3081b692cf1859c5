-- A loop that keeps what a function finds in some of a list's elements.
use Rattle.std.proofs.Common.{◌≡◌, ◌∙◌, ◌++◌, ◌<◌, ◌≤◌, ◌+◌, ℕ, List, [], ◌∷◌, Option, Some, None}
use Rattle.std.proofs.Common.{length, get_or, drop, drop-cons, add-one, append_assoc, append-nil}
use Rattle.std.proofs.Common.{sym, ap, refl}
use Rattle.std.proofs.lemmas.List.{drop_all}
use Rattle.std.specs.List.{cons_option, filter_map}

by_one : {X Y : Type 0} (f : X → Option Y) (xs : List X) (i : ℕ) (d : X) → i < length xs
    → filter_map f (drop i xs) ≡ cons_option (f (get_or xs i d)) (filter_map f (drop (i + 1) xs))
by_one f xs i d h = rw (drop-cons xs i d h, add-one) refl

pub found_more : {X Y : Type 0} (f : X → Option Y) (done now : List Y) (y : Y) (xs : List X) (i : ℕ)
    (d : X) → i < length xs → Some y ≡ f (get_or xs i d)
    → now ≡ done ++ y ∷ [] → done ++ filter_map f (drop i xs) ≡ filter_map f xs
    → now ++ filter_map f (drop (i + 1) xs) ≡ filter_map f xs
found_more f done now y xs i d h is e before =
    ap (λ ys. ys ++ filter_map f (drop (i + 1) xs)) e
    ∙ append_assoc done (y ∷ []) (filter_map f (drop (i + 1) xs))
    ∙ ap (λ o. done ++ cons_option o (filter_map f (drop (i + 1) xs))) is
    ∙ ap (λ ys. done ++ ys) (sym (by_one f xs i d h)) ∙ before

pub found_none : {X Y : Type 0} (f : X → Option Y) (done : List Y) (xs : List X) (i : ℕ) (d : X)
    → i < length xs → None ≡ f (get_or xs i d)
    → done ++ filter_map f (drop i xs) ≡ filter_map f xs
    → done ++ filter_map f (drop (i + 1) xs) ≡ filter_map f xs
found_none f done xs i d h is before =
    ap (λ o. done ++ cons_option o (filter_map f (drop (i + 1) xs))) is
    ∙ ap (λ ys. done ++ ys) (sym (by_one f xs i d h)) ∙ before

pub found_all : {X Y : Type 0} (f : X → Option Y) (done : List Y) (xs : List X) (i : ℕ)
    → length xs ≤ i → done ++ filter_map f (drop i xs) ≡ filter_map f xs → done ≡ filter_map f xs
found_all f done xs i h before =
    sym (append-nil done) ∙ ap (λ rest. done ++ filter_map f rest) (sym (drop_all i xs h)) ∙ before
