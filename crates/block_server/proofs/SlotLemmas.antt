-- Places that all have something.
use Rattle.std.proofs.Common.{◌≡◌, ℕ, zero, suc, ◌<◌, List, [], ◌∷◌, ◌++◌, Option, Some, None}
use Rattle.std.proofs.Common.{IsSomeAnd, length, slice_index_or, refl, sym, ◌∙◌, ap, subst, arith}
use Rattle.block_server.specs.Slots.{each_of}

-- the value, and what holds of it
pub some-and : {A : Type 0} (x : Option A) (P : A → Type 0) → IsSomeAnd x P
    → (a : A) × (x ≡ Some a) × P a
some-and None P is = absurd is
some-and (Some a) P is = (a, refl, is)

pub and-some : {A : Type 0} (x : Option A) (P : A → Type 0) (a : A) → x ≡ Some a → P a
    → IsSomeAnd x P
and-some x P a is holds = subst (λ y. IsSomeAnd y P) (sym is) holds

pub some-same : {A : Type 0} (P : A → Type 0) (a b : Option A) → a ≡ b → IsSomeAnd b P
    → IsSomeAnd a P
some-same {A = A} P a b is holds = subst (λ (o : Option A). IsSomeAnd o P) (sym is) holds

-- what two places have, where each has something
pub both-at : {A : Type 0} (P : A → A → Type 0) (a b x y : Option A) → a ≡ x → b ≡ y
    → IsSomeAnd a (λ old. IsSomeAnd b (λ new. P old new))
    → IsSomeAnd x (λ old. IsSomeAnd y (λ new. P old new))
both-at {A = A} P a b x y first second holds =
    subst (λ (o : Option A). IsSomeAnd o (λ old. IsSomeAnd y (λ new. P old new))) first
    (subst (λ (n : Option A). IsSomeAnd a (λ old. IsSomeAnd n (λ new. P old new))) second holds)

pub same-some : {A : Type 0} (a b : A) (x : Option A) → x ≡ Some a → x ≡ Some b → a ≡ b
same-some a b x one two = inside (sym one ∙ two)
  where
    inside : Some a ≡ Some b → a ≡ b
    inside is = cc

pub each_of-more : {A X : Type 0} (f : A → X) (xs : List (Option A)) (a : A)
    → each_of f (xs ++ Some a ∷ []) ≡ each_of f xs ++ f a ∷ []
unfolding each_of
each_of-more f [] a = refl
each_of-more f (None ∷ xs) a = each_of-more f xs a
each_of-more f (Some b ∷ xs) a = ap (λ t. f b ∷ t) (each_of-more f xs a)

-- each place below the end has something
abbrev pub AllSome : {A : Type 0} → List (Option A) → Type 0
AllSome {A} xs = (k : ℕ) → k < length xs → (a : A) × (slice_index_or xs k None ≡ Some a)

tail-some : {A : Type 0} (x : Option A) (xs : List (Option A)) → AllSome (x ∷ xs) → AllSome xs
tail-some x xs all = λ k below. all (suc k) (omega (arith, below))

none-some : {A X : Type 0} (a : A) → None ≡ Some a → X
none-some a is = absurd (cc)

pub each_of-length : {A X : Type 0} (f : A → X) (xs : List (Option A)) → AllSome xs
    → length (each_of f xs) ≡ length xs
unfolding each_of
each_of-length f [] all = refl
each_of-length f (None ∷ xs) all = let (a, is) = all 0 (omega arith) in none-some a is
each_of-length f (Some b ∷ xs) all = ap (λ n. suc n) (each_of-length f xs (tail-some (Some b) xs all))

pub each_of-at : {A X : Type 0} (f : A → X) (xs : List (Option A)) → AllSome xs → (k : ℕ) (a : A)
    (x : X) → k < length xs → slice_index_or xs k None ≡ Some a
    → slice_index_or (each_of f xs) k x ≡ f a
unfolding each_of
each_of-at f [] all k a x below is = absurd (omega (arith, below))
each_of-at f (None ∷ xs) all k a x below is =
    let (b, none) = all 0 (omega arith) in none-some b none
each_of-at f (Some b ∷ xs) all zero a x below is = ap f (same-some b a (Some b) refl is)
each_of-at f (Some b ∷ xs) all (suc k) a x below is =
    each_of-at f xs (tail-some (Some b) xs all) k a x (omega (arith, below)) is
