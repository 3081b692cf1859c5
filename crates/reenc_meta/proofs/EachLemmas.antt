-- Facts that hold of each of a list, where the list is joined, mapped, numbered or cut.
use Rattle.std.proofs.Common.{◌≡◌, ℕ, suc, zero, ◌+◌, ◌^◌, ◌<◌, ◌≤◌, ◌++◌, ◌||◌, ◌⊎◌, inl, inr}
use Rattle.std.proofs.Common.{List, [], ◌∷◌, ◌∙◌, length, map, drop, true, ap, subst, sym, arith}
use Rattle.std.proofs.lemmas.Bool.{eq-eqb, ne_eqb}
use Rattle.std.specs.List.{All, AllByRecursion, enumerate_from}
use Rattle.json_members.specs.Entries.{IsRising}
use Rattle.luks_rules.specs.References.{is_there}

pub by-recursion : {X : Type 0} (P : X → Type 0) (xs : List X) → All P xs → AllByRecursion P xs
by-recursion P [] h = tt
by-recursion P (x ∷ xs) h =
    (h 0 x (omega arith), by-recursion P xs (λ k d l. h (suc k) d (omega (arith, l))))

pub at-each : {X : Type 0} (P : X → Type 0) (xs : List X) → AllByRecursion P xs → All P xs
at-each P [] h k d below = absurd (omega (arith, below))
at-each P (x ∷ xs) h zero d below = h.0
at-each P (x ∷ xs) h (suc k) d below = at-each P xs h.1 k d (omega (arith, below))

pub each-joined : {X : Type 0} (P : X → Type 0) (xs ys : List X) → AllByRecursion P xs
    → AllByRecursion P ys → AllByRecursion P (xs ++ ys)
each-joined P [] ys a b = b
each-joined P (x ∷ xs) ys a b = (a.0, each-joined P xs ys a.1 b)

pub each-mapped : {X Y : Type 0} (f : X → Y) (P : Y → Type 0) (xs : List X)
    → AllByRecursion (λ x. P (f x)) xs → AllByRecursion P (map f xs)
each-mapped f P [] h = tt
each-mapped f P (x ∷ xs) h = (h.0, each-mapped f P xs h.1)

pub each-dropped : {X : Type 0} (P : X → Type 0) (n : ℕ) (xs : List X) → AllByRecursion P xs
    → AllByRecursion P (drop n xs)
each-dropped P zero xs h = h
each-dropped P (suc n) [] h = tt
each-dropped P (suc n) (x ∷ xs) h = each-dropped P n xs h.1

pub each-weaker : {X : Type 0} (P Q : X → Type 0) (xs : List X) → ((x : X) → P x → Q x)
    → AllByRecursion P xs → AllByRecursion Q xs
each-weaker P Q [] from h = tt
each-weaker P Q (x ∷ xs) from h = (from x h.0, each-weaker P Q xs from h.1)

pub each-numbered : {X : Type 0} (P : X → Type 0) (n : ℕ) (xs : List X) → AllByRecursion P xs
    → AllByRecursion (λ s. P s.1) (enumerate_from n xs)
each-numbered P n [] h = tt
each-numbered P n (x ∷ xs) h = (h.0, each-numbered P (n + 1) xs h.1)

-- ---- entries numbered in turn
first : (k n : ℕ) → k ≤ n → (k ≡ n) ⊎ (k + 1 ≤ n)
first k n low = grind (arith, low)

pub numbered-there : {X : Type 0} (k n : ℕ) (xs : List X) → k ≤ n → n < k + length xs
    → is_there (enumerate_from k xs) n ≡ true
numbered-there k n [] low high = absurd (omega (arith, low, high))
numbered-there k n (x ∷ xs) low high = elim (first k n low) [
  | inl same ↦ ap (λ b. b || is_there (enumerate_from (k + 1) xs) n) (eq-eqb k n same)
  | inr more ↦
      ap (λ b. b || is_there (enumerate_from (k + 1) xs) n)
      (ne_eqb k n (λ same. absurd (omega (arith, same, more))))
      ∙ numbered-there (k + 1) n xs more (omega (arith, high))
]

above : {X : Type 0} (low k : ℕ) (xs : List X) → low < k
    → AllByRecursion (λ f. low < f.0) (enumerate_from k xs)
above low k [] h = tt
above low k (x ∷ xs) h = (h, above low (k + 1) xs (omega (arith, h)))

pub numbered-rising : {X : Type 0} (k : ℕ) (xs : List X) → k + length xs ≤ 2 ^ 64
    → IsRising (enumerate_from k xs)
numbered-rising k [] h = tt
numbered-rising k (x ∷ xs) h = (
  omega (arith, h),
  above k (k + 1) xs (omega arith),
  numbered-rising (k + 1) xs (omega (arith, h)),
)

-- ---- entries whose values alone change
pub rising-mapped : {X : Type 0} (f : ℕ × X → ℕ × X) (xs : List (ℕ × X))
    → ((x : ℕ × X) → (f x).0 ≡ x.0) → IsRising xs → IsRising (map f xs)
rising-mapped f [] same h = tt
rising-mapped {X} f (x ∷ xs) same h = (
  subst (λ n. n < 2 ^ 64) (sym (same x)) h.0,
  each-mapped f (λ y. (f x).0 < y.0) xs (each-weaker (λ y. x.0 < y.0) (λ y. (f x).0 < (f y).0) xs
      (λ y l. let one = same x in let other = same y in omega (arith, l, one, other)) h.1),
  rising-mapped f xs same h.2,
)
