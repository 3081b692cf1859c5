-- The share that one of several workers has of numbered items.
use Rattle.std.proofs.Common.{◌≡◌, ℕ, zero, suc, ◌+◌, ◌*◌, ◌/◌, ◌%◌, ◌<◌, ◌≤◌, ◌==◌, ◌&&◌}
use Rattle.std.proofs.Common.{if◌then◌else◌, Bool, true, false, List, [], ◌∷◌, length, take, drop}
use Rattle.std.proofs.Common.{get_or, map, refl, ap, arith}
use Rattle.std.proofs.Math.Nat.{mod-add-div, mod-le, mul-suc, lt_of_mul-lt-mul_left}
use Rattle.std.proofs.Math.Nat.{mul-le-mul_left}
use Rattle.std.proofs.lemmas.Bool.{eqb-true}
use Rattle.std.proofs.lemmas.List.{drop_more}
use Rattle.std.specs.List.{list_all}
use Rattle.bays.specs.Bays.{IsShare, share}

-- a test is passed where both its parts are
pub both_pass : (a b : Bool) → (a && b) ≡ true → (a ≡ true) × (b ≡ true)
both_pass true b is = (refl, is)
both_pass false b is = (is, cc)

-- a share has no more items than there are
pub length-share : {X : Type 0} (workers k n : ℕ) (items : List X) →
    length (share workers k n items) ≤ length items
unfolding share
length-share workers k n [] = omega arith
length-share {X = X} workers k n (x ∷ items) =
    at_most (n % workers == k) (share workers k (n + 1) items)
    (length-share workers k (n + 1) items)
  where
    at_most : (b : Bool) (rest : List X) → length rest ≤ length items →
        length (if b then x ∷ rest else rest) ≤ suc (length items)
    at_most true rest is = omega arith
    at_most false rest is = omega arith

-- of two numbers with one remainder the greater is at least a divisor above the lower
next_number : (workers k m j : ℕ) → m % workers ≡ k → j % workers ≡ k → m < j → m + workers ≤ j
next_number workers k m j here there less =
    let m_is = mod-add-div m workers in
    let j_is = mod-add-div j workers in
    let fewer : m / workers < j / workers =
    lt_of_mul-lt-mul_left workers (omega (arith, m_is, j_is, here, there, less)) in
    let whole : workers * suc (m / workers) ≤ workers * (j / workers) =
    mul-le-mul_left workers fewer in
    omega (arith, m_is, j_is, here, there, whole, mul-suc workers (m / workers))

-- a number from `m` on with the remainder `k`, from which `n` more of them are below an end
abbrev Reaches : ℕ → ℕ → ℕ → ℕ → ℕ → Type 0
Reaches workers k m n end =
    (j : ℕ) × (m ≤ j) × (j % workers ≡ k) × (j + workers * n < end)

-- the numbers of a share of the items from number `m` on are below the end of these
share_reaches : {X : Type 0} (workers k m : ℕ) (items : List X) → (n : ℕ) →
    n < length (share workers k m items) → Reaches workers k m n (m + length items)
unfolding share
share_reaches workers k m [] n less = absurd (omega (arith, less))
share_reaches {X = X} workers k m (x ∷ items) n less =
    each (m % workers == k) (share workers k (m + 1) items) (λ is. eqb-true (m % workers) k is)
    (share_reaches workers k (m + 1) items) n less
  where
    each : (b : Bool) (rest : List X) → (b ≡ true → m % workers ≡ k) →
        ((n : ℕ) → n < length rest → Reaches workers k (m + 1) n (m + 1 + length items)) →
        (n : ℕ) → n < length (if b then x ∷ rest else rest) →
        Reaches workers k m n (m + suc (length items))
    each true rest here later zero less = (m, omega arith, here refl, omega arith)
    each true rest here later (suc n) less =
        let next = later n (omega (arith, less)) in (
          m,
          omega arith,
          here refl,
          omega (
            arith,
            mul-suc workers n,
            next.3,
            next_number workers k m next.0 (here refl) next.2 (omega (arith, next.1)),
          ),
        )
    each false rest here later n less =
        let next = later n less in
        (next.0, omega (arith, next.1), next.2, omega (arith, next.3))

-- the share of so many items is one
pub share_bounded : {X : Type 0} (workers sessions k : ℕ) (items : List X) →
    length items ≤ sessions → IsShare workers sessions k (length (share workers k 0 items))
share_bounded workers sessions k items few n less =
    let last = share_reaches workers k 0 items n less in
    omega (arith, mod-le last.0 workers, last.2, last.3, few)

-- the share of the items from number `n` on begins with the item of that number, or doesn't have it
pub share_from : {X : Type 0} (workers k n : ℕ) (items : List X) (item : X) → n < length items →
    get_or items n item ≡ item →
    share workers k n (drop n items)
    ≡ (if n % workers == k then item ∷ share workers k (n + 1) (drop (n + 1) items)
    else share workers k (n + 1) (drop (n + 1) items))
unfolding share
share_from workers k n items item within is = rw (drop_more items n item within, is) refl

-- a share of changed items is the share, changed
pub map-share : {X Y : Type 0} (f : X → Y) (workers k n : ℕ) (items : List X) →
    map f (share workers k n items) ≡ share workers k n (map f items)
unfolding share
map-share f workers k n [] = refl
map-share {X = X} {Y = Y} f workers k n (x ∷ items) =
    each (n % workers == k) (share workers k (n + 1) items) (share workers k (n + 1) (map f items))
    (map-share f workers k (n + 1) items)
  where
    each : (b : Bool) (rest : List X) (changed : List Y) → map f rest ≡ changed →
        map f (if b then x ∷ rest else rest) ≡ (if b then f x ∷ changed else changed)
    each true rest changed is = ap (λ ys. f x ∷ ys) is
    each false rest changed is = is

-- what holds of all items holds of those of a share
pub list_all-share : {X : Type 0} (test : X → Bool) (workers k n : ℕ) (items : List X) →
    list_all test items ≡ true → list_all test (share workers k n items) ≡ true
unfolding share
list_all-share test workers k n [] pass = refl
list_all-share {X = X} test workers k n (x ∷ items) pass =
    let both : (test x ≡ true) × (list_all test items ≡ true) =
    both_pass (test x) (list_all test items) pass in
    each (n % workers == k) (share workers k (n + 1) items) both.0
    (list_all-share test workers k (n + 1) items both.1)
  where
    each : (b : Bool) (rest : List X) → test x ≡ true → list_all test rest ≡ true →
        list_all test (if b then x ∷ rest else rest) ≡ true
    each true rest here is = rw here is
    each false rest here is = is

-- what holds of all items holds of the first ones
pub list_all-take : {X : Type 0} (test : X → Bool) (n : ℕ) (items : List X) →
    list_all test items ≡ true → list_all test (take n items) ≡ true
list_all-take test zero [] pass = refl
list_all-take test (suc n) [] pass = refl
list_all-take test zero (x ∷ items) pass = refl
list_all-take test (suc n) (x ∷ items) pass =
    let both : (test x ≡ true) × (list_all test items ≡ true) =
    both_pass (test x) (list_all test items) pass in
    rw both.0 (list_all-take test n items both.1)
