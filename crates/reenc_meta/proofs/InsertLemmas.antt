-- Entries by rising numbers with a new one of the lowest number that is free.
use Rattle.std.proofs.Common.{◌≡◌, ◌∙◌, ℕ, suc, ◌+◌, ◌-◌, ◌^◌, ◌<◌, ◌≤◌}
use Rattle.std.proofs.Common.{◌||◌, eqb, cond, List, [], ◌∷◌, length, map, Bool, true, false}
use Rattle.std.proofs.Common.{refl, sym, ap, arith}
use Rattle.std.proofs.lemmas.Bool.{eq-eqb, eqb-true, ne_eqb}
use Rattle.std.specs.List.{AllByRecursion, insert}
use Rattle.json_members.specs.Entries.{IsRising}
use Rattle.luks_rules.specs.References.{is_there}
use Rattle.reenc_meta.specs.Starts.{lowest_free, lowest_from, with_new}

-- the new entry comes where a number is passed over
abbrev pub put_from : {X : Type 0} → ℕ → X → List (ℕ × X) → List (ℕ × X)
put_from k x [] = (k, x) ∷ []
put_from k x (e ∷ es) =
    cond (eqb e.0 k) (e ∷ put_from (k + 1) x es) ((k, x) ∷ e ∷ es)

pub lowest-within : {X : Type 0} (k : ℕ) (es : List (ℕ × X))
    → (k ≤ lowest_from k es) × (lowest_from k es ≤ k + length es)
unfolding lowest_from
lowest-within k [] = (omega arith, omega arith)
lowest-within {X} k (e ∷ es) = go (eqb e.0 k) (lowest-within (k + 1) es)
  where
    go : (b : Bool)
        → (k + 1 ≤ lowest_from (k + 1) es) × (lowest_from (k + 1) es ≤ k + 1 + length es)
        → (k ≤ cond b (lowest_from (k + 1) es) k)
        × (cond b (lowest_from (k + 1) es) k ≤ k + suc (length es))
    go true h = let low = h.0 in let high = h.1 in (omega (arith, low), omega (arith, high))
    go false h = (omega arith, omega arith)

inserted : {X : Type 0} (k n : ℕ) (x : X) (es : List (ℕ × X)) → n ≡ lowest_from k es
    → insert es (n - k) (n, x) ≡ put_from k x es
unfolding lowest_from
inserted k n x [] is = rw is (let none : k - k ≡ 0 = omega arith in rw none refl)
inserted {X} k n x (e ∷ es) is =
    go (eqb e.0 k) is (inserted (k + 1) n x es) (lowest-within (k + 1) es)
  where
    go : (b : Bool) → n ≡ cond b (lowest_from (k + 1) es) k
        → (n ≡ lowest_from (k + 1) es → insert es (n - (k + 1)) (n, x) ≡ put_from (k + 1) x es)
        → (k + 1 ≤ lowest_from (k + 1) es) × (lowest_from (k + 1) es ≤ k + 1 + length es)
        → insert (e ∷ es) (n - k) (n, x)
        ≡ cond b (e ∷ put_from (k + 1) x es) ((k, x) ∷ e ∷ es)
    go true is later low =
        let least = low.0 in
        let next : n - k ≡ suc (n - (k + 1)) = omega (arith, is, least) in
        ap (λ i. insert (e ∷ es) i (n, x)) next ∙ ap (λ rest. e ∷ rest) (later is)
    go false is later low =
        let none : n - k ≡ 0 = omega (arith, is) in
        ap (λ i. insert (e ∷ es) i (n, x)) none ∙ ap (λ i. (i, x) ∷ e ∷ es) is

pub with-new : {X : Type 0} (x : X) (es : List (ℕ × X)) → with_new x es ≡ put_from 0 x es
with-new x es =
    ap (λ i. insert es i (lowest_free es, x))
    (let same : lowest_free es ≡ lowest_free es - 0 = omega arith in same)
    ∙ inserted 0 (lowest_free es) x es refl

-- ---- what holds of each
pub each-put : {X : Type 0} (P : ℕ × X → Type 0) (k : ℕ) (x : X) (es : List (ℕ × X))
    → P (lowest_from k es, x) → AllByRecursion P es → AllByRecursion P (put_from k x es)
unfolding lowest_from
each-put P k x [] new old = (new, tt)
each-put {X} P k x (e ∷ es) new old =
    go (eqb e.0 k) new (λ n. each-put P (k + 1) x es n old.1)
  where
    go : (b : Bool) → P (cond b (lowest_from (k + 1) es) k, x)
        → (P (lowest_from (k + 1) es, x) → AllByRecursion P (put_from (k + 1) x es))
        → AllByRecursion P (cond b (e ∷ put_from (k + 1) x es) ((k, x) ∷ e ∷ es))
    go true new later = (old.0, later new)
    go false new later = (new, old)

higher : {X : Type 0} (k low : ℕ) (es : List (ℕ × X)) → k ≤ low
    → AllByRecursion (λ f. low < f.0) es → AllByRecursion (λ f. k + 1 ≤ f.0) es
higher k low [] fits h = tt
higher k low (e ∷ es) fits h =
    (let here = h.0 in omega (arith, fits, here), higher k low es fits h.1)

lower : {X : Type 0} (k low : ℕ) (es : List (ℕ × X)) → k < low
    → AllByRecursion (λ f. low < f.0) es → AllByRecursion (λ f. k < f.0) es
lower k low [] fits h = tt
lower k low (e ∷ es) fits h = (let here = h.0 in omega (arith, fits, here), lower k low es fits h.1)

beyond : (k n : ℕ) → k ≤ n → eqb n k ≡ false → k < n
beyond k n low other = grind (arith, low, other)

none_there : {X : Type 0} (k : ℕ) (es : List (ℕ × X)) → AllByRecursion (λ f. k < f.0) es
    → is_there es k ≡ false
none_there k [] h = refl
none_there k (e ∷ es) h =
    ap (λ b. b || is_there es k)
    (ne_eqb e.0 k (λ same. let here = h.0 in absurd (omega (arith, here, same))))
    ∙ none_there k es h.1

-- the number is free
pub is-free : {X : Type 0} (k : ℕ) (es : List (ℕ × X)) → AllByRecursion (λ e. k ≤ e.0) es
    → IsRising es → is_there es (lowest_from k es) ≡ false
unfolding lowest_from
is-free k [] above rising = refl
is-free {X} k (e ∷ es) above rising =
    go (eqb e.0 k) refl (is-free (k + 1) es (higher k e.0 es above.0 rising.1) rising.2)
  where
    go : (b : Bool) → eqb e.0 k ≡ b → is_there es (lowest_from (k + 1) es) ≡ false
        → is_there (e ∷ es) (cond b (lowest_from (k + 1) es) k) ≡ false
    go true is later =
        let same = eqb-true e.0 k is in
        let low = (lowest-within (k + 1) es).0 in
        ap (λ b. b || is_there es (lowest_from (k + 1) es))
        (ne_eqb e.0 (lowest_from (k + 1) es) (λ one. absurd (omega (arith, same, low, one))))
        ∙ later
    go false is later =
        let more = beyond k e.0 above.0 is in
        ap (λ b. b || is_there es k) is ∙ none_there k es (lower k e.0 es more rising.1)

-- numbers go on rising
pub rising-put : {X : Type 0} (k : ℕ) (x : X) (es : List (ℕ × X)) → lowest_from k es < 2 ^ 64
    → AllByRecursion (λ e. k ≤ e.0) es → IsRising es → IsRising (put_from k x es)
unfolding lowest_from
rising-put k x [] few above rising = (few, tt, tt)
rising-put {X} k x (e ∷ es) few above rising =
    go (eqb e.0 k) refl few
    (λ later. rising-put (k + 1) x es later (higher k e.0 es above.0 rising.1) rising.2)
  where
    go : (b : Bool) → eqb e.0 k ≡ b → cond b (lowest_from (k + 1) es) k < 2 ^ 64
        → (lowest_from (k + 1) es < 2 ^ 64 → IsRising (put_from (k + 1) x es))
        → IsRising (cond b (e ∷ put_from (k + 1) x es) ((k, x) ∷ e ∷ es))
    go true is few later =
        let same = eqb-true e.0 k is in (
          rising.0,
          each-put (λ f. e.0 < f.0) (k + 1) x es
              (let low = (lowest-within (k + 1) es).0 in omega (arith, same, low)) rising.1,
          later few,
        )
    go false is few later =
        let more : k < e.0 = beyond k e.0 above.0 is in
        (few, (more, lower k e.0 es more rising.1), rising)

pub there-put : {X : Type 0} (n k : ℕ) (x : X) (es : List (ℕ × X)) → is_there es n ≡ true
    → is_there (put_from k x es) n ≡ true
there-put n k x [] h = let bad : false ≡ true = h in cc
there-put {X} n k x (e ∷ es) h =
    split (eqb e.0 k) ∙ go (eqb e.0 k) (eqb e.0 n) h (there-put n (k + 1) x es)
  where
    split : (b : Bool)
        → is_there (cond b (e ∷ put_from (k + 1) x es) ((k, x) ∷ e ∷ es)) n
        ≡ cond b (eqb e.0 n || is_there (put_from (k + 1) x es) n)
        (eqb k n || (eqb e.0 n || is_there es n))
    split true = refl
    split false = refl

    or_true : (b c : Bool) → c ≡ true → (b || c) ≡ true
    or_true true c e = refl
    or_true false c e = e

    either : (c : Bool) → (c || is_there es n) ≡ true
        → (is_there es n ≡ true → is_there (put_from (k + 1) x es) n ≡ true)
        → (c || is_there (put_from (k + 1) x es) n) ≡ true
    either true h later = refl
    either false h later = later h

    go : (b c : Bool) → (c || is_there es n) ≡ true
        → (is_there es n ≡ true → is_there (put_from (k + 1) x es) n ≡ true)
        → cond b (c || is_there (put_from (k + 1) x es) n) (eqb k n || (c || is_there es n)) ≡ true
    go true c h later = either c h later
    go false c h later = or_true (eqb k n) (c || is_there es n) h

pub new-there : {X : Type 0} (k : ℕ) (x : X) (es : List (ℕ × X))
    → is_there (put_from k x es) (lowest_from k es) ≡ true
unfolding lowest_from
new-there k x [] = ap (λ b. b || false) (eq-eqb k k refl)
new-there {X} k x (e ∷ es) = go (eqb e.0 k) (new-there (k + 1) x es)
  where
    or_true : (b c : Bool) → c ≡ true → (b || c) ≡ true
    or_true true c e = refl
    or_true false c e = e

    go : (b : Bool) → is_there (put_from (k + 1) x es) (lowest_from (k + 1) es) ≡ true
        → is_there (cond b (e ∷ put_from (k + 1) x es) ((k, x) ∷ e ∷ es))
        (cond b (lowest_from (k + 1) es) k) ≡ true
    go true later =
        or_true (eqb e.0 (lowest_from (k + 1) es))
        (is_there (put_from (k + 1) x es) (lowest_from (k + 1) es)) later
    go false later = ap (λ b. b || is_there (e ∷ es) k) (eq-eqb k k refl)

pub put-length : {X : Type 0} (k : ℕ) (x : X) (es : List (ℕ × X))
    → length (put_from k x es) ≡ length es + 1
put-length k x [] = refl
put-length {X} k x (e ∷ es) = go (eqb e.0 k) (put-length (k + 1) x es)
  where
    go : (b : Bool) → length (put_from (k + 1) x es) ≡ length es + 1
        → length (cond b (e ∷ put_from (k + 1) x es) ((k, x) ∷ e ∷ es)) ≡ suc (length es) + 1
    go true later = omega (arith, later)
    go false later = omega arith

-- entries whose values alone change have the same lowest number, and take the new one alike
pub lowest-mapped : {X Y : Type 0} (f : ℕ × X → ℕ × Y) (k : ℕ) (es : List (ℕ × X))
    → ((e : ℕ × X) → (f e).0 ≡ e.0) → lowest_from k (map f es) ≡ lowest_from k es
unfolding lowest_from
lowest-mapped f k [] same = refl
lowest-mapped f k (e ∷ es) same =
    (λ i. cond (eqb (same e i) k) (lowest_from (k + 1) (map f es)) k)
    ∙ ap (λ n. cond (eqb e.0 k) n k) (lowest-mapped f (k + 1) es same)

pub put-mapped : {X : Type 0} (f : ℕ × X → ℕ × X) (k : ℕ) (x y : X) (es : List (ℕ × X))
    → ((e : ℕ × X) → (f e).0 ≡ e.0) → f (lowest_from k es, x) ≡ (lowest_from k es, y)
    → put_from k y (map f es) ≡ map f (put_from k x es)
unfolding lowest_from
put-mapped f k x y [] same is = ap (λ e. e ∷ []) (sym is)
put-mapped {X} f k x y (e ∷ es) same is =
    (λ i. cond (eqb (same e i) k) (f e ∷ put_from (k + 1) y (map f es))
    ((k, y) ∷ f e ∷ map f es))
    ∙ go (eqb e.0 k) is (put-mapped f (k + 1) x y es same)
  where
    go : (b : Bool)
        → f (cond b (lowest_from (k + 1) es) k, x) ≡ (cond b (lowest_from (k + 1) es) k, y)
        → (f (lowest_from (k + 1) es, x) ≡ (lowest_from (k + 1) es, y)
        → put_from (k + 1) y (map f es) ≡ map f (put_from (k + 1) x es))
        → cond b (f e ∷ put_from (k + 1) y (map f es)) ((k, y) ∷ f e ∷ map f es)
        ≡ map f (cond b (e ∷ put_from (k + 1) x es) ((k, x) ∷ e ∷ es))
    go true is later = ap (λ rest. f e ∷ rest) (later is)
    go false is later = ap (λ one. one ∷ f e ∷ map f es) (sym is)
