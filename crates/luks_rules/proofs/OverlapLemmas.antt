-- Areas by rising offset share a byte where one reaches past the next one's offset.
use Rattle.std.proofs.Common.{◌≡◌, ℕ, zero, suc, ◌+◌, ◌*◌, ◌<◌, ◌≤◌, ◌&&◌, ◌||◌, nat_lt, List, []}
use Rattle.std.proofs.Common.{◌∷◌, get_or, Bool, true, false, cond, refl, sym, ap, ◌∙◌, arith}
use Rattle.std.proofs.lemmas.Bool.{lt-ltb, ltb-true, ltb-false, le-ltb, or_left}
use Rattle.std.proofs.lemmas.List.Folds.{list_any_none}
use Rattle.std.proofs.lemmas.List.Sums.{sum_by-cons}
use Rattle.std.proofs.lemmas.List.Sorted.{sum_by-IsPermutation, All-permutation}
use Rattle.std.proofs.lemmas.List.Elements.{All-cons}
use Rattle.std.specs.List.{list_any, filter, sum_by, All}
use Rattle.std.specs.List.Sorted.{IsPermutation, IsNonDecreasingBy}
use Rattle.luks_rules.specs.Areas.{end_of}
use Rattle.luks_rules.specs.Overlaps.{shares, overlap, has_bytes, reaches, IsInOrder}
use Rattle.luks_rules.specs.declared.areas.Area.{Area}

-- ---- areas without a byte share none
empty-left : (a b : Area) → has_bytes a ≡ false → shares a b ≡ false
empty-left a b h =
    let none : a.size ≤ 0 = ltb-false _ _ h in
    let own : nat_lt a.offset (end_of a) ≡ false = le-ltb _ _ (omega arith) in
    rw own (both-false (nat_lt a.offset (end_of b) && nat_lt b.offset (end_of a)))
  where
    both-false : (x : Bool) → x && false ≡ false
    both-false true = refl
    both-false false = refl

swapped : (a b : Area) → shares a b ≡ shares b a
swapped a b =
    flip (nat_lt a.offset (end_of b)) (nat_lt b.offset (end_of a)) (nat_lt a.offset (end_of a))
    (nat_lt b.offset (end_of b))
  where
    flip : (p q r s : Bool) → (p && q) && (r && s) ≡ (q && p) && (s && r)
    flip true true true true = refl
    flip true true true false = refl
    flip true true false true = refl
    flip true true false false = refl
    flip true false r s = refl
    flip false true r s = refl
    flip false false r s = refl

empty-right : (a b : Area) → has_bytes b ≡ false → shares a b ≡ false
empty-right a b h = swapped a b ∙ empty-left b a h

any-filtered : (a : Area) (areas : List Area)
    → list_any (shares a) (filter has_bytes areas) ≡ list_any (shares a) areas
any-filtered a [] = refl
any-filtered a (b ∷ areas) = step (has_bytes b) refl (any-filtered a areas)
  where
    step : (p : Bool) → has_bytes b ≡ p
        → list_any (shares a) (filter has_bytes areas) ≡ list_any (shares a) areas
        → list_any (shares a) (cond p (b ∷ filter has_bytes areas) (filter has_bytes areas))
        ≡ shares a b || list_any (shares a) areas
    step true e rest = ap (λ r. shares a b || r) rest
    step false e rest = rw (empty-right a b e) rest

none-empty : (a : Area) (areas : List Area) → has_bytes a ≡ false
    → list_any (shares a) areas ≡ false
none-empty a [] h = refl
none-empty a (b ∷ areas) h = rw (empty-left a b h) (none-empty a areas h)

overlap-filtered : (areas : List Area) → overlap (filter has_bytes areas) ≡ overlap areas
unfolding overlap
overlap-filtered [] = refl
overlap-filtered (a ∷ areas) = step (has_bytes a) refl (overlap-filtered areas)
  where
    step : (p : Bool) → has_bytes a ≡ p → overlap (filter has_bytes areas) ≡ overlap areas
        → overlap (cond p (a ∷ filter has_bytes areas) (filter has_bytes areas))
        ≡ list_any (shares a) areas || overlap areas
    step true e rest = λ i. any-filtered a areas i || rest i
    step false e rest = rw (none-empty a areas e) rest

-- ---- the order doesn't matter
abbrev bit : Bool → ℕ
bit b = cond b 1 0

-- how many of the areas one shares a byte with
sharing : List Area → Area → ℕ
sharing areas a = sum_by (λ b. bit (shares a b)) areas

-- how many pairs share a byte
pairs : List Area → ℕ
pairs [] = 0
pairs (a ∷ areas) = sharing areas a + pairs areas

total : List Area → ℕ
total areas = sum_by (sharing areas) areas

sum_by-plus : (f g : Area → ℕ) (areas : List Area)
    → sum_by (λ a. f a + g a) areas ≡ sum_by f areas + sum_by g areas
sum_by-plus f g [] = refl
sum_by-plus f g (a ∷ areas) =
    let e = sum_by-cons (λ x. f x + g x) a areas in
    let l = sum_by-cons f a areas in
    let r = sum_by-cons g a areas in
    let more = sum_by-plus f g areas in
    omega (arith, e, l, r, more)

sum_by-same : (f g : Area → ℕ) (areas : List Area) → ((a : Area) → f a ≡ g a)
    → sum_by f areas ≡ sum_by g areas
sum_by-same f g [] h = refl
sum_by-same f g (a ∷ areas) h =
    sum_by-cons f a areas ∙ (λ i. h a i + sum_by-same f g areas h i) ∙ sym (sum_by-cons g a areas)

-- each pair is counted twice, and each area with itself
total-pairs : (areas : List Area)
    → total areas ≡ sum_by (λ a. bit (shares a a)) areas + 2 * pairs areas
unfolding total pairs sharing
total-pairs [] = refl
total-pairs (a ∷ areas) =
    let first : total (a ∷ areas) ≡ sharing (a ∷ areas) a + sum_by (sharing (a ∷ areas)) areas =
    sum_by-cons (sharing (a ∷ areas)) a areas in
    let own : sharing (a ∷ areas) a ≡ bit (shares a a) + sharing areas a =
    sum_by-cons (λ b. bit (shares a b)) a areas in
    let split : sum_by (sharing (a ∷ areas)) areas
    ≡ sum_by (λ b. bit (shares b a)) areas + sum_by (sharing areas) areas =
    sum_by-same (sharing (a ∷ areas)) (λ b. bit (shares b a) + sharing areas b) areas
    (λ b. sum_by-cons (λ x. bit (shares b x)) a areas)
    ∙ sum_by-plus (λ b. bit (shares b a)) (sharing areas) areas in
    let flipped : sum_by (λ b. bit (shares b a)) areas ≡ sharing areas a =
    sum_by-same (λ b. bit (shares b a)) (λ b. bit (shares a b)) areas (λ b. ap bit (swapped b a)) in
    let selves : sum_by (λ x. bit (shares x x)) (a ∷ areas)
    ≡ bit (shares a a) + sum_by (λ x. bit (shares x x)) areas =
    sum_by-cons (λ x. bit (shares x x)) a areas in
    let more : total areas ≡ sum_by (λ x. bit (shares x x)) areas + 2 * pairs areas =
    total-pairs areas in
    omega (arith, first, own, split, flipped, selves, more)

total-same : (xs ys : List Area) → IsPermutation xs ys → total xs ≡ total ys
unfolding total sharing
total-same xs ys p =
    sym (sum_by-IsPermutation (sharing xs) xs ys p)
    ∙ sum_by-same (sharing xs) (sharing ys) ys
    (λ a. sym (sum_by-IsPermutation (λ b. bit (shares a b)) xs ys p))

pairs-same : (xs ys : List Area) → IsPermutation xs ys → pairs xs ≡ pairs ys
pairs-same xs ys p =
    let selves : sum_by (λ a. bit (shares a a)) ys ≡ sum_by (λ a. bit (shares a a)) xs =
    sum_by-IsPermutation (λ a. bit (shares a a)) xs ys p in
    omega (arith, total-pairs xs, total-pairs ys, total-same xs ys p, selves)

any-sharing : (a : Area) (areas : List Area)
    → list_any (shares a) areas ≡ nat_lt 0 (sharing areas a)
unfolding sharing
any-sharing a [] = refl
any-sharing a (b ∷ areas) =
    step (shares a b) refl (any-sharing a areas)
  where
    step : (p : Bool) → shares a b ≡ p → list_any (shares a) areas ≡ nat_lt 0 (sharing areas a)
        → p || list_any (shares a) areas ≡ nat_lt 0 (sum_by (λ x. bit (shares a x)) (b ∷ areas))
    step true e rest =
        let more : sum_by (λ x. bit (shares a x)) (b ∷ areas) ≡ 1 + sharing areas a =
        sum_by-cons (λ x. bit (shares a x)) b areas ∙ ap (λ q. bit q + sharing areas a) e in
        sym (lt-ltb _ _ (omega (arith, more)))
    step false e rest =
        let more : sum_by (λ x. bit (shares a x)) (b ∷ areas) ≡ sharing areas a =
        sum_by-cons (λ x. bit (shares a x)) b areas ∙ ap (λ q. bit q + sharing areas a) e
        ∙ omega arith in
        rest ∙ ap (nat_lt 0) (sym more)

overlap-pairs : (areas : List Area) → overlap areas ≡ nat_lt 0 (pairs areas)
unfolding overlap pairs
overlap-pairs [] = refl
overlap-pairs (a ∷ areas) =
    (λ i. any-sharing a areas i || overlap-pairs areas i) ∙ positive (sharing areas a) (pairs areas)
  where
    positive : (m n : ℕ) → nat_lt 0 m || nat_lt 0 n ≡ nat_lt 0 (m + n)
    positive zero n = ap (nat_lt 0) (let same : n ≡ 0 + n = omega arith in same)
    positive (suc m) n =
        let x : nat_lt 0 (suc m) ≡ true = lt-ltb 0 (suc m) (omega arith) in
        let y : nat_lt 0 (suc m + n) ≡ true = lt-ltb 0 (suc m + n) (omega arith) in
        or_left _ _ x ∙ sym y

overlap-same : (xs ys : List Area) → IsPermutation xs ys → overlap xs ≡ overlap ys
overlap-same xs ys p =
    overlap-pairs xs ∙ ap (nat_lt 0) (pairs-same xs ys p) ∙ sym (overlap-pairs ys)

-- ---- areas by rising offset
filter-has : (areas : List Area) → All (λ a. has_bytes a ≡ true) (filter has_bytes areas)
filter-has [] = λ k d h. absurd (omega arith)
filter-has (a ∷ areas) = step (has_bytes a) refl (filter-has areas)
  where
    step : (p : Bool) → has_bytes a ≡ p → All (λ b. has_bytes b ≡ true) (filter has_bytes areas)
        → All (λ b. has_bytes b ≡ true)
        (cond p (a ∷ filter has_bytes areas) (filter has_bytes areas))
    step true e rest = All-cons (λ b. has_bytes b ≡ true) a (filter has_bytes areas) e rest
    step false e rest = rest

rest-rises : (a : Area) (areas : List Area) → IsNonDecreasingBy (λ x. x.offset) (a ∷ areas)
    → IsNonDecreasingBy (λ x. x.offset) areas
rest-rises a areas rises i j d h k = rises (suc i) (suc j) d (omega arith) (omega arith)

rest-has : (a : Area) (areas : List Area) → All (λ x. has_bytes x ≡ true) (a ∷ areas)
    → All (λ x. has_bytes x ≡ true) areas
rest-has a areas has k d h = has (suc k) d (omega arith)

reaches-overlap : (a : Area) (areas : List Area) → IsNonDecreasingBy (λ x. x.offset) (a ∷ areas)
    → All (λ x. has_bytes x ≡ true) (a ∷ areas) → reaches (end_of a) areas ≡ overlap (a ∷ areas)
unfolding reaches overlap
reaches-overlap a [] rises has = refl
reaches-overlap a (b ∷ areas) rises has =
    let later : a.offset ≤ b.offset = rises 0 1 a (omega arith) (omega arith) in
    let own : 0 < a.size = ltb-true _ _ (has 0 a (omega arith)) in
    let its : 0 < b.size = ltb-true _ _ (has 1 a (omega arith)) in
    let rest : reaches (end_of b) areas ≡ overlap (b ∷ areas) =
    reaches-overlap b areas (rest-rises a (b ∷ areas) rises) (rest-has a (b ∷ areas) has) in
    step (nat_lt b.offset (end_of a)) refl later own its rest
  where
    -- one that begins behind the end of this one, and those behind it, share no byte with it
    behind : (x : Area) → end_of a ≤ x.offset → shares a x ≡ false
    behind x far =
        rw (le-ltb x.offset (end_of a) far)
        (none (nat_lt a.offset (end_of x))
        (nat_lt a.offset (end_of a) && nat_lt x.offset (end_of x)))
      where
        none : (p q : Bool) → (p && false) && q ≡ false
        none true q = refl
        none false q = refl

    step : (p : Bool) → nat_lt b.offset (end_of a) ≡ p → a.offset ≤ b.offset → 0 < a.size
        → 0 < b.size → reaches (end_of b) areas ≡ overlap (b ∷ areas)
        → p || reaches (end_of b) areas ≡ (shares a b || list_any (shares a) areas)
        || overlap (b ∷ areas)
    step true e later own its rest =
        let x : nat_lt a.offset (end_of b) ≡ true = lt-ltb _ _ (omega arith) in
        let y : nat_lt a.offset (end_of a) ≡ true = lt-ltb _ _ (omega arith) in
        let z : nat_lt b.offset (end_of b) ≡ true = lt-ltb _ _ (omega arith) in
        rw (x, e, y, z) refl
    step false e later own its rest =
        let far : end_of a ≤ b.offset = ltb-false _ _ e in
        let none : list_any (shares a) areas ≡ false = list_any_none (shares a) areas (λ k d h.
        (let rise : b.offset ≤ (get_or areas k d).offset =
        rises 1 (suc (suc k)) d (omega arith) (omega arith) in
        behind (get_or areas k d) (omega arith))) in
        rw (behind b far, none) rest

from-start : (areas : List Area) → IsNonDecreasingBy (λ x. x.offset) areas
    → All (λ x. has_bytes x ≡ true) areas → reaches 0 areas ≡ overlap areas
unfolding reaches overlap
from-start [] rises has = refl
from-start (a ∷ areas) rises has =
    rw (le-ltb a.offset 0 (omega arith)) (reaches-overlap a areas rises has)

pub found : (areas sorted : List Area) → IsInOrder areas sorted → reaches 0 sorted ≡ overlap areas
found areas sorted is =
    from-start sorted is.rising
    (All-permutation (λ x. has_bytes x ≡ true) (filter has_bytes areas) sorted is.same
    (filter-has areas))
    ∙ sym (overlap-same (filter has_bytes areas) sorted is.same) ∙ overlap-filtered areas
