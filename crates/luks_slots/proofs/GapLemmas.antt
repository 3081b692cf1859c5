-- A walk along areas by rising offset finds the lowest place that has room, and the widest one.
use Rattle.std.proofs.Common.{◌≡◌, ◌⊎◌, inl, inr, ℕ, zero, suc, ◌+◌, ◌-◌, ◌*◌, ◌/◌, ◌%◌, ◌<◌}
use Rattle.std.proofs.Common.{◌≤◌}
use Rattle.std.proofs.Common.{nat_le, min, max, Bool, true, false, cond, List, [], ◌∷◌}
use Rattle.std.proofs.Common.{Some, None, refl, sym, ◌∙◌, ap, subst, arith}
use Rattle.std.proofs.Math.Nat.{lt_of_mul-lt-mul_right, max-eq_left, max-eq_right, mul-le-mul_right}
use Rattle.std.proofs.Math.Nat.{mul-mod_left}
use Rattle.std.proofs.lemmas.Bool.{le-leb, leb-true, leb-false, ltb-true, ltb-false}
use Rattle.std.proofs.lemmas.Grind.{div_ceil_times}
use Rattle.std.proofs.lemmas.List.Elements.{All-cons, All-filter, All-head, All-nil, All-tail}
use Rattle.std.proofs.lemmas.List.Elements.{filter_passes}
use Rattle.std.proofs.lemmas.List.Sorted.{All-permutation, IsPermutation-sym}
use Rattle.std.proofs.lemmas.Nat.{div-add-mod'}
use Rattle.std.specs.Int.{div_ceil}
use Rattle.std.specs.List.{All, filter}
use Rattle.std.specs.List.Sorted.{IsNonDecreasingBy}
use Rattle.luks_meta.specs.declared.meta.Parts.{Parts}
use Rattle.luks_rules.specs.Areas.{areas_begin, end_of}
use Rattle.luks_rules.specs.Overlaps.{has_bytes, IsInOrder}
use Rattle.luks_rules.specs.declared.areas.Area.{Area}
use Rattle.luks_slots.specs.Gaps.{behind, lowest_in, room, runs_begin, runs_end, taken, widest_in}
use Rattle.luks_slots.specs.Gaps.{IsApart, IsFree, IsLargest, IsLowest}
use Rattle.luks_slots.specs.Stripes.{rounded}

-- ---- whole atoms
pub not-before : (n atom : ℕ) → 0 < atom → n ≤ rounded n atom
not-before n atom some = (div_ceil_times n atom some).0

pub whole-rounded : (n atom : ℕ) → rounded n atom % atom ≡ 0
whole-rounded n atom = mul-mod_left (div_ceil n atom) atom

pub least-rounded : (n atom other : ℕ) → 0 < atom → n ≤ other → other % atom ≡ 0
    → rounded n atom ≤ other
least-rounded n atom other some le whole =
    let near : rounded n atom < n + atom = (div_ceil_times n atom some).1 in
    let parts : other / atom * atom + other % atom ≡ other = div-add-mod' other atom in
    let next : (other / atom + 1) * atom ≡ other / atom * atom + atom = omega arith in
    let below : div_ceil n atom * atom < (other / atom + 1) * atom =
    omega (arith, near, parts, next, le, whole) in
    let count : div_ceil n atom < other / atom + 1 = lt_of_mul-lt-mul_right atom below in
    let most : div_ceil n atom * atom ≤ other / atom * atom =
    mul-le-mul_right atom (omega (arith, count)) in
    omega (arith, most, parts, whole)

whole-max : (p q atom : ℕ) → p % atom ≡ 0 → q % atom ≡ 0 → max p q % atom ≡ 0
whole-max p q atom left right = go (nat_le p q) refl
  where
    go : (b : Bool) → nat_le p q ≡ b → max p q % atom ≡ 0
    go true is = ap (λ n. n % atom) (max-eq_right (leb-true p q is)) ∙ right
    go false is =
        ap (λ n. n % atom)
        (max-eq_left (let lt : q < p = leb-false p q is in omega (arith, lt)))
        ∙ left

-- ---- areas by rising offset
abbrev Rising : List Area → Type 0
Rising areas = IsNonDecreasingBy (λ a. a.offset) areas

head-first : (a : Area) (areas : List Area) → Rising (a ∷ areas)
    → All (λ b. a.offset ≤ b.offset) areas
head-first a areas up = λ k d l. up 0 (suc k) d (omega arith) (omega (arith, l))

tail-rising : (a : Area) (areas : List Area) → Rising (a ∷ areas) → Rising areas
tail-rising a areas up = λ i j d le l. up (suc i) (suc j) d (omega (arith, le)) (omega (arith, l))

abbrev pub HaveBytes : List Area → Type 0
HaveBytes areas = All (λ a. has_bytes a ≡ true) areas

-- an area that has a byte and is apart from a run
beside : (a : Area) (offset size : ℕ) → has_bytes a ≡ true → IsApart offset size a
    → (end_of a ≤ offset) ⊎ (offset + size ≤ a.offset)
beside a offset size has (inl none) =
    let some : 0 < a.size = ltb-true 0 a.size has in absurd (omega (arith, none, some))
beside a offset size has (inr apart) = apart

-- a run along areas from a place on
pub record IsRun (atom end wanted place offset : ℕ) (areas : List Area) : Type 0 where
  pub whole : offset % atom ≡ 0
  pub behind : place ≤ offset
  pub before : offset + wanted ≤ end
  pub apart : All (IsApart offset wanted) areas

module _ (atom end : ℕ) (some : 0 < atom) where
  past : (place : ℕ) (a : Area) → end_of a ≤ behind atom place a
  past place a =
      let e : end_of a ≤ rounded (end_of a) atom = not-before (end_of a) atom some in
      omega (arith, e)

  next-whole : (place : ℕ) (a : Area) → place % atom ≡ 0 → behind atom place a % atom ≡ 0
  next-whole place a whole =
      whole-max place (rounded (end_of a) atom) atom whole (whole-rounded (end_of a) atom)

  next-before : (place other : ℕ) (a : Area) → place ≤ other → other % atom ≡ 0
      → end_of a ≤ other → behind atom place a ≤ other
  next-before place other a le whole over =
      let e : rounded (end_of a) atom ≤ other =
      least-rounded (end_of a) atom other some over whole in
      omega (arith, e, le)

  -- ---- the place that is found
  pub found : (wanted : ℕ) → 0 < wanted → (areas : List Area) (place offset : ℕ)
      → place % atom ≡ 0 → Rising areas → lowest_in atom end wanted place areas ≡ Some offset
      → IsRun atom end wanted place offset areas
  unfolding lowest_in
  found wanted one [] place offset whole up is = go (nat_le wanted (end - place)) refl is
    where
      go : (b : Bool) → nat_le wanted (end - place) ≡ b
          → cond b (Some place) None ≡ Some offset → IsRun atom end wanted place offset []
      go true fits is =
          let same : place ≡ offset = cc in
          let le : wanted ≤ end - place = leb-true _ _ fits in
          record {
            whole = subst (λ n. n % atom ≡ 0) same whole;
            behind = omega (arith, same);
            before = omega (arith, same, le, one);
            apart = All-nil (IsApart offset wanted);
          }
      go false fits is = let bad : None ≡ Some offset = is in cc
  found wanted one (a ∷ areas) place offset whole up is =
      go (nat_le wanted (room end place a)) refl
      (found wanted one areas (behind atom place a) offset (next-whole place a whole)
      (tail-rising a areas up)) is
    where
      go : (b : Bool) → nat_le wanted (room end place a) ≡ b
          → (lowest_in atom end wanted (behind atom place a) areas ≡ Some offset
          → IsRun atom end wanted (behind atom place a) offset areas)
          → cond b (Some place) (lowest_in atom end wanted (behind atom place a) areas)
          ≡ Some offset
          → IsRun atom end wanted place offset (a ∷ areas)
      go true fits later is =
          let same : place ≡ offset = cc in
          let le : wanted ≤ min end a.offset - place = leb-true _ _ fits in
          let front : offset + wanted ≤ a.offset = omega (arith, same, le, one) in
          record {
            whole = subst (λ n. n % atom ≡ 0) same whole;
            behind = omega (arith, same);
            before = omega (arith, same, le, one);
            apart = All-cons (IsApart offset wanted) a areas (inr (inr front))
                (λ k d l. let behind = head-first a areas up k d l in
                inr (inr (omega (arith, behind, front))));
          }
      go false fits later is =
          let rest = later is in
          let over = past place a in
          let from = rest.behind in
          record {
            whole = rest.whole;
            behind = omega (arith, from);
            before = rest.before;
            apart = All-cons (IsApart offset wanted) a areas (inr (inl (omega (arith, over, from))))
                rest.apart;
          }

  -- ---- no free place is before it
  abbrev pub IsUpTo : ℕ → ℕ → ℕ → List Area → Type 0
  IsUpTo wanted place other areas =
      (offset : ℕ) × (lowest_in atom end wanted place areas ≡ Some offset) × (offset ≤ other)

  pub lowest : (wanted : ℕ) (areas : List Area) (place other : ℕ) → HaveBytes areas
      → place ≤ other → other % atom ≡ 0 → other + wanted ≤ end
      → All (IsApart other wanted) areas → IsUpTo wanted place other areas
  unfolding lowest_in
  lowest wanted [] place other have le whole last apart =
      go (nat_le wanted (end - place)) refl
    where
      go : (b : Bool) → nat_le wanted (end - place) ≡ b
          → (offset : ℕ) × (cond b (Some place) None ≡ Some offset) × (offset ≤ other)
      go true fits = (place, refl, le)
      go false fits =
          let short : end - place < wanted = leb-false _ _ fits in
          absurd (omega (arith, short, le, last))
  lowest wanted (a ∷ areas) place other have le whole last apart =
      go (nat_le wanted (room end place a)) refl
      (λ over. lowest wanted areas (behind atom place a) other
      (All-tail (λ b. has_bytes b ≡ true) a areas have)
      (next-before place other a le whole over) whole last
      (All-tail (IsApart other wanted) a areas apart))
    where
      on : nat_le wanted (room end place a) ≡ false
          → (end_of a ≤ other → IsUpTo wanted (behind atom place a) other areas)
          → (end_of a ≤ other) ⊎ (other + wanted ≤ a.offset)
          → IsUpTo wanted (behind atom place a) other areas
      on fits later (inl over) = later over
      on fits later (inr front) =
          let short : min end a.offset - place < wanted = leb-false _ _ fits in
          absurd (omega (arith, short, front, last, le))

      go : (b : Bool) → nat_le wanted (room end place a) ≡ b
          → (end_of a ≤ other → IsUpTo wanted (behind atom place a) other areas)
          → (offset : ℕ)
          × (cond b (Some place) (lowest_in atom end wanted (behind atom place a) areas)
          ≡ Some offset) × (offset ≤ other)
      go true fits later = (place, refl, le)
      go false fits later =
          on fits later
          (beside a other wanted (All-head (λ b. has_bytes b ≡ true) a areas have)
          (All-head (IsApart other wanted) a areas apart))

  -- ---- the widest
  pub widest : (areas : List Area) (size place other : ℕ) → HaveBytes areas → place ≤ other
      → other % atom ≡ 0 → other + size ≤ end → All (IsApart other size) areas
      → size ≤ widest_in atom end place areas
  unfolding widest_in
  widest [] size place other have le whole last apart = omega (arith, le, last)
  widest (a ∷ areas) size place other have le whole last apart =
      on
      (λ over. widest areas size (behind atom place a) other
      (All-tail (λ b. has_bytes b ≡ true) a areas have)
      (next-before place other a le whole over) whole last
      (All-tail (IsApart other size) a areas apart))
      (beside a other size (All-head (λ b. has_bytes b ≡ true) a areas have)
      (All-head (IsApart other size) a areas apart))
    where
      on : (end_of a ≤ other → size ≤ widest_in atom end (behind atom place a) areas)
          → (end_of a ≤ other) ⊎ (other + size ≤ a.offset)
          → size ≤ max (room end place a) (widest_in atom end (behind atom place a) areas)
      on later (inl over) = let rest = later over in omega (arith, rest)
      on later (inr front) = omega (arith, front, last, le)

  pub narrower : (wanted : ℕ) (areas : List Area) (place : ℕ)
      → lowest_in atom end wanted place areas ≡ None → widest_in atom end place areas < wanted
  unfolding lowest_in widest_in
  narrower wanted [] place none = go (nat_le wanted (end - place)) refl none
    where
      go : (b : Bool) → nat_le wanted (end - place) ≡ b → cond b (Some place) None ≡ None
          → end - place < wanted
      go true fits is = let bad : Some place ≡ None = is in cc
      go false fits is = leb-false _ _ fits
  narrower wanted (a ∷ areas) place none =
      go (nat_le wanted (room end place a)) refl
      (narrower wanted areas (behind atom place a)) none
    where
      go : (b : Bool) → nat_le wanted (room end place a) ≡ b
          → (lowest_in atom end wanted (behind atom place a) areas ≡ None
          → widest_in atom end (behind atom place a) areas < wanted)
          → cond b (Some place) (lowest_in atom end wanted (behind atom place a) areas) ≡ None
          → max (room end place a) (widest_in atom end (behind atom place a) areas) < wanted
      go true fits later is = let bad : Some place ≡ None = is in cc
      go false fits later is =
          let short : min end a.offset - place < wanted = leb-false _ _ fits in
          let rest = later is in
          omega (arith, short, rest)

  pub widest-there : (areas : List Area) (place wanted : ℕ)
      → wanted ≡ widest_in atom end place areas
      → (offset : ℕ) × (lowest_in atom end wanted place areas ≡ Some offset)
  unfolding lowest_in widest_in
  widest-there [] place wanted is =
      let fits : nat_le wanted (end - place) ≡ true = le-leb _ _ (omega (arith, is)) in
      (place, rw fits refl)
  widest-there (a ∷ areas) place wanted is =
      go (nat_le wanted (room end place a)) refl
      (widest-there areas (behind atom place a) wanted)
    where
      go : (b : Bool) → nat_le wanted (room end place a) ≡ b
          → (wanted ≡ widest_in atom end (behind atom place a) areas
          → (offset : ℕ)
          × (lowest_in atom end wanted (behind atom place a) areas ≡ Some offset))
          → (offset : ℕ)
          × (cond b (Some place) (lowest_in atom end wanted (behind atom place a) areas)
          ≡ Some offset)
      go true fits later = (place, refl)
      go false fits later =
          let short : min end a.offset - place < wanted = leb-false _ _ fits in
          later (omega (arith, short, is))

-- ---- of the areas that are taken
kept : (P : Area → Type 0) (areas : List Area) → ((a : Area) → has_bytes a ≡ false → P a)
    → All P (filter has_bytes areas) → All P areas
kept P [] none all = All-nil P
kept P (a ∷ areas) none all = go (has_bytes a) refl (kept P areas none) all
  where
    go : (b : Bool) → has_bytes a ≡ b → (All P (filter has_bytes areas) → All P areas)
        → All P (cond b (a ∷ filter has_bytes areas) (filter has_bytes areas)) → All P (a ∷ areas)
    go true is rest all =
        All-cons P a areas (All-head P a (filter has_bytes areas) all)
        (rest (All-tail P a (filter has_bytes areas) all))
    go false is rest all = All-cons P a areas (none a is) (rest all)

empty-apart : (offset size : ℕ) (a : Area) → has_bytes a ≡ false → IsApart offset size a
empty-apart offset size a is =
    let none : a.size ≤ 0 = ltb-false 0 a.size is in inl (omega (arith, none))

have-bytes : (areas sorted : List Area) → IsInOrder areas sorted → HaveBytes sorted
have-bytes areas sorted order =
    All-permutation (λ a. has_bytes a ≡ true) (filter has_bytes areas) sorted order.same
    (filter_passes has_bytes areas)

apart-sorted : (offset size : ℕ) (areas sorted : List Area) → IsInOrder areas sorted
    → All (IsApart offset size) areas → All (IsApart offset size) sorted
apart-sorted offset size areas sorted order apart =
    All-permutation (IsApart offset size) (filter has_bytes areas) sorted order.same
    (All-filter has_bytes (IsApart offset size) areas apart)

apart-all : (offset size : ℕ) (areas sorted : List Area) → IsInOrder areas sorted
    → All (IsApart offset size) sorted → All (IsApart offset size) areas
apart-all offset size areas sorted order apart =
    kept (IsApart offset size) areas (empty-apart offset size)
    (All-permutation (IsApart offset size) sorted (filter has_bytes areas)
    (IsPermutation-sym (filter has_bytes areas) sorted order.same) apart)

module _ (m : Parts) (besides sorted : List Area) (atom : ℕ) (some : 0 < atom)
    (order : IsInOrder (taken m besides) sorted) where
  begin : ℕ
  begin = runs_begin m.config atom

  end : ℕ
  end = runs_end m.config

  free : (wanted offset : ℕ) → 0 < wanted
      → lowest_in atom end wanted begin sorted ≡ Some offset
      → IsFree m besides atom wanted offset
  unfolding begin end
  free wanted offset one is =
      let run = found atom end some wanted one sorted begin offset
      (whole-rounded (areas_begin m.config) atom) order.rising is in
      let from = run.behind in
      let front = not-before (areas_begin m.config) atom some in
      let last = run.before in
      record {
        whole = run.whole;
        behind = omega (arith, from, front);
        before = omega (arith, last);
        within = omega (arith, last);
        apart = apart-all offset wanted (taken m besides) sorted order run.apart;
      }

  pub is-lowest : (wanted offset : ℕ) → 0 < wanted
      → lowest_in atom (runs_end m.config) wanted (runs_begin m.config atom) sorted ≡ Some offset
      → IsLowest m besides atom wanted offset
  unfolding begin end
  is-lowest wanted offset one is = record {
    free = free wanted offset one is;
    lowest = λ other run. (let low = run.behind in let last = run.before in
        let most = run.within in
        let there = lowest atom end some wanted sorted begin other
        (have-bytes (taken m besides) sorted order)
        (least-rounded (areas_begin m.config) atom other some low run.whole) run.whole
        (omega (arith, last, most))
        (apart-sorted other wanted (taken m besides) sorted order run.apart) in
        let same : offset ≡ there.0 = (let a = is in let b = there.1 in cc) in
        let le = there.2 in
        omega (arith, same, le));
  }

  pub is-largest : IsLargest m besides atom
      (widest_in atom (runs_end m.config) (runs_begin m.config atom) sorted)
  unfolding begin end
  is-largest = record {
    there = go (widest_in atom end begin sorted) refl;
    most = λ size other run. (let low = run.behind in let last = run.before in
        let most = run.within in
        widest atom end some sorted size begin other
        (have-bytes (taken m besides) sorted order)
        (least-rounded (areas_begin m.config) atom other some low run.whole) run.whole
        (omega (arith, last, most))
        (apart-sorted other size (taken m besides) sorted order run.apart));
  }
    where
      go : (gap : ℕ) → gap ≡ widest_in atom end begin sorted
          → (gap ≡ 0) ⊎ ((offset : ℕ) × IsFree m besides atom gap offset)
      go zero is = inl refl
      go (suc n) is =
          let there = widest-there atom end some sorted begin (suc n) is in
          inr (there.0, free (suc n) there.0 (omega arith) there.1)

  -- ---- by what the code has of them
  pub lowest-by : (a e b wanted offset : ℕ) (areas : List Area) → 0 < wanted → a ≡ atom
      → e ≡ runs_end m.config → b ≡ runs_begin m.config a → areas ≡ sorted
      → lowest_in a e wanted b areas ≡ Some offset → IsLowest m besides atom wanted offset
  lowest-by a e b wanted offset areas one same last first all is =
      is-lowest wanted offset one
      (sym (ap (λ n. lowest_in n e wanted b areas) same
      ∙ ap (λ n. lowest_in atom n wanted b areas) last
      ∙ ap (λ n. lowest_in atom (runs_end m.config) wanted n areas)
      (first ∙ ap (runs_begin m.config) same)
      ∙ ap (lowest_in atom (runs_end m.config) wanted (runs_begin m.config atom)) all) ∙ is)

  pub no-room-by : (a e b wanted gap : ℕ) (areas : List Area) → a ≡ atom → e ≡ runs_end m.config
      → b ≡ runs_begin m.config a → areas ≡ sorted → lowest_in a e wanted b areas ≡ None
      → gap ≡ widest_in a e b areas → (gap < wanted) × IsLargest m besides atom gap
  no-room-by a e b wanted gap areas same last first all none is =
      let short = narrower a e (subst (λ n. 0 < n) (sym same) some) wanted areas b none in
      let widest : gap
      ≡ widest_in atom (runs_end m.config) (runs_begin m.config atom) sorted =
      is ∙ ap (λ n. widest_in n e b areas) same ∙ ap (λ n. widest_in atom n b areas) last
      ∙ ap (λ n. widest_in atom (runs_end m.config) n areas)
      (first ∙ ap (runs_begin m.config) same)
      ∙ ap (widest_in atom (runs_end m.config) (runs_begin m.config atom)) all in
      (omega (arith, short, is), subst (λ n. IsLargest m besides atom n) (sym widest) is-largest)
