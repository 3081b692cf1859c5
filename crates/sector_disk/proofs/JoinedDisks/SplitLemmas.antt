-- Lemmas on what is written across two texts or two tables that stand one behind the other.
use Rattle.std.proofs.Common.{◌≡◌, ℕ, zero, suc, ◌+◌, ◌-◌, ◌≤◌, List, [], ◌∷◌, ◌++◌, length, take}
use Rattle.std.proofs.Common.{drop, map, Contains, refl, sym, ◌∙◌, ap, ap₂, inl, inr, arith}
use Rattle.std.proofs.Common.{length-drop}
use Rattle.std.proofs.Math.Seq.{take-nil, drop-nil}
use Rattle.std.proofs.lemmas.List.Elements.{All-nil, All-cons, All-contains_itself}
use Rattle.base_terms.specs.Blocks.{pasted, changed}
use Rattle.base_terms.proofs.BlockLemmas.{pasted-nil, changed-nil}
use Rattle.sector_disk.specs.Cells.{Cell, wrote, synced, IsTried, IsThinned, AreHeld}

-- cells

pub changed_append : {C : Type 0} (change : C → List ℕ → C) (xs ys : List C) (at : ℕ)
    (values : List (List ℕ))
    → changed change (xs ++ ys) at values
    ≡ changed change xs at values
    ++ changed change ys (at - length xs) (drop (length xs - at) values)
unfolding changed
changed_append change [] ys at values =
    let here : at - 0 ≡ at = omega arith in
    let none : 0 - at ≡ 0 = omega arith in
    rw (here, none) refl
changed_append change (x ∷ xs) ys at [] =
    ap (λ rest. x ∷ (xs ++ rest)) (sym (changed-nil change ys (at - suc (length xs)))
    ∙ ap (λ none. changed change ys (at - suc (length xs)) none)
    (sym (drop-nil (suc (length xs) - at))))
changed_append change (x ∷ xs) ys zero (value ∷ values) =
    let here : 0 - suc (length xs) ≡ 0 - length xs = omega arith in
    let left : suc (length xs) - 0 ≡ suc (length xs - 0) = omega arith in
    rw (here, left) (ap (λ rest. change x value ∷ rest) (changed_append change xs ys 0 values))
changed_append change (x ∷ xs) ys (suc at) (value ∷ values) =
    let here : suc at - suc (length xs) ≡ at - length xs = omega arith in
    let left : suc (length xs) - suc at ≡ length xs - at = omega arith in
    rw (here, left) (ap (λ rest. x ∷ rest) (changed_append change xs ys at (value ∷ values)))

pub take_changed : {C : Type 0} (change : C → List ℕ → C) (n : ℕ) (xs : List C) (at : ℕ)
    (values : List (List ℕ))
    → take n (changed change xs at values) ≡ changed change (take n xs) at values
unfolding changed
take_changed change zero xs at values = refl
take_changed change (suc n) [] at values = refl
take_changed change (suc n) (x ∷ xs) at [] = refl
take_changed change (suc n) (x ∷ xs) zero (value ∷ values) =
    ap (λ rest. change x value ∷ rest) (take_changed change n xs 0 values)
take_changed change (suc n) (x ∷ xs) (suc at) (value ∷ values) =
    ap (λ rest. x ∷ rest) (take_changed change n xs at (value ∷ values))

-- no value behind the end counts
changed_beyond : {C : Type 0} (change : C → List ℕ → C) (xs : List C) (at : ℕ)
    (values : List (List ℕ))
    → length xs ≤ at → changed change xs at values ≡ xs
unfolding changed
changed_beyond change [] at values beyond = refl
changed_beyond change (x ∷ xs) at [] beyond = refl
changed_beyond change (x ∷ xs) zero (value ∷ values) beyond = absurd (omega (arith, beyond))
changed_beyond change (x ∷ xs) (suc at) (value ∷ values) beyond =
    ap (λ rest. x ∷ rest) (changed_beyond change xs at (value ∷ values) (omega (arith, beyond)))

changed_cut : {C : Type 0} (change : C → List ℕ → C) (xs : List C) (at k : ℕ)
    (values : List (List ℕ))
    → length xs ≤ at + k → changed change xs at (take k values) ≡ changed change xs at values
unfolding changed
changed_cut change [] at k values enough = refl
changed_cut change (x ∷ xs) at k [] enough =
    ap (λ none. changed change (x ∷ xs) at none) (take-nil k)
changed_cut change (x ∷ xs) zero zero (value ∷ values) enough = absurd (omega (arith, enough))
changed_cut change (x ∷ xs) zero (suc k) (value ∷ values) enough =
    ap (λ rest. change x value ∷ rest) (changed_cut change xs 0 k values (omega (arith, enough)))
changed_cut change (x ∷ xs) (suc at) zero (value ∷ values) enough =
    ap (λ rest. x ∷ rest)
    (sym (changed_beyond change xs at (value ∷ values) (omega (arith, enough))))
changed_cut change (x ∷ xs) (suc at) (suc k) (value ∷ values) enough =
    ap (λ rest. x ∷ rest)
    (changed_cut change xs at (suc k) (value ∷ values) (omega (arith, enough)))

-- what a write across both leaves
pub changed_both : {C : Type 0} (change : C → List ℕ → C) (used : ℕ) (xs ys : List C) (at : ℕ)
    (values : List (List ℕ))
    → changed change xs at (take (length xs - at) values)
    ++ take used (changed change ys (at - length xs) (drop (length xs - at) values))
    ≡ changed change (xs ++ take used ys) at values
changed_both change used xs ys at values =
    ap₂ (λ front back. front ++ back)
    (changed_cut change xs at (length xs - at) values (omega arith))
    (take_changed change used ys (at - length xs) (drop (length xs - at) values))
    ∙ sym (changed_append change xs (take used ys) at values)

-- a failed write may leave everything, or write everything
pub tried_not : (xs : List Cell) (at : ℕ) (values : List (List ℕ)) → IsTried xs at values xs
unfolding IsTried
tried_not [] at values = refl
tried_not (x ∷ xs) at [] = refl
tried_not (x ∷ xs) zero (value ∷ values) = (inl refl, tried_not xs 0 values)
tried_not (x ∷ xs) (suc at) (value ∷ values) = (refl, tried_not xs at (value ∷ values))

pub tried_all : (xs : List Cell) (at : ℕ) (values : List (List ℕ))
    → IsTried xs at values (changed wrote xs at values)
unfolding IsTried changed
tried_all [] at values = refl
tried_all (x ∷ xs) at [] = refl
tried_all (x ∷ xs) zero (value ∷ values) = (inr (inr refl), tried_all xs 0 values)
tried_all (x ∷ xs) (suc at) (value ∷ values) = (refl, tried_all xs at (value ∷ values))

tried_none : (xs : List Cell) (at : ℕ) (nx : List Cell) → IsTried xs at [] nx → nx ≡ xs
unfolding IsTried
tried_none [] at nx is = is
tried_none (x ∷ xs) at nx is = is

tried_append : (xs ys : List Cell) (at : ℕ) (values : List (List ℕ)) (nx ny : List Cell)
    → IsTried xs at values nx → IsTried ys (at - length xs) (drop (length xs - at) values) ny
    → IsTried (xs ++ ys) at values (nx ++ ny)
unfolding IsTried
tried_append [] ys at values nx ny of_xs of_ys =
    let here : at - 0 ≡ at = omega arith in
    let none : 0 - at ≡ 0 = omega arith in
    rw of_xs (rw (here, none) at of_ys)
tried_append (x ∷ xs) ys at [] nx ny of_xs of_ys =
    ap₂ (λ front back. front ++ back) of_xs
    (tried_none ys (at - suc (length xs)) ny
    (rw (drop-nil {A = List ℕ} (suc (length xs) - at)) at of_ys))
tried_append (x ∷ xs) ys zero (value ∷ values) [] ny of_xs of_ys = absurd of_xs
tried_append (x ∷ xs) ys zero (value ∷ values) (next ∷ nx) ny of_xs of_ys =
    let left : suc (length xs) - 0 ≡ suc (length xs - 0) = omega arith in
    let here : 0 - suc (length xs) ≡ 0 - length xs = omega arith in
    (of_xs.0, tried_append xs ys 0 values nx ny of_xs.1 (rw (here, left) at of_ys))
tried_append (x ∷ xs) ys (suc at) (value ∷ values) [] ny of_xs of_ys = absurd of_xs
tried_append (x ∷ xs) ys (suc at) (value ∷ values) (next ∷ nx) ny of_xs of_ys =
    let left : suc (length xs) - suc at ≡ length xs - at = omega arith in
    let here : suc at - suc (length xs) ≡ at - length xs = omega arith in
    (of_xs.0, tried_append xs ys at (value ∷ values) nx ny of_xs.1 (rw (here, left) at of_ys))

tried_cut : (xs : List Cell) (at k : ℕ) (values : List (List ℕ)) (nx : List Cell)
    → length xs ≤ at + k
    → IsTried xs at (take k values) nx → IsTried xs at values nx
unfolding IsTried
tried_cut [] at k values nx enough is = is
tried_cut (x ∷ xs) at k [] nx enough is = rw (take-nil {A = List ℕ} k) at is
tried_cut (x ∷ xs) zero zero (value ∷ values) nx enough is = absurd (omega (arith, enough))
tried_cut (x ∷ xs) zero (suc k) (value ∷ values) [] enough is = absurd is
tried_cut (x ∷ xs) zero (suc k) (value ∷ values) (next ∷ nx) enough is =
    (is.0, tried_cut xs 0 k values nx (omega (arith, enough)) is.1)
tried_cut (x ∷ xs) (suc at) zero (value ∷ values) nx enough is =
    rw is (refl, tried_not xs at (value ∷ values))
tried_cut (x ∷ xs) (suc at) (suc k) (value ∷ values) [] enough is = absurd is
tried_cut (x ∷ xs) (suc at) (suc k) (value ∷ values) (next ∷ nx) enough is =
    (is.0, tried_cut xs at (suc k) (value ∷ values) nx (omega (arith, enough)) is.1)

pub tried_take : (n : ℕ) (xs : List Cell) (at : ℕ) (values : List (List ℕ)) (nx : List Cell)
    → IsTried xs at values nx → IsTried (take n xs) at values (take n nx)
unfolding IsTried
tried_take zero xs at values nx is = refl
tried_take (suc n) [] at values nx is = ap (λ all. take (suc n) all) is
tried_take (suc n) (x ∷ xs) at [] nx is = ap (λ all. take (suc n) all) is
tried_take (suc n) (x ∷ xs) zero (value ∷ values) [] is = absurd is
tried_take (suc n) (x ∷ xs) zero (value ∷ values) (next ∷ nx) is =
    (is.0, tried_take n xs 0 values nx is.1)
tried_take (suc n) (x ∷ xs) (suc at) (value ∷ values) [] is = absurd is
tried_take (suc n) (x ∷ xs) (suc at) (value ∷ values) (next ∷ nx) is =
    (is.0, tried_take n xs at (value ∷ values) nx is.1)

-- what a failed write across both leaves
pub tried_both : (used : ℕ) (xs ys : List Cell) (at : ℕ) (values : List (List ℕ))
    (nx ny : List Cell)
    → IsTried xs at (take (length xs - at) values) nx
    → IsTried ys (at - length xs) (drop (length xs - at) values) ny
    → IsTried (xs ++ take used ys) at values (nx ++ take used ny)
tried_both used xs ys at values nx ny of_xs of_ys =
    tried_append xs (take used ys) at values nx (take used ny)
    (tried_cut xs at (length xs - at) values nx (omega arith) of_xs)
    (tried_take used ys (at - length xs) (drop (length xs - at) values) ny of_ys)

-- syncs
pub synced_both : (used : ℕ) (xs ys : List Cell)
    → map synced xs ++ take used (map synced ys) ≡ map synced (xs ++ take used ys)
synced_both used [] ys = synced_take used ys
  where
    synced_take : (n : ℕ) (ys : List Cell) → take n (map synced ys) ≡ map synced (take n ys)
    synced_take zero ys = refl
    synced_take (suc n) [] = refl
    synced_take (suc n) (y ∷ ys) = ap (λ rest. synced y ∷ rest) (synced_take n ys)
synced_both used (x ∷ xs) ys = ap (λ rest. synced x ∷ rest) (synced_both used xs ys)

pub thinned_not : (xs : List Cell) → IsThinned xs xs
unfolding IsThinned
thinned_not [] = tt
thinned_not (x ∷ xs) =
    (record { current = refl; candidates = All-contains_itself x.candidates }, thinned_not xs)

pub thinned_all : (xs : List Cell) → AreHeld xs → IsThinned xs (map synced xs)
unfolding IsThinned
thinned_all [] held = tt
thinned_all (x ∷ xs) held = (
  record {
    current = refl;
    candidates = All-cons (λ value. Contains x.candidates value) x.current [] held.0 (All-nil _);
  },
  thinned_all xs held.1,
)

thinned_append : (xs ys nx ny : List Cell) → IsThinned xs nx → IsThinned ys ny
    → IsThinned (xs ++ ys) (nx ++ ny)
unfolding IsThinned
thinned_append [] ys [] ny of_xs of_ys = of_ys
thinned_append [] ys (next ∷ nx) ny of_xs of_ys = absurd of_xs
thinned_append (x ∷ xs) ys [] ny of_xs of_ys = absurd of_xs
thinned_append (x ∷ xs) ys (next ∷ nx) ny of_xs of_ys =
    (of_xs.0, thinned_append xs ys nx ny of_xs.1 of_ys)

pub thinned_take : (n : ℕ) (xs nx : List Cell) → IsThinned xs nx → IsThinned (take n xs) (take n nx)
unfolding IsThinned
thinned_take zero xs nx is = tt
thinned_take (suc n) [] [] is = tt
thinned_take (suc n) [] (next ∷ nx) is = absurd is
thinned_take (suc n) (x ∷ xs) [] is = absurd is
thinned_take (suc n) (x ∷ xs) (next ∷ nx) is = (is.0, thinned_take n xs nx is.1)

pub thinned_both : (used : ℕ) (xs ys nx ny : List Cell) → IsThinned xs nx → IsThinned ys ny
    → IsThinned (xs ++ take used ys) (nx ++ take used ny)
thinned_both used xs ys nx ny of_xs of_ys =
    thinned_append xs (take used ys) nx (take used ny) of_xs (thinned_take used ys ny of_ys)

-- texts

pasted_over_first : (x c : ℕ) (xs text : List ℕ)
    → pasted (x ∷ xs) 0 (c ∷ text) ≡ c ∷ pasted xs 0 text
unfolding pasted
pasted_over_first x c xs text =
    let one : 0 + suc (length text) ≡ suc (0 + length text) = omega arith in rw one refl

pasted_next : (x : ℕ) (xs : List ℕ) (at : ℕ) (text : List ℕ)
    → pasted (x ∷ xs) (suc at) text ≡ x ∷ pasted xs at text
unfolding pasted
pasted_next x xs at text =
    let one : suc at + length text ≡ suc (at + length text) = omega arith in rw one refl

pasted_append : (xs ys : List ℕ) (at : ℕ) (text : List ℕ)
    → pasted xs at (take (length xs - at) text)
    ++ pasted ys (at - length xs) (drop (length xs - at) text)
    ≡ pasted (xs ++ ys) at text
pasted_append [] ys at text =
    let here : at - 0 ≡ at = omega arith in
    let none : 0 - at ≡ 0 = omega arith in
    rw (here, none, pasted-nil [] at) refl
pasted_append (x ∷ xs) ys at [] =
    rw (
      take-nil {A = ℕ} (suc (length xs) - at),
      drop-nil {A = ℕ} (suc (length xs) - at),
      pasted-nil (x ∷ xs) at,
      pasted-nil ys (at - suc (length xs)),
      pasted-nil (x ∷ (xs ++ ys)) at,
    ) refl
pasted_append (x ∷ xs) ys zero (c ∷ text) =
    let left : suc (length xs) - 0 ≡ suc (length xs - 0) = omega arith in
    let here : 0 - suc (length xs) ≡ 0 - length xs = omega arith in
    rw (
      left,
      here,
      pasted_over_first x c xs (take (length xs - 0) text),
      pasted_over_first x c (xs ++ ys) text,
    )
    (ap (λ rest. c ∷ rest) (pasted_append xs ys 0 text))
pasted_append (x ∷ xs) ys (suc at) (c ∷ text) =
    let left : suc (length xs) - suc at ≡ length xs - at = omega arith in
    let here : suc at - suc (length xs) ≡ at - length xs = omega arith in
    rw (
      left,
      here,
      pasted_next x xs at (take (length xs - at) (c ∷ text)),
      pasted_next x (xs ++ ys) at (c ∷ text),
    )
    (ap (λ rest. x ∷ rest) (pasted_append xs ys at (c ∷ text)))

pub take_pasted : (n : ℕ) (xs : List ℕ) (at : ℕ) (text : List ℕ) → at + length text ≤ n → n ≤ length xs
    → take n (pasted xs at text) ≡ pasted (take n xs) at text
take_pasted n xs at [] within fits = rw (pasted-nil xs at, pasted-nil (take n xs) at) refl
take_pasted zero xs at (c ∷ text) within fits = absurd (omega (arith, within))
take_pasted (suc n) [] at (c ∷ text) within fits = absurd (omega (arith, fits))
take_pasted (suc n) (x ∷ xs) zero (c ∷ text) within fits =
    rw (pasted_over_first x c xs text, pasted_over_first x c (take n xs) text)
    (ap (λ rest. c ∷ rest) (take_pasted n xs 0 text (omega (arith, within)) (omega (arith, fits))))
take_pasted (suc n) (x ∷ xs) (suc at) (c ∷ text) within fits =
    rw (pasted_next x xs at (c ∷ text), pasted_next x (take n xs) at (c ∷ text))
    (ap (λ rest. x ∷ rest)
    (take_pasted n xs at (c ∷ text) (omega (arith, within)) (omega (arith, fits))))

-- what a write across both texts leaves
pub pasted_both : (used : ℕ) (xs ys : List ℕ) (at : ℕ) (text : List ℕ)
    → at + length text ≤ length xs + used → used ≤ length ys
    → pasted xs at (take (length xs - at) text)
    ++ take used (pasted ys (at - length xs) (drop (length xs - at) text))
    ≡ pasted (xs ++ take used ys) at text
pasted_both used xs ys at text within fits =
    ap (λ rest. pasted xs at (take (length xs - at) text) ++ rest)
    (take_pasted used ys (at - length xs) (drop (length xs - at) text)
    (rw (length-drop (length xs - at) text) (behind (length xs) at (length text) used within)) fits)
    ∙ pasted_append xs (take used ys) at text
  where
    behind : (long at len used : ℕ) → at + len ≤ long + used
        → at - long + (len - (long - at)) ≤ used
    behind long at len used within = omega (arith, within)
