-- What holds of some of a list, those that pass a test.
use Rattle.std.proofs.Common.{◌≡◌, ◌∙◌, ℕ, suc, zero, ◌<◌, ◌++◌, ◌||◌, not, eqb, cond, List, []}
use Rattle.std.proofs.Common.{◌∷◌, get_or, length, Option, Some, None, Bool, true, false, refl, sym}
use Rattle.std.proofs.Common.{ap, arith}
use Rattle.std.proofs.lemmas.Bool.{eq-eqb, eqb-true, ne_eqb, or_from, or_parts}
use Rattle.std.specs.List.{All, AllByRecursion, cons_option, filter, list_any}
use Rattle.json_members.specs.Entries.{IsRising}
use Rattle.luks_meta.specs.declared.keyslot.Keyslot.{Keyslot}
use Rattle.luks_meta.specs.declared.keyslot.Keyslot.TheVariants as keyslots
use Rattle.luks_rules.specs.Areas.{area_of, areas_of}
use Rattle.luks_rules.specs.Conversions.{conversion_of, conversions_of, kept_by}
use Rattle.luks_rules.specs.Overlaps.{overlap, shares}
use Rattle.luks_rules.specs.References.{is_there, lists}
use Rattle.luks_rules.specs.declared.areas.Area.{Area}

-- ---- each of them
pub each-passing : {X : Type 0} (test : X → Bool) (P : X → Type 0) (xs : List X)
    → AllByRecursion (λ x. test x ≡ true → P x) xs → AllByRecursion P (filter test xs)
each-passing test P [] h = tt
each-passing {X} test P (x ∷ xs) h = go (test x) refl (each-passing test P xs h.1)
  where
    go : (b : Bool) → test x ≡ b → AllByRecursion P (filter test xs)
        → AllByRecursion P (cond b (x ∷ filter test xs) (filter test xs))
    go true e later = (h.0 e, later)
    go false e later = later

pub each-filtered : {X : Type 0} (test : X → Bool) (P : X → Type 0) (xs : List X)
    → AllByRecursion P xs → AllByRecursion P (filter test xs)
each-filtered test P [] h = tt
each-filtered {X} test P (x ∷ xs) h = go (test x) (each-filtered test P xs h.1)
  where
    go : (b : Bool) → AllByRecursion P (filter test xs)
        → AllByRecursion P (cond b (x ∷ filter test xs) (filter test xs))
    go true later = (h.0, later)
    go false later = later

pub filtered-rising : {X : Type 0} (test : ℕ × X → Bool) (xs : List (ℕ × X)) → IsRising xs
    → IsRising (filter test xs)
filtered-rising test [] h = tt
filtered-rising {X} test (x ∷ xs) h = go (test x) (filtered-rising test xs h.2)
  where
    go : (b : Bool) → IsRising (filter test xs)
        → IsRising (cond b (x ∷ filter test xs) (filter test xs))
    go true later = (h.0, each-filtered test (λ y. x.0 < y.0) xs h.1, later)
    go false later = later

pub filtered-none : {X : Type 0} (test : X → Bool) (xs : List X)
    → AllByRecursion (λ x. test x ≡ false) xs → filter test xs ≡ []
filtered-none test [] h = refl
filtered-none test (x ∷ xs) h =
    ap (λ b. cond b (x ∷ filter test xs) (filter test xs)) h.0 ∙ filtered-none test xs h.1

-- an entry stays that passes by its number
pub filtered-there : {X : Type 0} (test : ℕ → Bool) (n : ℕ) (xs : List (ℕ × X))
    → test n ≡ true → is_there xs n ≡ true → is_there (filter (λ x. test x.0) xs) n ≡ true
filtered-there test n [] pass h = h
filtered-there {X} test n (x ∷ xs) pass h =
    go (eqb x.0 n) refl (test x.0) refl (filtered-there test n xs pass)
  where
    go : (b : Bool) → eqb x.0 n ≡ b → (c : Bool) → test x.0 ≡ c
        → (is_there xs n ≡ true → is_there (filter (λ x. test x.0) xs) n ≡ true)
        → is_there (cond c (x ∷ filter (λ x. test x.0) xs) (filter (λ x. test x.0) xs)) n ≡ true
    go true e true t later = ap (λ b. b || is_there (filter (λ x. test x.0) xs) n) e
    go true e false t later =
        let same : test n ≡ false = ap test (sym (eqb-true x.0 n e)) ∙ t in
        let bad : false ≡ true = sym same ∙ pass in cc
    go false e true t later =
        ap (λ b. b || is_there (filter (λ x. test x.0) xs) n) e
        ∙ later (sym (ap (λ b. b || is_there xs n) e) ∙ h)
    go false e false t later = later (sym (ap (λ b. b || is_there xs n) e) ∙ h)

last_above : {X : Type 0} (front : List (ℕ × X)) (a b : ℕ × X) (n : ℕ)
    → AllByRecursion (λ s. n < s.0) (front ++ a ∷ b ∷ []) → n < b.0
last_above [] a b n h = h.1.0
last_above (x ∷ front) a b n h = last_above front a b n h.1

-- the last but one and the last of a list by rising numbers: the last alone has its number
pub last-alone : {X : Type 0} (front : List (ℕ × X)) (a b : ℕ × X)
    → IsRising (front ++ a ∷ b ∷ []) → filter (λ s. eqb s.0 b.0) (front ++ a ∷ b ∷ []) ≡ b ∷ []
last-alone {X} [] a b h =
    let below : a.0 < b.0 = h.1.0 in
    ap (λ t. cond t (a ∷ cond (eqb b.0 b.0) (b ∷ []) []) (cond (eqb b.0 b.0) (b ∷ []) []))
    (ne_eqb a.0 b.0 (λ same. absurd (omega (arith, below, same))))
    ∙ ap (λ t. cond t (b ∷ []) []) (eq-eqb b.0 b.0 refl)
last-alone (x ∷ front) a b h =
    let below : x.0 < b.0 = last_above front a b x.0 h.1 in
    ap (λ t. cond t (x ∷ filter (λ s. eqb s.0 b.0) (front ++ a ∷ b ∷ []))
    (filter (λ s. eqb s.0 b.0) (front ++ a ∷ b ∷ [])))
    (ne_eqb x.0 b.0 (λ same. absurd (omega (arith, below, same))))
    ∙ last-alone front a b h.2

-- ---- numbers that a list has
pub self-listed : (numbers : List ℕ) → All (λ n. lists numbers n ≡ true) numbers
self-listed [] k d below = absurd (omega (arith, below))
self-listed (n ∷ ns) zero d below = ap (λ b. b || lists ns n) (eq-eqb n n refl)
self-listed (n ∷ ns) (suc k) d below =
    go (eqb n (get_or ns k d)) (self-listed ns k d (omega (arith, below)))
  where
    go : (b : Bool) → lists ns (get_or ns k d) ≡ true → (b || lists ns (get_or ns k d)) ≡ true
    go true h = refl
    go false h = h

pub any-at : {X : Type 0} (test : X → Bool) (xs : List X) (k : ℕ) (d : X) → k < length xs
    → test (get_or xs k d) ≡ true → list_any test xs ≡ true
any-at test [] k d below h = absurd (omega (arith, below))
any-at test (x ∷ xs) zero d below h = ap (λ b. b || list_any test xs) h
any-at {X} test (x ∷ xs) (suc k) d below h =
    go (test x) (any-at test xs k d (omega (arith, below)) h)
  where
    go : (b : Bool) → list_any test xs ≡ true → (b || list_any test xs) ≡ true
    go true later = refl
    go false later = later

-- ---- the areas of some keyslots
any_tail : (test : Area → Bool) (o : Option Area) (all : List Area)
    → list_any test (cons_option o all) ≡ false → list_any test all ≡ false
any_tail test None all h = h
any_tail test (Some a) all h = (or_parts (test a) (list_any test all) h).1

any_cons : (test : Area → Bool) (o : Option Area) (all rest : List Area)
    → list_any test (cons_option o all) ≡ false → list_any test rest ≡ false
    → list_any test (cons_option o rest) ≡ false
any_cons test None all rest h later = later
any_cons test (Some a) all rest h later =
    or_from (test a) (list_any test rest) (or_parts (test a) (list_any test all) h).0 later

any_area : (test : ℕ × Keyslot → Bool) (a : Area) (slots : List (ℕ × Keyslot))
    → list_any (shares a) (areas_of slots) ≡ false
    → list_any (shares a) (areas_of (filter test slots)) ≡ false
unfolding areas_of
any_area test a [] h = h
any_area test a (s ∷ slots) h =
    go (test s) (any_area test a slots (any_tail (shares a) (area_of s.1) (areas_of slots) h))
  where
    go : (b : Bool) → list_any (shares a) (areas_of (filter test slots)) ≡ false
        → list_any (shares a) (areas_of (cond b (s ∷ filter test slots) (filter test slots)))
        ≡ false
    go true later =
        any_cons (shares a) (area_of s.1) (areas_of slots) (areas_of (filter test slots)) h later
    go false later = later

overlap_tail : (o : Option Area) (all : List Area) → overlap (cons_option o all) ≡ false
    → overlap all ≡ false
unfolding overlap
overlap_tail None all h = h
overlap_tail (Some a) all h = (or_parts (list_any (shares a) all) (overlap all) h).1

pub apart-filtered : (test : ℕ × Keyslot → Bool) (slots : List (ℕ × Keyslot))
    → overlap (areas_of slots) ≡ false → overlap (areas_of (filter test slots)) ≡ false
unfolding areas_of overlap
apart-filtered test [] h = h
apart-filtered test (s ∷ slots) h =
    go (test s) (any_area test)
    (apart-filtered test slots (overlap_tail (area_of s.1) (areas_of slots) h))
  where
    joined : (o : Option Area) → overlap (cons_option o (areas_of slots)) ≡ false
        → ((a : Area) (slots : List (ℕ × Keyslot)) → list_any (shares a) (areas_of slots) ≡ false
        → list_any (shares a) (areas_of (filter test slots)) ≡ false)
        → overlap (areas_of (filter test slots)) ≡ false
        → overlap (cons_option o (areas_of (filter test slots))) ≡ false
    joined None h any later = later
    joined (Some a) h any later =
        or_from (list_any (shares a) (areas_of (filter test slots)))
        (overlap (areas_of (filter test slots)))
        (any a slots
        (or_parts (list_any (shares a) (areas_of slots)) (overlap (areas_of slots)) h).0)
        later

    go : (b : Bool)
        → ((a : Area) (slots : List (ℕ × Keyslot)) → list_any (shares a) (areas_of slots) ≡ false
        → list_any (shares a) (areas_of (filter test slots)) ≡ false)
        → overlap (areas_of (filter test slots)) ≡ false
        → overlap (areas_of (cond b (s ∷ filter test slots) (filter test slots))) ≡ false
    go true any later = joined (area_of s.1) h any later
    go false any later = later

each_cons : (P : Area → Type 0) (o : Option Area) (all rest : List Area)
    → AllByRecursion P (cons_option o all) → AllByRecursion P rest
    → AllByRecursion P (cons_option o rest)
each_cons P None all rest h later = later
each_cons P (Some a) all rest h later = (h.0, later)

each_tail : (P : Area → Type 0) (o : Option Area) (all : List Area)
    → AllByRecursion P (cons_option o all) → AllByRecursion P all
each_tail P None all h = h
each_tail P (Some a) all h = h.1

pub each-area : (P : Area → Type 0) (test : ℕ × Keyslot → Bool) (slots : List (ℕ × Keyslot))
    → AllByRecursion P (areas_of slots) → AllByRecursion P (areas_of (filter test slots))
unfolding areas_of
each-area P test [] h = h
each-area P test (s ∷ slots) h =
    go (test s) (each-area P test slots (each_tail P (area_of s.1) (areas_of slots) h))
  where
    go : (b : Bool) → AllByRecursion P (areas_of (filter test slots))
        → AllByRecursion P (areas_of (cond b (s ∷ filter test slots) (filter test slots)))
    go true later =
        each_cons P (area_of s.1) (areas_of slots) (areas_of (filter test slots)) h later
    go false later = later

-- ---- without the keyslots of conversions there is none
pub none-converting : (dropped : ℕ → Bool) (slots : List (ℕ × Keyslot))
    → AllByRecursion (λ c. dropped c.keyslot ≡ true) (conversions_of slots)
    → conversions_of (filter (λ slot. not (dropped slot.0)) slots) ≡ []
unfolding conversions_of conversion_of
none-converting dropped [] h = refl
none-converting dropped (s ∷ slots) h = go s.0 s.1 h (none-converting dropped slots)
  where
    either : (b : Bool) (n : ℕ) (slot : Keyslot) → kept_by n slot ≡ None
        → conversions_of (filter (λ slot. not (dropped slot.0)) slots) ≡ []
        → conversions_of (cond b ((n, slot) ∷ filter (λ slot. not (dropped slot.0)) slots)
        (filter (λ slot. not (dropped slot.0)) slots)) ≡ []
    either true n slot none later =
        ap (λ o. cons_option o (conversions_of (filter (λ slot. not (dropped slot.0)) slots))) none
        ∙ later
    either false n slot none later = later

    go : (n : ℕ) (slot : Keyslot)
        → AllByRecursion (λ c. dropped c.keyslot ≡ true)
        (cons_option (kept_by n slot) (conversions_of slots))
        → (AllByRecursion (λ c. dropped c.keyslot ≡ true) (conversions_of slots)
        → conversions_of (filter (λ slot. not (dropped slot.0)) slots) ≡ [])
        → conversions_of (cond (not (dropped n))
        ((n, slot) ∷ filter (λ slot. not (dropped slot.0)) slots)
        (filter (λ slot. not (dropped slot.0)) slots)) ≡ []
    go n (keyslots.Luks2 x) h later =
        either (not (dropped n)) n (keyslots.Luks2 x) refl (later h)
    go n (keyslots.Unknown x) h later =
        either (not (dropped n)) n (keyslots.Unknown x) refl (later h)
    go n (keyslots.Reencrypt x) h later =
        ap (λ b. conversions_of (cond (not b)
        ((n, keyslots.Reencrypt x) ∷ filter (λ slot. not (dropped slot.0)) slots)
        (filter (λ slot. not (dropped slot.0)) slots))) h.0
        ∙ later h.1
