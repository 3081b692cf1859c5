-- Lemmas on the table of locks: who has an entry, who holds, and that holders don't conflict.
use Rattle.std.proofs.Common.{All, Bool, List, MatchOption, None, Option, Some, [], arith, false}
use Rattle.std.proofs.Common.{find, inl, inr, length, add-one, one-add, refl, suc, true, ℕ, ◌++◌}
use Rattle.std.proofs.Common.{◌∙◌, ◌∷◌, ◌≡◌, ◌≢◌}
pub use Rattle.std.proofs.lemmas.Bool.{cases_Bool as either, cases_eq as same_or_not}
use Rattle.std.proofs.lemmas.List.Elements.{All-cons, All-head, All-nil, All-tail}
use Rattle.std.specs.List.{after_first, before_first}
use Rattle.range_lock.specs.Locks.{Conflicts, IsStanding, IsStandingOf, is_of, without}
use Rattle.range_lock.specs.declared.Entry.{Entry}
use Rattle.range_lock.specs.declared.Standing.TheVariants.{Held}

pub is_of-own : (lane : ℕ) (e : Entry) → e.lane ≡ lane → is_of lane e ≡ true
is_of-own lane e is = grind (arith, is)

pub is_of-other : (lane : ℕ) (e : Entry) → e.lane ≢ lane → is_of lane e ≡ false
is_of-other lane e other = grind arith

pub lane_of : (lane : ℕ) (e : Entry) → is_of lane e ≡ true → e.lane ≡ lane
lane_of lane e is = grind (arith, is)

-- the table by its first entry
module _ {X : Type 0} (p : X → Bool) (x : X) (xs : List X) where
  before-there : p x ≡ false → before_first p (x ∷ xs) ≡ x ∷ before_first p xs
  before-there is = simp (is, one-add)

  after-here : p x ≡ true → after_first p (x ∷ xs) ≡ xs
  after-here is = rw is refl

  after-there : p x ≡ false → after_first p (x ∷ xs) ≡ after_first p xs
  after-there is = simp (is, one-add, add-one)

pub conflicts-back : (e f : Entry) → Conflicts e f → Conflicts f e
conflicts-back e f ((k, both), kinds) = (
  (k, (both.1, both.0)),
  elim kinds [ inl first ↦ inr first | inr second ↦ inl second ],
)

-- a table with one more entry behind all others
pub find-more : (p : Entry → Bool) (xs : List Entry) (e : Entry) → p e ≡ false
    → find p (xs ++ e ∷ []) ≡ find p xs
find-more p [] e other = grind arith
find-more p (x ∷ xs) e other = grind (arith, find-more p xs e other)

pub find-last : (p : Entry → Bool) (xs : List Entry) (e : Entry) → find p xs ≡ None → p e ≡ true
    → find p (xs ++ e ∷ []) ≡ Some e
find-last p [] e none own = grind arith
find-last p (x ∷ xs) e none own = grind (arith, find-last p xs e)

before-more : (p : Entry → Bool) (xs : List Entry) (e first : Entry) → find p xs ≡ Some first
    → before_first p (xs ++ e ∷ []) ≡ before_first p xs
before-more p [] e first found = absurd (cc)
before-more p (x ∷ xs) e first found = elim (either (p x)) [
  | inl is ↦ rw is refl
  | inr is ↦ simp (is, one-add, before-more p xs e first (rw is at found))
]

pub before-last : (p : Entry → Bool) (xs : List Entry) (e : Entry) → find p xs ≡ None → p e ≡ true
    → before_first p (xs ++ e ∷ []) ≡ xs
before-last p [] e none own = rw own refl
before-last p (x ∷ xs) e none own = elim (either (p x)) [
  | inl is ↦ absurd (let some = rw is at none in cc)
  | inr is ↦ simp (is, one-add, before-last p xs e (rw is at none) own)
]

-- behind the first entry of a lane
pub after-none : (p : Entry → Bool) (xs : List Entry) → find p xs ≡ None
    → find p (after_first p xs) ≡ None
after-none p [] none = refl
after-none p (x ∷ xs) none = grind (arith, after-none p xs)

pub after-last : (p : Entry → Bool) (xs : List Entry) (e : Entry) → find p xs ≡ None → p e ≡ true
    → find p (after_first p (xs ++ e ∷ [])) ≡ None
after-last p [] e none own = grind arith
after-last p (x ∷ xs) e none own = grind (arith, after-last p xs e)

pub after-more : (p : Entry → Bool) (xs : List Entry) (e : Entry) → p e ≡ false
    → find p (after_first p xs) ≡ None → find p (after_first p (xs ++ e ∷ [])) ≡ None
after-more p [] e other none = grind arith
after-more p (x ∷ xs) e other none = elim (either (p x)) [
  | inl is ↦ rw is (find-more p xs e other ∙ rw is at none)
  | inr is ↦ rw (after-there p x (xs ++ e ∷ []) is)
      (after-more p xs e other (rw (after-there p x xs is) at none))
]

-- a table without a lane's entry
without-here : (lane : ℕ) (x : Entry) (xs : List Entry) → is_of lane x ≡ true
    → without lane (x ∷ xs) ≡ xs
without-here lane x xs is = rw is refl

without-there : (lane : ℕ) (x : Entry) (xs : List Entry) → is_of lane x ≡ false
    → without lane (x ∷ xs) ≡ x ∷ without lane xs
without-there lane x xs is = simp (is, one-add, add-one)

-- the entry of one lane isn't another's
apart : (lane other : ℕ) (x : Entry) → lane ≢ other → is_of lane x ≡ true → is_of other x ≡ false
apart lane other x differ is = grind arith

pub find-without : (lane other : ℕ) (xs : List Entry) → lane ≢ other
    → find (is_of other) (without lane xs) ≡ find (is_of other) xs
find-without lane other [] differ = refl
find-without lane other (x ∷ xs) differ = grind (arith, find-without lane other xs)

pub find-left : (lane : ℕ) (xs : List Entry) → find (is_of lane) (after_first (is_of lane) xs)
    ≡ None → find (is_of lane) (without lane xs) ≡ None
find-left lane [] once = refl
find-left lane (x ∷ xs) once = grind (arith, find-left lane xs)

pub after-without : (lane other : ℕ) (xs : List Entry) → lane ≢ other
    → find (is_of other) (after_first (is_of other) xs) ≡ None →
    find (is_of other) (after_first (is_of other) (without lane xs)) ≡ None
after-without lane other [] differ once = refl
after-without lane other (x ∷ xs) differ once = elim (either (is_of lane x)) [
  | inl is ↦ rw (without-here lane x xs is)
      (rw (after-there (is_of other) x xs (apart lane other x differ is)) at once)
  | inr is ↦ rw (without-there lane x xs is) (elim (either (is_of other x)) [
    | inl own ↦ rw own (find-without lane other xs differ ∙ rw own at once)
    | inr another ↦ rw (after-there (is_of other) x (without lane xs) another)
        (after-without lane other xs differ (rw (after-there (is_of other) x xs another) at once))
  ])
]

pub length-without : (lane : ℕ) (xs : List Entry) (e : Entry) → find (is_of lane) xs ≡ Some e
    → length xs ≡ suc (length (without lane xs))
length-without lane [] e found = absurd (cc)
length-without lane (x ∷ xs) e found = grind (arith, length-without lane xs e)

-- a lane holds its range where no entry before its own conflicts
pub record HoldsBy (lane : ℕ) (entries : List Entry) : Type 0 where
  pub entry : Entry
  pub is : find (is_of lane) entries ≡ Some entry
  pub free : All (λ e. Conflicts e entry → ⊥) (before_first (is_of lane) entries)

pub holds-by : (lane : ℕ) (entries : List Entry) → IsStandingOf lane entries Held
    → HoldsBy lane entries
holds-by lane entries = held_by (find (is_of lane) entries) refl
  where
    held_by : (o : Option Entry) → find (is_of lane) entries ≡ o →
        MatchOption o ⊥ (λ entry. IsStanding (before_first (is_of lane) entries) entry Held)
        → HoldsBy lane entries
    held_by None is stands = absurd stands
    held_by (Some entry) is stands = record { entry = entry; is = is; free = stands }

holds-from : (lane : ℕ) (entries : List Entry) → HoldsBy lane entries
    → IsStandingOf lane entries Held
holds-from lane entries by = rw by.is by.free

-- what holds goes on to hold when another enters behind all, or leaves
pub holds-more : (lane : ℕ) (entries : List Entry) (e : Entry) → e.lane ≢ lane
    → IsStandingOf lane entries Held → IsStandingOf lane (entries ++ e ∷ []) Held
holds-more lane entries e other stands =
    let by = holds-by lane entries stands in
    holds-from lane (entries ++ e ∷ []) (record {
      entry = by.entry;
      is = find-more (is_of lane) entries e (is_of-other lane e other) ∙ by.is;
      free = rw (before-more (is_of lane) entries e by.entry by.is) by.free;
    })

before-without : (P : Entry → Type 0) (lane other : ℕ) (xs : List Entry) → lane ≢ other
    → All P (before_first (is_of other) xs) → All P (before_first (is_of other) (without lane xs))
before-without P lane other [] differ all = all
before-without P lane other (x ∷ xs) differ all = elim (either (is_of lane x)) [
  | inl is ↦ rw (without-here lane x xs is) (All-tail P x (before_first (is_of other) xs)
      (rw (before-there (is_of other) x xs (apart lane other x differ is)) at all))
  | inr is ↦ rw (without-there lane x xs is) (elim (either (is_of other x)) [
    | inl own ↦ rw own (All-nil P)
    | inr another ↦
        let both = rw (before-there (is_of other) x xs another) at all in
        rw (before-there (is_of other) x (without lane xs) another) (All-cons P x (before_first
        (is_of other) (without lane xs)) (All-head P x (before_first (is_of other) xs) both)
        (before-without P lane other xs differ (All-tail P x (before_first (is_of other) xs) both)))
  ])
]

pub holds-without : (lane other : ℕ) (entries : List Entry) → lane ≢ other
    → IsStandingOf other entries Held → IsStandingOf other (without lane entries) Held
holds-without lane other entries differ stands =
    let by = holds-by other entries stands in
    holds-from other (without lane entries) (record {
      entry = by.entry;
      is = find-without lane other entries differ ∙ by.is;
      free = before-without (λ x. Conflicts x by.entry → ⊥) lane other entries differ by.free;
    })

-- two lanes that hold don't conflict
apart_by : (one other : ℕ) (e f : Entry) (xs : List Entry) → one ≢ other
    → find (is_of one) xs ≡ Some e → find (is_of other) xs ≡ Some f →
    All (λ x. Conflicts x e → ⊥) (before_first (is_of one) xs)
    → All (λ x. Conflicts x f → ⊥) (before_first (is_of other) xs) → Conflicts e f → ⊥
apart_by one other e f [] differ is_e is_f free_e free_f both = absurd (cc)
apart_by one other e f (x ∷ xs) differ is_e is_f free_e free_f both =
    let P : Entry → Entry → Type 0 = λ z y. Conflicts y z → ⊥ in
    elim (either (is_of one x)) [
      | inl own ↦
          let same : e ≡ x = grind arith in
          let all = rw (before-there (is_of other) x xs (apart one other x differ own)) at free_f in
          All-head (P f) x (before_first (is_of other) xs) all (rw same at both)
      | inr not_own ↦ let all_e = rw (before-there (is_of one) x xs not_own) at free_e in
          elim (either (is_of other x)) [
            | inl others ↦
                let same : f ≡ x = grind arith in
                All-head (P e) x (before_first (is_of one) xs) all_e
                (conflicts-back e x (rw same at both))
            | inr not_others ↦
                let all_f = rw (before-there (is_of other) x xs not_others) at free_f in
                apart_by one other e f xs differ (rw not_own at is_e) (rw not_others at is_f)
                (All-tail (P e) x (before_first (is_of one) xs) all_e)
                (All-tail (P f) x (before_first (is_of other) xs) all_f) both
          ]
    ]

pub holders-apart : (one other : ℕ) (e f : Entry) (entries : List Entry) → one ≢ other
    → find (is_of one) entries ≡ Some e → find (is_of other) entries ≡ Some f →
    IsStandingOf one entries Held → IsStandingOf other entries Held → Conflicts e f → ⊥
holders-apart one other e f entries differ is_e is_f one_holds other_holds both =
    let by_one = holds-by one entries one_holds in
    let by_other = holds-by other entries other_holds in
    let same_e : by_one.entry ≡ e = cc in let same_f : by_other.entry ≡ f = cc in
    apart_by one other e f entries differ is_e is_f
    (rw same_e at by_one.free) (rw same_f at by_other.free) both

-- where the lane has no entry all stay
pub without-none : (lane : ℕ) (xs : List Entry) → find (is_of lane) xs ≡ None
    → without lane xs ≡ xs
without-none lane [] none = refl
without-none lane (x ∷ xs) none = grind (arith, without-none lane xs)
