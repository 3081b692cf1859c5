-- The keyslots with which a conversion begins: those that there were, that of the new key and that
-- of the conversion.
use Rattle.std.proofs.Common.{◌≡◌, ◌∙◌, ℕ, ◌+◌, ◌^◌, ◌<◌, ◌≤◌, ◌++◌, ◌||◌, cond, eqb, List, [], ◌∷◌}
use Rattle.std.proofs.Common.{Option, Some, None, Bool, true, false, refl, sym, ap, subst, arith}
use Rattle.std.proofs.Common.{inl, inr}
use Rattle.std.proofs.Math.Bool.{and_comm}
use Rattle.std.proofs.lemmas.Bool.{cases_Bool}
use Rattle.std.specs.List.{All, AllByRecursion, cons_option, list_any}
use Rattle.std.specs.Option.{IfSome}
use Rattle.json_members.specs.Entries.{AreEntries, IsRising}
use Rattle.luks_meta.specs.Keyslots.{IsKeyslot, IsLuks2}
use Rattle.luks_meta.specs.Reencrypts.{IsArea}
use Rattle.luks_meta.specs.declared.digest.Digest.{Digest}
use Rattle.luks_meta.specs.declared.keyslot.Keyslot.{Keyslot}
use Rattle.luks_meta.specs.declared.keyslot.Keyslot.TheVariants as keyslots
use Rattle.luks_meta.specs.declared.keyslot.Luks2.{Luks2}
use Rattle.luks_meta.specs.declared.keyslot.Origin.TheVariants.{Own}
use Rattle.luks_rules.specs.Areas.{area_of, areas_of, end_of}
use Rattle.luks_rules.specs.Conversions.{conversion_of, conversions_of}
use Rattle.luks_rules.specs.Overlaps.{TwoShare, overlap, shares}
use Rattle.luks_rules.specs.References.{is_there}
use Rattle.luks_rules.specs.declared.areas.Area.{Area}
use Rattle.luks_rules.specs.declared.conversions.Conversion.{Conversion}
use Rattle.luks_rules.proofs.ShareLemmas.{shared}
use Rattle.reenc_meta.specs.Starts.{conversion_for, conversion_slot, keyslots_by, lowest_free}
use Rattle.reenc_meta.specs.Starts.{lowest_from, with_new, with_slot}
use Rattle.reenc_meta.specs.Wishes.{key_area, new_areas}
use Rattle.reenc_meta.specs.declared.wish.Wish.{Wish}
use Rattle.reenc_meta.proofs.EachLemmas.{at-each, by-recursion}
use Rattle.reenc_meta.proofs.InsertLemmas.{each-put, is-free, new-there, put_from, rising-put}
use Rattle.reenc_meta.proofs.InsertLemmas.{there-put, with-new}
use Rattle.std.proofs.Common.{ne_eqb}
use Rattle.std.proofs.Common.{◌&&◌, nat_lt}

-- ---- one new entry
all_above : {X : Type 0} (es : List (ℕ × X)) → AllByRecursion (λ e. 0 ≤ e.0) es
all_above [] = tt
all_above (e ∷ es) = (omega arith, all_above es)

module _ {X : Type 0} (x : X) (es : List (ℕ × X)) where
  pub each-new : (P : ℕ × X → Type 0) → P (lowest_free es, x) → AllByRecursion P es
      → AllByRecursion P (with_new x es)
  each-new P new old =
      subst (AllByRecursion P) (sym (with-new x es)) (each-put P 0 x es new old)

  pub rising-new : lowest_free es < 2 ^ 64 → IsRising es → IsRising (with_new x es)
  rising-new few rising =
      subst (λ (fs : List (ℕ × X)). IsRising fs) (sym (with-new x es))
      (rising-put 0 x es few (all_above es) rising)

  pub there-new : (n : ℕ) → is_there es n ≡ true → is_there (with_new x es) n ≡ true
  there-new n there = ap (λ fs. is_there fs n) (with-new x es) ∙ there-put n 0 x es there

  pub own-new : is_there (with_new x es) (lowest_free es) ≡ true
  own-new = ap (λ fs. is_there fs (lowest_free es)) (with-new x es) ∙ new-there 0 x es

pub free-new : {X : Type 0} (es : List (ℕ × X)) → IsRising es → is_there es (lowest_free es) ≡ false
free-new es rising = is-free 0 es (all_above es) rising

-- ---- the keyslot of the new key
module _ (key : Option (Luks2 × Digest)) (slots : List (ℕ × Keyslot)) where
  pub each-slot : (P : ℕ × Keyslot → Type 0)
      → IfSome key (λ k. P (lowest_free slots, keyslots.Luks2 k.0)) → AllByRecursion P slots
      → AllByRecursion P (with_slot key slots)
  each-slot P new old = go key new
    where
      go : (o : Option (Luks2 × Digest)) → IfSome o (λ k. P (lowest_free slots, keyslots.Luks2 k.0))
          → AllByRecursion P (with_slot o slots)
      go None new = old
      go (Some k) new = each-new (keyslots.Luks2 k.0) slots P new old

  pub rising-slot : lowest_free slots < 2 ^ 64 → IsRising slots → IsRising (with_slot key slots)
  rising-slot few rising = go key
    where
      go : (o : Option (Luks2 × Digest)) → IsRising (with_slot o slots)
      go None = rising
      go (Some k) = rising-new (keyslots.Luks2 k.0) slots few rising

  pub there-slot : (n : ℕ) → is_there slots n ≡ true → is_there (with_slot key slots) n ≡ true
  there-slot n there = go key
    where
      go : (o : Option (Luks2 × Digest)) → is_there (with_slot o slots) n ≡ true
      go None = there
      go (Some k) = there-new (keyslots.Luks2 k.0) slots n there

  pub own-slot : IfSome key (λ k. is_there (with_slot key slots) (lowest_free slots) ≡ true)
  own-slot = go key
    where
      go : (o : Option (Luks2 × Digest))
          → IfSome o (λ k. is_there (with_slot o slots) (lowest_free slots) ≡ true)
      go None = tt
      go (Some k) = own-new (keyslots.Luks2 k.0) slots

-- ---- the areas of them all
-- two areas may change places
shares-both : (a b : Area) → shares a b ≡ shares b a
shares-both a b =
    λ i. and_comm (nat_lt a.offset (end_of b)) (nat_lt b.offset (end_of a)) i
    && and_comm (nat_lt a.offset (end_of a)) (nat_lt b.offset (end_of b)) i

swapped : (a b : Area) (all : List Area) → overlap (a ∷ b ∷ all) ≡ overlap (b ∷ a ∷ all)
unfolding overlap
swapped a b all =
    ap (λ s. (s || list_any (shares a) all) || (list_any (shares b) all || overlap all))
    (shares-both a b)
    ∙ go (shares b a) (list_any (shares a) all) (list_any (shares b) all) (overlap all)
  where
    go : (x y z t : Bool) → ((x || y) || (z || t)) ≡ ((x || z) || (y || t))
    go true y z t = refl
    go false true true t = refl
    go false true false t = refl
    go false false true t = refl
    go false false false t = refl

module _ (x : Keyslot) (a : Area) (is : area_of x ≡ Some a) where
  either_any : (test : Area → Bool) (o : Option Area) (all rest : List Area)
      → list_any test all ≡ list_any test (a ∷ rest)
      → list_any test (cons_option o all) ≡ list_any test (a ∷ cons_option o rest)
  either_any test None all rest later = later
  either_any test (Some b) all rest later =
      ap (λ t. test b || t) later ∙ go (test b) (test a) (list_any test rest)
    where
      go : (s t u : Bool) → (s || (t || u)) ≡ (t || (s || u))
      go true true u = refl
      go true false u = refl
      go false t u = refl

  either_overlap : (o : Option Area) (all rest : List Area)
      → ((test : Area → Bool) → list_any test all ≡ list_any test (a ∷ rest))
      → overlap all ≡ overlap (a ∷ rest)
      → overlap (cons_option o all) ≡ overlap (a ∷ cons_option o rest)
  unfolding overlap
  either_overlap None all rest any later = later
  either_overlap (Some b) all rest any later =
      (λ i. any (shares b) i || later i) ∙ swapped b a rest

  any_put : (test : Area → Bool) (k : ℕ) (slots : List (ℕ × Keyslot))
      → list_any test (areas_of (put_from k x slots)) ≡ list_any test (a ∷ areas_of slots)
  unfolding areas_of
  any_put test k [] = ap (λ o. list_any test (cons_option o [])) is
  any_put test k (s ∷ slots) = go (eqb s.0 k) (any_put test (k + 1) slots)
    where
      go : (b : Bool)
          → list_any test (areas_of (put_from (k + 1) x slots)) ≡ list_any test (a ∷ areas_of slots)
          → list_any test (areas_of (cond b (s ∷ put_from (k + 1) x slots) ((k, x) ∷ s ∷ slots)))
          ≡ list_any test (a ∷ areas_of (s ∷ slots))
      go true later =
          either_any test (area_of s.1) (areas_of (put_from (k + 1) x slots)) (areas_of slots) later
      go false later = ap (λ o. list_any test (cons_option o (areas_of (s ∷ slots)))) is

  overlap_put : (k : ℕ) (slots : List (ℕ × Keyslot))
      → overlap (areas_of (put_from k x slots)) ≡ overlap (a ∷ areas_of slots)
  unfolding areas_of
  overlap_put k [] = ap (λ o. overlap (cons_option o [])) is
  overlap_put k (s ∷ slots) = go (eqb s.0 k) (overlap_put (k + 1) slots)
    where
      go : (b : Bool)
          → overlap (areas_of (put_from (k + 1) x slots)) ≡ overlap (a ∷ areas_of slots)
          → overlap (areas_of (cond b (s ∷ put_from (k + 1) x slots) ((k, x) ∷ s ∷ slots)))
          ≡ overlap (a ∷ areas_of (s ∷ slots))
      go true later =
          either_overlap (area_of s.1) (areas_of (put_from (k + 1) x slots)) (areas_of slots)
          (λ test. any_put test (k + 1) slots) later
      go false later = ap (λ o. overlap (cons_option o (areas_of (s ∷ slots)))) is

  each_put : (P : Area → Type 0) → P a → (k : ℕ) (slots : List (ℕ × Keyslot))
      → AllByRecursion P (areas_of slots) → AllByRecursion P (areas_of (put_from k x slots))
  unfolding areas_of
  each_put P new k [] old =
      subst (λ o. AllByRecursion P (cons_option o [])) (sym is) (new, tt)
  each_put P new k (s ∷ slots) old = go (eqb s.0 k) (each_put P new (k + 1) slots)
    where
      joined : (o : Option Area) → AllByRecursion P (cons_option o (areas_of slots))
          → (AllByRecursion P (areas_of slots)
          → AllByRecursion P (areas_of (put_from (k + 1) x slots)))
          → AllByRecursion P (cons_option o (areas_of (put_from (k + 1) x slots)))
      joined None h later = later h
      joined (Some b) h later = (h.0, later h.1)

      go : (b : Bool)
          → (AllByRecursion P (areas_of slots)
          → AllByRecursion P (areas_of (put_from (k + 1) x slots)))
          → AllByRecursion P
          (areas_of (cond b (s ∷ put_from (k + 1) x slots) ((k, x) ∷ s ∷ slots)))
      go true later = joined (area_of s.1) old later
      go false later =
          subst (λ o. AllByRecursion P (cons_option o (areas_of (s ∷ slots)))) (sym is) (new, old)

  -- of the entries with the new one
  pub overlap-new : (slots : List (ℕ × Keyslot))
      → overlap (areas_of (with_new x slots)) ≡ overlap (a ∷ areas_of slots)
  overlap-new slots = ap (λ ss. overlap (areas_of ss)) (with-new x slots) ∙ overlap_put 0 slots

  pub any-new : (test : Area → Bool) (slots : List (ℕ × Keyslot))
      → list_any test (areas_of (with_new x slots)) ≡ list_any test (a ∷ areas_of slots)
  any-new test slots =
      ap (λ ss. list_any test (areas_of ss)) (with-new x slots) ∙ any_put test 0 slots

  pub areas-new : (P : Area → Type 0) (slots : List (ℕ × Keyslot)) → P a
      → AllByRecursion P (areas_of slots) → AllByRecursion P (areas_of (with_new x slots))
  areas-new P slots new old =
      subst (λ (ss : List (ℕ × Keyslot)). AllByRecursion P (areas_of ss)) (sym (with-new x slots))
      (each_put P new 0 slots old)

-- ---- all keyslots
abbrev conversion_area : Wish → Area
conversion_area w = record { offset = w.area.offset; size = w.area.size }

abbrev luks2_area : Luks2 × Digest → Area
luks2_area k = record { offset = k.0.area.offset; size = k.0.area.size }

module _ (w : Wish) (slots : List (ℕ × Keyslot)) where
  pub start-areas : (P : Area → Type 0) → All P (new_areas w) → All P (areas_of slots)
      → All P (areas_of (keyslots_by w slots))
  start-areas P new old =
      at-each P (areas_of (keyslots_by w slots))
      (areas-new (conversion_slot w) (conversion_area w) refl P (with_slot w.key slots)
      (last w.key (by-recursion P (new_areas w) new))
      (first w.key (by-recursion P (new_areas w) new)))
    where
      last : (o : Option (Luks2 × Digest))
          → AllByRecursion P (key_area o ++ conversion_area w ∷ []) → P (conversion_area w)
      last None h = h.0
      last (Some k) h = h.1.0

      first : (o : Option (Luks2 × Digest))
          → AllByRecursion P (key_area o ++ conversion_area w ∷ [])
          → AllByRecursion P (areas_of (with_slot o slots))
      first None h = by-recursion P (areas_of slots) old
      first (Some k) h =
          areas-new (keyslots.Luks2 k.0) (luks2_area k) refl P slots h.0
          (by-recursion P (areas_of slots) old)

  none_share : (TwoShare (new_areas w ++ areas_of slots) → ⊥)
      → overlap (new_areas w ++ areas_of slots) ≡ false
  none_share apart = elim (cases_Bool (overlap (new_areas w ++ areas_of slots))) [
    | inl e ↦ absurd (apart (shared (new_areas w ++ areas_of slots) e))
    | inr e ↦ e
  ]

  all_areas : (o : Option (Luks2 × Digest))
      → overlap (conversion_area w ∷ areas_of (with_slot o slots))
      ≡ overlap ((key_area o ++ conversion_area w ∷ []) ++ areas_of slots)
  unfolding overlap
  all_areas None = refl
  all_areas (Some k) =
      (λ i. any-new (keyslots.Luks2 k.0) (luks2_area k) refl (shares (conversion_area w)) slots i
      || overlap-new (keyslots.Luks2 k.0) (luks2_area k) refl slots i)
      ∙ swapped (conversion_area w) (luks2_area k) (areas_of slots)

  pub start-apart : (TwoShare (new_areas w ++ areas_of slots) → ⊥)
      → overlap (areas_of (keyslots_by w slots)) ≡ false
  start-apart apart =
      overlap-new (conversion_slot w) (conversion_area w) refl (with_slot w.key slots)
      ∙ all_areas w.key ∙ none_share apart

  -- ---- one is of a conversion
  none_kept : (ss : List (ℕ × Keyslot)) → conversions_of ss ≡ []
      → AllByRecursion (λ s. conversion_of s ≡ None) ss
  unfolding conversions_of
  none_kept [] none = tt
  none_kept (s ∷ ss) none = go (conversion_of s) none (none_kept ss)
    where
      go : (o : Option Conversion) → cons_option o (conversions_of ss) ≡ []
          → (conversions_of ss ≡ [] → AllByRecursion (λ s. conversion_of s ≡ None) ss)
          → (o ≡ None) × AllByRecursion (λ s. conversion_of s ≡ None) ss
      go None h later = (refl, later h)
      go (Some c) h later = cc

  one_kept : (x : Keyslot) (c : Conversion) (k : ℕ) (ss : List (ℕ × Keyslot))
      → conversion_of (lowest_from k ss, x) ≡ Some c
      → AllByRecursion (λ s. conversion_of s ≡ None) ss
      → conversions_of (put_from k x ss) ≡ c ∷ []
  unfolding conversions_of lowest_from
  one_kept x c k [] is none = ap (λ o. cons_option o []) is
  one_kept x c k (s ∷ ss) is none =
      go (eqb s.0 k) is (λ here. one_kept x c (k + 1) ss here none.1)
    where
      all_none : (ts : List (ℕ × Keyslot)) → AllByRecursion (λ s. conversion_of s ≡ None) ts
          → conversions_of ts ≡ []
      all_none [] h = refl
      all_none (t ∷ ts) h = ap (λ o. cons_option o (conversions_of ts)) h.0 ∙ all_none ts h.1

      go : (b : Bool) → conversion_of (cond b (lowest_from (k + 1) ss) k, x) ≡ Some c
          → (conversion_of (lowest_from (k + 1) ss, x) ≡ Some c
          → conversions_of (put_from (k + 1) x ss) ≡ c ∷ [])
          → conversions_of (cond b (s ∷ put_from (k + 1) x ss) ((k, x) ∷ s ∷ ss)) ≡ c ∷ []
      go true here later =
          ap (λ o. cons_option o (conversions_of (put_from (k + 1) x ss))) none.0 ∙ later here
      go false here later =
          ap (λ o. cons_option o (conversions_of (s ∷ ss))) here
          ∙ ap (λ cs. c ∷ cs) (all_none (s ∷ ss) none)

  key_none : (o : Option (Luks2 × Digest))
      → IfSome o (λ k. conversion_of (lowest_free slots, keyslots.Luks2 k.0) ≡ None)
  unfolding conversion_of
  key_none None = tt
  key_none (Some k) = refl

  pub start-conversion : conversions_of slots ≡ []
      → conversions_of (keyslots_by w slots) ≡ conversion_for w slots ∷ []
  unfolding conversion_of
  start-conversion none =
      ap conversions_of (with-new (conversion_slot w) (with_slot w.key slots))
      ∙ one_kept (conversion_slot w) (conversion_for w slots) 0 (with_slot w.key slots) refl
      (each-slot w.key slots (λ s. conversion_of s ≡ None) (key_none w.key)
      (none_kept slots none))

  -- ---- they are there, and the conversion's is a number of its own
  pub start-there : (n : ℕ) → is_there slots n ≡ true → is_there (keyslots_by w slots) n ≡ true
  start-there n there =
      there-new (conversion_slot w) (with_slot w.key slots) n (there-slot w.key slots n there)

  pub start-own : IfSome w.key (λ k. is_there (keyslots_by w slots) (lowest_free slots) ≡ true)
  start-own = go w.key (own-slot w.key slots)
    where
      go : (o : Option (Luks2 × Digest))
          → IfSome o (λ k. is_there (with_slot w.key slots) (lowest_free slots) ≡ true)
          → IfSome o (λ k. is_there (keyslots_by w slots) (lowest_free slots) ≡ true)
      go None h = tt
      go (Some k) h =
          there-new (conversion_slot w) (with_slot w.key slots) (lowest_free slots) h

  -- a number that is one of the keyslots isn't the conversion's
  pub start-other : (n : ℕ) → lowest_free slots < 2 ^ 64 → IsRising slots
      → is_there (with_slot w.key slots) n ≡ true
      → eqb n (lowest_free (with_slot w.key slots)) ≡ false
  start-other n few rising there =
      ne_eqb n (lowest_free (with_slot w.key slots)) (λ same.
      let free = free-new (with_slot w.key slots) (rising-slot w.key slots few rising) in
      let bad : true ≡ false = sym there ∙ ap (is_there (with_slot w.key slots)) same ∙ free in cc)

  -- ---- the text
  pub start-slots : lowest_free slots < 2 ^ 64 → lowest_free (with_slot w.key slots) < 2 ^ 64
      → IfSome w.key (λ k. IsLuks2 k.0) → IsArea w.area → AreEntries (IsKeyslot Own) slots
      → AreEntries (IsKeyslot Own) (keyslots_by w slots)
  start-slots few more key area is = record {
    rising = rising-new (conversion_slot w) (with_slot w.key slots) more
        (rising-slot w.key slots few is.rising);
    each = each-new (conversion_slot w) (with_slot w.key slots) (λ s. IsKeyslot Own s.1) (
      refl,
      record {
        area = area;
        lacks = (refl, (refl, (refl, (refl, (refl, tt)))));
        plain = record { whole = refl; flat = omega arith };
      },
    )
        (each-slot w.key slots (λ s. IsKeyslot Own s.1) key is.each);
  }
