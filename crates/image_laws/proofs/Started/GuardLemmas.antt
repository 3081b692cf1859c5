-- The area that guards a conversion's zones shares no byte with one that has a key.
use Rattle.std.proofs.Common.{◌≡◌, inl, inr, ℕ, ◌+◌, ◌<◌, ◌≤◌, ◌&&◌, ◌||◌, nat_lt, List, [], ◌∷◌}
use Rattle.std.proofs.Common.{Bool, true, false, Option, Some, None, refl, sym, ◌∙◌, ap, subst}
use Rattle.std.proofs.Common.{arith}
use Rattle.std.proofs.lemmas.Bool.{ltb-false}
use Rattle.std.proofs.lemmas.List.Elements.{All-cons, All-head, All-nil, All-weaker}
use Rattle.std.specs.List.{All, cons_option, list_any}
use Rattle.luks_meta.specs.declared.keyslot.Keyslot.{Keyslot}
use Rattle.luks_meta.specs.declared.keyslot.Keyslot.TheVariants as keyslots
use Rattle.luks_rules.proofs.ShareLemmas.{shared}
use Rattle.luks_rules.specs.Areas.{area_of, areas_end, areas_of, end_of}
use Rattle.luks_rules.specs.Conversions.{conversion_by, conversion_of, conversions_of}
use Rattle.luks_rules.specs.Overlaps.{overlap, shares}
use Rattle.luks_rules.specs.Plain.{IsWithin}
use Rattle.luks_rules.specs.declared.areas.Area.{Area}
use Rattle.luks_rules.specs.declared.conversions.Conversion.{Conversion}
use Rattle.luks_slots.proofs.ReadyLemmas.{skipped}
use Rattle.luks_slots.specs.Gaps.{IsApart}
use Rattle.image_laws.specs.Started.Gaps.{GuardsSpareKeys, key_areas}

or-parts : (a b : Bool) → (a || b) ≡ false → (a ≡ false) × (b ≡ false)
or-parts true b is = absurd cc
or-parts false b is = (refl, is)

-- two areas that share no byte, of which the one has the run
module _ (offset size : ℕ) (g : Area) (some : 0 < size) (from : g.offset ≤ offset)
    (to : offset + size ≤ end_of g) where
  by-tests : (a : Area) (p q r s : Bool) → nat_lt a.offset (end_of g) ≡ p
      → nat_lt g.offset (end_of a) ≡ q → nat_lt a.offset (end_of a) ≡ r
      → nat_lt g.offset (end_of g) ≡ s → ((p && q) && (r && s)) ≡ false
      → IsApart offset size a
  by-tests a false q r s first second third fourth is =
      let le : end_of g ≤ a.offset = ltb-false a.offset (end_of g) first in
      inr (inr (omega (arith, le, to)))
  by-tests a true false r s first second third fourth is =
      let le : end_of a ≤ g.offset = ltb-false g.offset (end_of a) second in
      inr (inl (omega (arith, le, from)))
  by-tests a true true false s first second third fourth is =
      let le : end_of a ≤ a.offset = ltb-false a.offset (end_of a) third in
      inl (omega (arith, le))
  by-tests a true true true false first second third fourth is =
      let le : end_of g ≤ g.offset = ltb-false g.offset (end_of g) fourth in
      absurd (omega (arith, le, some, from, to))
  by-tests a true true true true first second third fourth is = absurd cc

  apart-behind : (a : Area) → shares a g ≡ false → IsApart offset size a
  apart-behind a is =
      by-tests a (nat_lt a.offset (end_of g)) (nat_lt g.offset (end_of a))
      (nat_lt a.offset (end_of a)) (nat_lt g.offset (end_of g)) refl refl refl refl is

  swap : (p q r s : Bool) → ((p && q) && (r && s)) ≡ false → ((q && p) && (s && r)) ≡ false
  swap true true true true is = is
  swap true true true false is = refl
  swap true true false true is = refl
  swap true true false false is = refl
  swap true false r s is = refl
  swap false true r s is = refl
  swap false false r s is = refl

  apart-before : (a : Area) → shares g a ≡ false → IsApart offset size a
  apart-before a is =
      by-tests a (nat_lt a.offset (end_of g)) (nat_lt g.offset (end_of a))
      (nat_lt a.offset (end_of a)) (nat_lt g.offset (end_of g)) refl refl refl refl
      (swap (nat_lt g.offset (end_of a)) (nat_lt a.offset (end_of g))
      (nat_lt g.offset (end_of g)) (nat_lt a.offset (end_of a)) is)

-- ---- along the keyslots
none-of : (test : Area → Bool) (o : Option Area) (areas : List Area)
    → list_any test (cons_option o areas) ≡ false → list_any test areas ≡ false
none-of test None areas is = is
none-of test (Some a) areas is = (or-parts (test a) (list_any test areas) is).1

no-overlap : (o : Option Area) (areas : List Area) → overlap (cons_option o areas) ≡ false
    → overlap areas ≡ false
unfolding overlap
no-overlap None areas is = is
no-overlap (Some a) areas is = (or-parts (list_any (shares a) areas) (overlap areas) is).1

-- the area of the conversion is one of them
guard-test : (test : Area → Bool) (slots : List (ℕ × Keyslot)) (c : Conversion)
    → conversions_of slots ≡ c ∷ [] → list_any test (areas_of slots) ≡ false
    → test c.area ≡ false
unfolding conversions_of conversion_of areas_of
guard-test test [] c is none = absurd cc
guard-test test ((n, keyslots.Luks2 s) ∷ slots) c is none =
    guard-test test slots c is (none-of test (area_of (keyslots.Luks2 s)) (areas_of slots) none)
guard-test test ((n, keyslots.Reencrypt s) ∷ slots) c is none =
    let a : Area = record { offset = s.area.offset; size = s.area.size } in
    let same : conversion_by n s ≡ c = cc in
    ap (λ (x : Conversion). test x.area) (sym same)
    ∙ (or-parts (test a) (list_any test (areas_of slots)) none).0
guard-test test ((n, keyslots.Unknown s) ∷ slots) c is none =
    guard-test test slots c is (none-of test (area_of (keyslots.Unknown s)) (areas_of slots) none)

module _ (offset size : ℕ) (c : Conversion) (some : 0 < size) (from : c.area.offset ≤ offset)
    (to : offset + size ≤ end_of c.area) where
  -- all that come behind it
  behind-guard : (slots : List (ℕ × Keyslot)) → list_any (shares c.area) (areas_of slots) ≡ false
      → All (IsApart offset size) (key_areas slots)
  unfolding areas_of
  behind-guard [] none = All-nil (IsApart offset size)
  behind-guard ((n, keyslots.Luks2 s) ∷ slots) none =
      let a : Area = record { offset = s.area.offset; size = s.area.size } in
      let split = or-parts (shares c.area a) (list_any (shares c.area) (areas_of slots)) none in
      All-cons (IsApart offset size) a (key_areas slots)
      (apart-before offset size c.area some from to a split.0) (behind-guard slots split.1)
  behind-guard ((n, keyslots.Reencrypt s) ∷ slots) none =
      behind-guard slots
      (none-of (shares c.area) (area_of (keyslots.Reencrypt s)) (areas_of slots) none)
  behind-guard ((n, keyslots.Unknown s) ∷ slots) none =
      behind-guard slots
      (none-of (shares c.area) (area_of (keyslots.Unknown s)) (areas_of slots) none)

  pub beside-guard : (slots : List (ℕ × Keyslot)) → conversions_of slots ≡ c ∷ []
      → overlap (areas_of slots) ≡ false → All (IsApart offset size) (key_areas slots)
  unfolding conversions_of conversion_of areas_of overlap
  beside-guard [] is none = absurd cc
  beside-guard ((n, keyslots.Luks2 s) ∷ slots) is none =
      let a : Area = record { offset = s.area.offset; size = s.area.size } in
      let split = or-parts (list_any (shares a) (areas_of slots)) (overlap (areas_of slots)) none in
      All-cons (IsApart offset size) a (key_areas slots)
      (apart-behind offset size c.area some from to a
      (guard-test (shares a) slots c is split.0)) (beside-guard slots is split.1)
  beside-guard ((n, keyslots.Reencrypt s) ∷ slots) is none =
      let a : Area = record { offset = s.area.offset; size = s.area.size } in
      let same : conversion_by n s ≡ c = cc in
      let split = or-parts (list_any (shares a) (areas_of slots)) (overlap (areas_of slots)) none in
      behind-guard slots
      (ap (λ (x : Conversion). list_any (shares x.area) (areas_of slots)) (sym same) ∙ split.0)
  beside-guard ((n, keyslots.Unknown s) ∷ slots) is none =
      beside-guard slots is (no-overlap (area_of (keyslots.Unknown s)) (areas_of slots) none)

-- ---- within the keyslots area
guard-ends : (end : ℕ) (slots : List (ℕ × Keyslot)) (c : Conversion)
    → conversions_of slots ≡ c ∷ [] → All (λ (a : Area). end_of a ≤ end) (areas_of slots)
    → end_of c.area ≤ end
unfolding conversions_of conversion_of areas_of
guard-ends end [] c is all = absurd cc
guard-ends end ((n, keyslots.Luks2 s) ∷ slots) c is all =
    guard-ends end slots c is
    (skipped (λ (a : Area). end_of a ≤ end) (area_of (keyslots.Luks2 s)) (areas_of slots) all)
guard-ends end ((n, keyslots.Reencrypt s) ∷ slots) c is all =
    let a : Area = record { offset = s.area.offset; size = s.area.size } in
    let same : conversion_by n s ≡ c = cc in
    subst (λ (x : Conversion). end_of x.area ≤ end) same
    (All-head (λ (b : Area). end_of b ≤ end) a (areas_of slots) all)
guard-ends end ((n, keyslots.Unknown s) ∷ slots) c is all =
    guard-ends end slots c is
    (skipped (λ (a : Area). end_of a ≤ end) (area_of (keyslots.Unknown s)) (areas_of slots) all)

pub guards-spare : GuardsSpareKeys
guards-spare m sizes offset size sound guard =
    let c = guard.conversion in
    let end = guard-ends (areas_end m.config) m.keyslots c guard.only
    (All-weaker (IsWithin m.config) (λ (a : Area). end_of a ≤ areas_end m.config)
    (λ a lies. lies.1) (areas_of m.keyslots) sound.within.areas) in
    let to = guard.to in
    record {
      before = omega (arith, end, to);
      apart = beside-guard offset size c guard.some guard.from guard.to m.keyslots guard.only
          (none (overlap (areas_of m.keyslots)) refl);
    }
  where
    none : (b : Bool) → overlap (areas_of m.keyslots) ≡ b → overlap (areas_of m.keyslots) ≡ false
    none true is = absurd (sound.apart (shared (areas_of m.keyslots) is))
    none false is = is
