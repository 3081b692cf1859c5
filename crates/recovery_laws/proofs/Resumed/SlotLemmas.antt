-- Where keyslots' areas lie that give the key of a side: behind both copies of the header, in front of the
-- blocks, apart from what guards zones, and each apart from all others.
use Rattle.std.proofs.Common.{◌≡◌, ◌∙◌, ◌+◌, ◌*◌, ◌/◌, ◌<◌, ◌≤◌, ◌∷◌, inl, inr, ℕ, Bool, true}
use Rattle.std.proofs.Common.{false, List, [], Option, None, Some, ap, arith, cond, subst, sym}
use Rattle.std.proofs.Math.Nat.{le_of_mul-le-mul_right, mul-le-mul_right}
use Rattle.std.proofs.lemmas.Bool.{cases_lt}
use Rattle.std.proofs.lemmas.List.{get_or_default}
use Rattle.std.proofs.lemmas.List.Elements.{All-contains, All-contains_itself}
use Rattle.std.proofs.lemmas.Nat.{div-add-mod'}
use Rattle.std.specs.List.{cons_option, filter}
use Rattle.std.specs.Prelude.{Contains, slice_index_or}
use Rattle.base_terms.specs.declared.disk_sizes.Sizes.{Sizes}
use Rattle.sector_disk.specs.DiskViews.Views.{IsOutside}
use Rattle.hotzone.proofs.SiteLemmas.{area-kept}
use Rattle.luks_meta.specs.declared.keyslot.Keyslot.{Keyslot}
use Rattle.luks_meta.specs.declared.meta.Parts.{Parts}
use Rattle.luks_rules.specs.Areas.{areas_begin, areas_end, areas_of, end_of}
use Rattle.luks_rules.specs.Overlaps.{TwoShare}
use Rattle.luks_rules.specs.Shapes.{progress_of}
use Rattle.luks_rules.specs.States.{IsSound}
use Rattle.luks_rules.specs.declared.areas.Area.{Area}
use Rattle.luks_rules.specs.declared.extents.Extent.{Extent}
use Rattle.luks_rules.specs.declared.shape.Progress.{Progress}
use Rattle.luks_slots.specs.Gaps.{IsApart}
use Rattle.image_laws.proofs.Started.GuardLemmas.{guards-spare}
use Rattle.image_laws.proofs.Started.KeyLemmas.{among-areas}
use Rattle.image_laws.specs.Started.Gaps.{key_area, key_areas}
use Rattle.hotzone.proofs.ZoneEvents.GroundLemmas.{IsKept, all-kept, converting}
use Rattle.hotzone.proofs.ZoneEvents.MemberLemmas.{has-either, has-head, has-rest}
use Rattle.hotzone.specs.ZoneEvents.Tellings.{digest_on, is_listed, side_alone}

-- ---- areas among others
more-area : (o : Option Area) (xs ys : List Area) (a : Area)
    → (Contains xs a → Contains ys a) → Contains (cons_option o xs) a
    → Contains (cons_option o ys) a
more-area None xs ys a later has = later has
more-area (Some x) xs ys a later has = elim (has-either x a xs has) [
  | inl is ↦ subst (λ (z : Area). Contains (x ∷ ys) z) is (has-head x ys)
  | inr rest ↦ has-rest x a ys (later rest)
]

one-more : (o : Option Area) (xs : List Area) (a : Area) → Contains xs a
    → Contains (cons_option o xs) a
one-more None xs a has = has
one-more (Some x) xs a has = has-rest x a xs has

-- the areas of some of the keyslots are areas of all
of-filtered : (test : ℕ × Keyslot → Bool) (slots : List (ℕ × Keyslot)) (a : Area)
    → Contains (key_areas (filter test slots)) a → Contains (key_areas slots) a
of-filtered test [] a has = has
of-filtered test (s ∷ slots) a has = go (test s) (of-filtered test slots a) has
  where
    go : (b : Bool)
        → (Contains (key_areas (filter test slots)) a → Contains (key_areas slots) a)
        → Contains (key_areas (cond b (s ∷ filter test slots) (filter test slots))) a
        → Contains (key_areas (s ∷ slots)) a
    go true later there =
        more-area (key_area s.1) (key_areas (filter test slots)) (key_areas slots) a later there
    go false later there = one-more (key_area s.1) (key_areas slots) a (later there)

pub of-side : (m : Parts) (e : Extent) (a : Area)
    → Contains (key_areas (side_alone m e).keyslots) a → Contains (key_areas m.keyslots) a
unfolding side_alone
of-side m e a has = of-filtered (λ slot. is_listed (digest_on m e) slot.0) m.keyslots a has

pub is-area : (slots : List (ℕ × Keyslot)) (a : Area) → Contains (key_areas slots) a
    → Contains (areas_of slots) a
is-area slots a has =
    All-contains (Contains (areas_of slots)) (key_areas slots) a
    (among-areas (Contains (areas_of slots)) slots (All-contains_itself (areas_of slots))) has

-- ---- an atom of one
module _ (m : Parts) (sizes : Sizes) (sound : IsSound m sizes) (a : Area)
    (has : Contains (areas_of m.keyslots) a) (k : ℕ) (below : k < a.size / sizes.atom) where
  abbrev atom : ℕ
  atom = sizes.atom

  abbrev place : ℕ
  place = a.offset / sizes.atom + k

  kept : IsKept m sizes a
  kept = All-contains (IsKept m sizes) (areas_of m.keyslots) a (all-kept m sizes sound) has

  pub place-from : a.offset ≤ place * sizes.atom
  place-from =
      let cut = div-add-mod' a.offset sizes.atom in
      let whole = kept.offset in
      let sum : place * sizes.atom ≡ a.offset / sizes.atom * sizes.atom + k * sizes.atom =
      omega arith in
      omega (arith, cut, whole, sum)

  pub place-to : place * sizes.atom + sizes.atom ≤ end_of a
  place-to =
      let cut = div-add-mod' a.offset sizes.atom in
      let whole = kept.offset in
      let sized = div-add-mod' a.size sizes.atom in
      let even = kept.size in
      let next : k + 1 ≤ a.size / sizes.atom = omega (arith, below) in
      let most = mul-le-mul_right sizes.atom next in
      let sum : place * sizes.atom ≡ a.offset / sizes.atom * sizes.atom + k * sizes.atom =
      omega arith in
      let more : (k + 1) * sizes.atom ≡ k * sizes.atom + sizes.atom = omega arith in
      omega (arith, cut, whole, sized, even, most, sum, more)

  -- it is behind the copies
  pub behind-copy : (start count : ℕ) → (start + count) * sizes.atom ≤ areas_begin m.config
      → IsOutside start count place
  behind-copy start count front =
      let from = place-from in
      let begin = kept.begin in
      inr (le_of_mul-le-mul_right (omega (arith, front, from, begin)) sound.atom)

  -- and in front of the blocks
  pub before-block : (other : ℕ) → areas_end m.config ≤ other * sizes.atom → other ≡ place → ⊥
  before-block other behind same =
      let to = place-to in
      let end = kept.end in
      let some = sound.atom in
      let here : other * sizes.atom ≡ place * sizes.atom = ap (λ n. n * sizes.atom) same in
      omega (arith, behind, to, end, some, here)

  -- another area that has it is the same
  pub same-area-of : (x : Area) → Contains (areas_of m.keyslots) x → (j : ℕ)
      → j < x.size / sizes.atom → place ≡ x.offset / sizes.atom + j → x ≡ a
  unfolding TwoShare
  same-area-of x there j inside same = elim (cases_lt has.0 there.0) [
    | inl less ↦ absurd (sound.apart (
      has.0,
      there.0,
      a,
      less,
      there.1,
      (place * sizes.atom, at-own a, at-other a),
    ))
    | inr from ↦ elim (cases_lt there.0 has.0) [
      | inl less ↦ absurd (sound.apart (
        there.0,
        has.0,
        a,
        less,
        has.1,
        (place * sizes.atom, at-other a, at-own a),
      ))
      | inr to ↦
          sym there.2
          ∙ ap (λ (i : ℕ). slice_index_or (areas_of m.keyslots) i x)
          (let e : there.0 ≡ has.0 = omega (arith, from, to) in e)
          ∙ get_or_default (areas_of m.keyslots) has.0 x a has.1 ∙ has.2
    ]
  ]
    where
      at-own : (d : Area) → (((slice_index_or (areas_of m.keyslots) has.0 d).offset
          ≤ place * sizes.atom)
          × (place * sizes.atom < end_of (slice_index_or (areas_of m.keyslots) has.0 d)))
      at-own d =
          let from = place-from in
          let to = place-to in
          let some = sound.atom in
          subst (λ (y : Area). (y.offset ≤ place * sizes.atom) × (place * sizes.atom < end_of y))
          (sym (get_or_default (areas_of m.keyslots) has.0 d a has.1 ∙ has.2))
          (from, omega (arith, to, some))

      at-other : (d : Area) → (((slice_index_or (areas_of m.keyslots) there.0 d).offset
          ≤ place * sizes.atom)
          × (place * sizes.atom < end_of (slice_index_or (areas_of m.keyslots) there.0 d)))
      at-other d =
          let is_kept = All-contains (IsKept m sizes) (areas_of m.keyslots) x
          (all-kept m sizes sound) there in
          let cut = div-add-mod' x.offset sizes.atom in
          let whole = is_kept.offset in
          let sized = div-add-mod' x.size sizes.atom in
          let even = is_kept.size in
          let next : j + 1 ≤ x.size / sizes.atom = omega (arith, inside) in
          let most = mul-le-mul_right sizes.atom next in
          let here : place * sizes.atom ≡ (x.offset / sizes.atom + j) * sizes.atom =
          ap (λ n. n * sizes.atom) same in
          let sum : (x.offset / sizes.atom + j) * sizes.atom
          ≡ x.offset / sizes.atom * sizes.atom + j * sizes.atom = omega arith in
          let more : (j + 1) * sizes.atom ≡ j * sizes.atom + sizes.atom = omega arith in
          let some = sound.atom in
          subst (λ (y : Area). (y.offset ≤ place * sizes.atom) × (place * sizes.atom < end_of y))
          (sym (get_or_default (areas_of m.keyslots) there.0 d x there.1 ∙ there.2)) (
            omega (arith, cut, whole, here, sum),
            omega (arith, cut, whole, sized, even, most, here, sum, more, some),
          )

-- ---- an atom from which a key is read isn't one that guards zones
module _ (m : Parts) (sizes : Sizes) (sound : IsSound m sizes) (p : Progress)
    (known : progress_of m sizes ≡ Some p) (a : Area) (has : Contains (key_areas m.keyslots) a)
    (k : ℕ) (below : k < a.size / sizes.atom) where
  abbrev at : ℕ
  at = a.offset / sizes.atom + k

  its-area : Contains (areas_of m.keyslots) a
  its-area = is-area m.keyslots a has

  -- not within it
  module _ (from : p.conversion.area.offset / sizes.atom ≤ at)
      (to : at < p.conversion.area.offset / sizes.atom + p.conversion.area.size / sizes.atom) where
    apart : IsApart (at * sizes.atom) sizes.atom a
    apart =
        let busy = converting m sizes p sound known in
        let is_kept = area-kept (IsKept m sizes) m.keyslots p.conversion []
        (all-kept m sizes sound) busy.1.keyslot in
        let cut = div-add-mod' p.conversion.area.offset sizes.atom in
        let whole = is_kept.offset in
        let sized = div-add-mod' p.conversion.area.size sizes.atom in
        let even = is_kept.size in
        let low = mul-le-mul_right sizes.atom from in
        let next : at + 1
        ≤ p.conversion.area.offset / sizes.atom + p.conversion.area.size / sizes.atom =
        omega (arith, to) in
        let high = mul-le-mul_right sizes.atom next in
        let more : (at + 1) * sizes.atom ≡ at * sizes.atom + sizes.atom = omega arith in
        let sum : (p.conversion.area.offset / sizes.atom + p.conversion.area.size / sizes.atom)
        * sizes.atom ≡ p.conversion.area.offset / sizes.atom * sizes.atom
        + p.conversion.area.size / sizes.atom * sizes.atom = omega arith in
        All-contains (IsApart (at * sizes.atom) sizes.atom) (key_areas m.keyslots) a
        (guards-spare m sizes (at * sizes.atom) sizes.atom sound (record {
          conversion = p.conversion;
          only = busy.1.keyslot;
          some = sound.atom;
          from = omega (arith, cut, whole, low);
          to = omega (arith, cut, whole, sized, even, high, more, sum);
        })).apart has

    never : ⊥
    never =
        let from_byte = place-from m sizes sound a its-area k below in
        let to_byte = place-to m sizes sound a its-area k below in
        let some = sound.atom in
        go apart from_byte to_byte some
      where
        go : IsApart (at * sizes.atom) sizes.atom a → a.offset ≤ at * sizes.atom
            → at * sizes.atom + sizes.atom ≤ end_of a → 0 < sizes.atom → ⊥
        go (inl none) low high some = omega (arith, none, low, high, some)
        go (inr (inl before)) low high some = omega (arith, before, low, high, some)
        go (inr (inr behind)) low high some = omega (arith, behind, low, some)

  pub outside-guard : IsOutside (p.conversion.area.offset / sizes.atom)
      (p.conversion.area.size / sizes.atom) at
  outside-guard = elim (cases_lt at (p.conversion.area.offset / sizes.atom)) [
    | inl before ↦ inl before
    | inr from ↦ elim (cases_lt at
        (p.conversion.area.offset / sizes.atom + p.conversion.area.size / sizes.atom)) [
          | inl to ↦ absurd (never from to)
          | inr past ↦ inr past
        ]
  ]
