-- Metadata that break no rule, in plain words.
use Rattle.std.proofs.Common.{◌≡◌, ◌∙◌, ℕ, ◌<◌, ◌++◌, not, nat_lt, eqb, List, [], ◌∷◌, map, Option}
use Rattle.std.proofs.Common.{Some, None, Bool, true, false, cond, refl, sym, ap, subst, arith}
use Rattle.std.proofs.lemmas.Bool.{ltb-false, or_parts, not-false, both_ways}
use Rattle.std.specs.List.{All, AllByRecursion, list_any}
use Rattle.std.specs.Option.{is_some, option_map, option_and_then}
use Rattle.base_terms.specs.declared.disk_sizes.Sizes.{Sizes}
use Rattle.json_members.specs.Entries.{IsRising}
use Rattle.luks_meta.specs.Configs.{is_foreign, mandatory}
use Rattle.luks_meta.specs.declared.digest.Digest.{Digest}
use Rattle.luks_meta.specs.declared.meta.Parts.{Parts}
use Rattle.luks_meta.specs.declared.segment.Segment.{Segment}
use Rattle.luks_rules.specs.Areas.{areas_of, breaks_bounds}
use Rattle.luks_rules.specs.Conversions.{conversions_of, only}
use Rattle.luks_rules.specs.Extents.{extent_of}
use Rattle.luks_rules.specs.Foreign.{first_foreign}
use Rattle.luks_rules.specs.Idles.{idle_from, idle_of}
use Rattle.luks_rules.specs.Multiples.{breaks_multiples, breaks_sectors, breaks_tweaks}
use Rattle.luks_rules.specs.Overlaps.{overlap}
use Rattle.luks_rules.specs.Plain.{HoldVolume}
use Rattle.luks_rules.specs.References.{breaks_references, lists}
use Rattle.luks_rules.specs.Rooms.{breaks_capacity, breaks_shift, capacity}
use Rattle.luks_rules.specs.Rules.{broken, first_or, first_of, first_fault, rules_of_places}
use Rattle.luks_rules.specs.Rules.{rules_of_sizes, rules_of_conversion}
use Rattle.luks_rules.specs.Segments.{breaks_segments, in_progress}
use Rattle.luks_rules.specs.Shapes.{breaks_shape, is_any, progress_by, progress_from, progress_of}
use Rattle.luks_rules.specs.Shapes.{progress_under}
use Rattle.luks_rules.specs.States.{IsConverting, IsPlaced, IsSound, IsState}
use Rattle.luks_rules.specs.declared.conversions.Conversion.{Conversion}
use Rattle.luks_rules.specs.declared.extents.Extent.{Extent}
use Rattle.luks_rules.specs.declared.fault.RuleFault.{RuleFault}
use Rattle.luks_rules.specs.declared.fault.RuleFault.TheVariants as faults
use Rattle.luks_rules.specs.declared.shape.Progress.{Progress}
use Rattle.luks_rules.proofs.ChoiceLemmas.{find_any}
use Rattle.luks_rules.proofs.IdleLemmas.{idle_is}
use Rattle.luks_rules.proofs.PlacedLemmas.{placed, last_two}
use Rattle.luks_rules.proofs.PlainLemmas.{each, within, referred, held, sectors, atoms, numbers}
use Rattle.luks_rules.proofs.PlaceLemmas.{on_disk}
use Rattle.luks_rules.proofs.RuleLemmas.{by_groups}
use Rattle.luks_rules.proofs.ShapeLemmas.{shaped, some_of}
use Rattle.luks_rules.proofs.ShareLemmas.{overlaps}
use Rattle.luks_rules.proofs.ShiftLemmas.{has-shift}

-- ---- no fault is found
none_parts : (a b : Option RuleFault) → first_or a b ≡ None → (a ≡ None) × (b ≡ None)
none_parts None b h = (refl, h)
none_parts (Some f) b h = cc

unbroken : (f : RuleFault) (b : Bool) → broken f b ≡ None → b ≡ false
unbroken f true h = cc
unbroken f false h = refl

unmapped : (o : Option (List ℕ)) → option_map faults.Foreign o ≡ None → o ≡ None
unmapped None h = refl
unmapped (Some text) h = cc

owned : (texts : List (List ℕ)) → first_foreign texts ≡ None
    → All (λ text. is_foreign text ≡ false) texts
owned texts h =
    each is_foreign (λ text. is_foreign text ≡ false) texts (λ text e. e)
    (sym (find_any is_foreign texts) ∙ ap is_some h)

-- ---- all of it
nothing : (cs : List Conversion) → is_any cs ≡ false → cs ≡ []
nothing [] h = refl
nothing (c ∷ cs) h = cc

idle_by : (m : Parts) (sizes : Sizes) → breaks_shape m (progress_of m sizes) ≡ false
    → in_progress m.config ≡ false → (conversions_of m.keyslots ≡ []) × (progress_of m sizes ≡ None)
unfolding breaks_shape progress_of
idle_by m sizes h e = (
  nothing (conversions_of m.keyslots)
      (subst (λ b. cond b (not (is_some (progress_of m sizes))) (is_any (conversions_of m.keyslots))
      ≡ false) e h),
  ap (λ b. cond b (option_and_then (progress_under sizes.atom m) (only (conversions_of m.keyslots)))
      None) e,
)

not_idle : (m : Parts) (sizes : Sizes) → in_progress m.config ≡ true → idle_of m sizes ≡ None
unfolding idle_of
not_idle m sizes e = ap (λ b. cond b None (idle_from sizes m.digests m.segments)) e

there : (m : Parts) (o : Option Progress) → breaks_shape m o ≡ false → in_progress m.config ≡ true
    → (p : Progress) × (o ≡ Some p)
unfolding breaks_shape
there m o h e =
    some_of o
    (not-false _
    (subst (λ b. cond b (not (is_some o)) (is_any (conversions_of m.keyslots)) ≡ false) e h))

some_room : (n : ℕ) → eqb n 0 ≡ false → 0 < n
some_room n h = grind arith

busy_by : (m : Parts) (sizes : Sizes) → breaks_shape m (progress_of m sizes) ≡ false
    → breaks_capacity sizes.atom (progress_of m sizes) ≡ false
    → breaks_shift (progress_of m sizes) ≡ false
    → HoldVolume (in_progress m.config) m sizes
    → AllByRecursion (IsPlaced m sizes) (map (extent_of m.digests) m.segments)
    → in_progress m.config ≡ true
    → (p : Progress) × (progress_of m sizes ≡ Some p)
    × ((live : List Extent) × IsConverting m sizes p live)
busy_by m sizes h short far hold placed e =
    let t = there m (progress_of m sizes) h e in
    let s = shaped m sizes t.0 e t.1 in
    let room =
    or_parts (eqb (capacity sizes.atom t.0) 0) (nat_lt (capacity sizes.atom t.0) t.0.plan.zone)
    (subst (λ o. breaks_capacity sizes.atom o ≡ false) t.1 short) in
    let wholes =
    last_two (IsPlaced m sizes) s.0 t.0.old t.0.new
    (subst (AllByRecursion (IsPlaced m sizes)) s.1.segments placed) in (
      t.0,
      t.1,
      (
        s.0,
        record {
          keyslot = s.1.keyslot;
          alone = s.1.alone;
          segments = s.1.segments;
          state = s.1.state;
          old = wholes.0;
          new = wholes.1;
          room = some_room _ room.0;
          zone = ltb-false _ _ room.1;
          shift = has-shift t.0 (subst (λ o. breaks_shift o ≡ false) t.1 far);
          places = on_disk m sizes t.0 s.0 hold.on_disk s.1.segments s.1.state;
        },
      ),
    )

pub sound : (m : Parts) (sizes : Sizes) → 0 < sizes.atom → IsRising m.digests
    → first_fault m sizes ≡ None → IsSound m sizes
sound m sizes some rising none =
    let all =
    none_parts (first_or (first_of (rules_of_places m sizes)) (first_of (rules_of_sizes m sizes)))
    (first_of (rules_of_conversion m sizes)) (sym (by_groups m sizes) ∙ none) in
    let two =
    none_parts (first_of (rules_of_places m sizes)) (first_of (rules_of_sizes m sizes)) all.0 in
    let p0 =
    none_parts (option_map faults.Foreign (first_foreign (mandatory m.config.requirements))) _
    two.0 in
    let p1 = none_parts (broken faults.AreaBounds (breaks_bounds m sizes)) _ p0.1 in
    let p2 = none_parts (broken faults.AreaOverlap (overlap (areas_of m.keyslots))) _ p1.1 in
    let p3 = none_parts (broken faults.DigestRef (breaks_references m)) _ p2.1 in
    let s0 = none_parts (broken faults.SegmentGap (breaks_segments m sizes)) _ two.1 in
    let s1 = none_parts (broken faults.SectorSize (breaks_sectors m sizes)) _ s0.1 in
    let s2 = none_parts (broken faults.NotAtomMultiple (breaks_multiples m sizes)) _ s1.1 in
    let s3 = none_parts (broken faults.TweakRange (breaks_tweaks m sizes)) _ s2.1 in
    let c0 =
    none_parts (broken faults.ReencryptShape (breaks_shape m (progress_of m sizes))) _ all.1 in
    let c1 =
    none_parts (broken faults.ResilTooSmall (breaks_capacity sizes.atom (progress_of m sizes))) _
    c0.1 in
    let c2 = none_parts (broken faults.ShiftRoom (breaks_shift (progress_of m sizes))) _ c1.1 in
    let shape = unbroken faults.ReencryptShape (breaks_shape m (progress_of m sizes)) c0.0 in
    let inside = within m sizes (unbroken faults.AreaBounds _ p1.0) in
    let refers = referred m (unbroken faults.DigestRef (breaks_references m) p3.0) in
    let hold =
    held (in_progress m.config) m sizes
    (unbroken faults.SegmentGap (breaks_segments m sizes) s0.0) in
    let whole = sectors m sizes (unbroken faults.SectorSize (breaks_sectors m sizes) s1.0) in
    let even = atoms m sizes (unbroken faults.NotAtomMultiple (breaks_multiples m sizes) s2.0) in
    let units = numbers m sizes (unbroken faults.TweakRange (breaks_tweaks m sizes) s3.0) in
    let places = placed m sizes rising inside refers hold.on_disk whole even units in
    record {
      atom = some;
      own = owned (mandatory m.config.requirements)
          (unmapped (first_foreign (mandatory m.config.requirements)) p0.0);
      within = inside;
      apart = λ two. both_ways _ (unbroken faults.AreaOverlap (overlap (areas_of m.keyslots)) p2.0)
          (overlaps (areas_of m.keyslots) two);
      digests = refers;
      segments = hold;
      sectors = whole;
      atoms = even;
      numbers = units;
      idle = λ e.
          (let none =
          idle_by m sizes shape e in (none.1, idle_is m sizes some places none.0 hold e));
      busy = λ e. (
        not_idle m sizes e,
        busy_by m sizes shape
            (unbroken faults.ResilTooSmall (breaks_capacity sizes.atom (progress_of m sizes)) c1.0)
            (unbroken faults.ShiftRoom (breaks_shift (progress_of m sizes)) c2.0) hold places e,
      );
    }
