-- Metadata that are sound break no rule.
use Rattle.std.proofs.Common.{◌≡◌, ◌∙◌, ◌<◌, ◌≤◌, ℕ, not, nat_lt, eqb, List, [], ◌∷◌, Option, Some}
use Rattle.std.proofs.Common.{None, Bool, true, false, cond, refl, sym, ap, subst, inl, inr, arith}
use Rattle.std.proofs.lemmas.Bool.{cases_Bool, or_from, ne_eqb, le-ltb}
use Rattle.std.proofs.lemmas.List.Folds.{list_any_none}
use Rattle.std.specs.List.{All, find}
use Rattle.std.specs.Option.{is_some, option_map}
use Rattle.base_terms.specs.declared.disk_sizes.Sizes.{Sizes}
use Rattle.luks_meta.specs.Configs.{is_foreign, mandatory}
use Rattle.luks_meta.specs.declared.meta.Parts.{Parts}
use Rattle.luks_rules.specs.Areas.{areas_of, breaks_bounds}
use Rattle.luks_rules.specs.Conversions.{conversions_of}
use Rattle.luks_rules.specs.Foreign.{first_foreign}
use Rattle.luks_rules.specs.Multiples.{breaks_multiples, breaks_sectors, breaks_tweaks}
use Rattle.luks_rules.specs.Overlaps.{overlap, TwoShare}
use Rattle.luks_rules.specs.References.{breaks_references}
use Rattle.luks_rules.specs.Rooms.{breaks_capacity, breaks_shift, capacity}
use Rattle.luks_rules.specs.Rules.{broken, first_or, first_of, first_fault, rules_of_places}
use Rattle.luks_rules.specs.Rules.{rules_of_sizes, rules_of_conversion}
use Rattle.luks_rules.specs.Segments.{breaks_segments, in_progress}
use Rattle.luks_rules.specs.Shapes.{breaks_shape, is_any, progress_of}
use Rattle.luks_rules.specs.States.{IsSound}
use Rattle.luks_rules.specs.declared.fault.RuleFault.{RuleFault}
use Rattle.luks_rules.specs.declared.fault.RuleFault.TheVariants as faults
use Rattle.luks_rules.specs.declared.shape.Progress.{Progress}
use Rattle.luks_rules.proofs.ChoiceLemmas.{find_any}
use Rattle.luks_rules.proofs.PlainLemmas.{from_within, from_referred, from_held, from_sectors}
use Rattle.luks_rules.proofs.PlainLemmas.{from_atoms, from_numbers}
use Rattle.luks_rules.proofs.RuleLemmas.{by_groups}
use Rattle.luks_rules.proofs.ShareLemmas.{shared}
use Rattle.luks_rules.proofs.ShiftLemmas.{from-shift}

-- ---- no rule is broken
none_or : (a b : Option RuleFault) → a ≡ None → b ≡ None → first_or a b ≡ None
none_or None b e f = f
none_or (Some x) b e f = cc

kept : (f : RuleFault) (b : Bool) (later : Option RuleFault) → b ≡ false → later ≡ None
    → first_or (broken f b) later ≡ None
kept f b later e h = none_or (broken f b) later (ap (broken f) e) h

-- ---- whose header it is, and shared bytes
not_some : (o : Option (List ℕ)) → is_some o ≡ false → o ≡ None
not_some None h = refl
not_some (Some x) h = cc

own : (texts : List (List ℕ)) → All (λ text. is_foreign text ≡ false) texts
    → option_map faults.Foreign (first_foreign texts) ≡ None
own texts h =
    ap (option_map faults.Foreign)
    (not_some (first_foreign texts) (find_any is_foreign texts ∙ list_any_none is_foreign texts h))

apart : (m : Parts) → (TwoShare (areas_of m.keyslots) → ⊥) → overlap (areas_of m.keyslots) ≡ false
apart m never = elim (cases_Bool (overlap (areas_of m.keyslots))) [
  | inl e ↦ absurd (never (shared (areas_of m.keyslots) e))
  | inr e ↦ e
]

-- ---- a conversion, or none
conversion : (m : Parts) (sizes : Sizes) → IsSound m sizes → (b : Bool) → in_progress m.config ≡ b
    → first_of (rules_of_conversion m sizes) ≡ None
unfolding breaks_shape
conversion m sizes is true e =
    let p = is.busy e in
    let c = p.1.2.1 in
    kept faults.ReencryptShape _ _
    (ap (λ b. cond b (not (is_some (progress_of m sizes))) (is_any (conversions_of m.keyslots))) e
    ∙ ap (λ o. not (is_some o)) p.1.1)
    (kept faults.ResilTooSmall _ _
    (ap (breaks_capacity sizes.atom) p.1.1
    ∙ or_from _ _ (ne_eqb _ _ (λ z. absurd (omega (arith, c.room, z)))) (le-ltb _ _ c.zone))
    (kept faults.ShiftRoom _ None (ap breaks_shift p.1.1 ∙ from-shift p.1.0 c.shift) refl))
conversion m sizes is false e =
    let p = is.idle e in
    kept faults.ReencryptShape _ _
    (ap (λ b. cond b (not (is_some (progress_of m sizes))) (is_any (conversions_of m.keyslots))) e
    ∙ ap is_any p.1.2.keyslots)
    (kept faults.ResilTooSmall _ _ (ap (breaks_capacity sizes.atom) p.0)
    (kept faults.ShiftRoom _ None (ap breaks_shift p.0) refl))

pub valid : (m : Parts) (sizes : Sizes) → IsSound m sizes → first_fault m sizes ≡ None
valid m sizes is =
    by_groups m sizes
    ∙ none_or (first_or (first_of (rules_of_places m sizes)) (first_of (rules_of_sizes m sizes)))
    (first_of (rules_of_conversion m sizes))
    (none_or (first_of (rules_of_places m sizes)) (first_of (rules_of_sizes m sizes)) places within)
    (conversion m sizes is (in_progress m.config) refl)
  where
    places : first_of (rules_of_places m sizes) ≡ None
    places =
        none_or _ _ (own (mandatory m.config.requirements) is.own)
        (kept faults.AreaBounds _ _ (from_within m sizes is.within)
        (kept faults.AreaOverlap _ _ (apart m is.apart)
        (kept faults.DigestRef _ None (from_referred m is.digests) refl)))

    within : first_of (rules_of_sizes m sizes) ≡ None
    within =
        kept faults.SegmentGap _ _ (from_held (in_progress m.config) m sizes is.segments)
        (kept faults.SectorSize _ _ (from_sectors m sizes is.sectors)
        (kept faults.NotAtomMultiple _ _ (from_atoms m sizes is.atoms)
        (kept faults.TweakRange _ None (from_numbers m sizes is.numbers) refl)))
