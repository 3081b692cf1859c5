-- How the objects of a conversion are cut: its keyslot, the live segments and the two whole ones.
use Rattle.std.proofs.Common.{◌≡◌, ◌∙◌, ◌⊎◌, inl, inr, ℕ, ◌+◌, ◌<◌, ◌≤◌, ◌++◌, List, [], ◌∷◌}
use Rattle.std.proofs.Common.{length, map, Option, Some, None, Bool, true, false, cond, refl, sym}
use Rattle.std.proofs.Common.{ap, subst, arith}
use Rattle.std.proofs.lemmas.List.{length-append, length-map}
use Rattle.std.proofs.lemmas.List.Folds.{list_any_none}
use Rattle.std.specs.List.{All, list_any}
use Rattle.std.specs.Option.{is_some, option_and_then}
use Rattle.base_terms.specs.declared.disk_sizes.Sizes.{Sizes}
use Rattle.luks_meta.specs.declared.digest.Digest.{Digest}
use Rattle.luks_meta.specs.declared.meta.Parts.{Parts}
use Rattle.luks_meta.specs.declared.reencrypt.Direction.{Direction}
use Rattle.luks_meta.specs.declared.reencrypt.Direction.TheVariants.{Forward, Backward}
use Rattle.luks_meta.specs.declared.segment.Segment.{Segment}
use Rattle.luks_rules.specs.Conversions.{conversions_of, only}
use Rattle.luks_rules.specs.Extents.{extent_of}
use Rattle.luks_rules.specs.Plans.{begins, is_nothing, laid_out, parts_of, rest_of}
use Rattle.luks_rules.specs.References.{lists}
use Rattle.luks_rules.specs.Segments.{in_progress}
use Rattle.luks_rules.specs.Shapes.{progress_by, progress_from, progress_of, progress_under}
use Rattle.luks_rules.specs.Shapes.{progress_with}
use Rattle.luks_rules.specs.States.{IsShaped, IsState}
use Rattle.luks_rules.specs.declared.conversions.Conversion.{Conversion}
use Rattle.luks_rules.specs.declared.extents.Extent.{Extent}
use Rattle.luks_rules.specs.declared.plan.Part.{Part}
use Rattle.luks_rules.specs.declared.plan.Plan.{Plan}
use Rattle.luks_rules.specs.declared.shape.Progress.{Progress}
use Rattle.luks_rules.proofs.ChoiceLemmas.{laid_by, state_found, state_of}
use Rattle.luks_rules.proofs.OneChoiceLemmas.{one_choice, step}
use Rattle.luks_rules.proofs.PlainLemmas.{each}

-- ---- the segments and the keyslot that are found
IsStateOf : ℕ → Conversion → List (ℕ × Digest) → List (ℕ × Segment) → Progress → Type 0
IsStateOf atom c ds segments p =
    (live : List Extent) × (0 < length live)
    × (map (extent_of ds) segments ≡ live ++ p.old ∷ p.new ∷ []) × (p.conversion ≡ c)
    × IsState atom c live p.old p.new p.plan

by_live : (atom : ℕ) (c : Conversion) (ds : List (ℕ × Digest)) (segments : List (ℕ × Segment))
    (live : List Extent) (old new : Extent) (p : Progress)
    → 0 < length live → map (extent_of ds) segments ≡ live ++ old ∷ new ∷ []
    → progress_by atom c live old new ≡ Some p → IsStateOf atom c ds segments p
unfolding IsStateOf
by_live atom c ds segments live old new p some e h =
    let s = state_of atom c live old new p h in (
      live,
      some,
      e ∙ (λ i. live ++ (sym s.1 i) ∷ (sym s.2 i) ∷ []),
      s.0,
      subst (λ o. IsState atom c live o p.new p.plan) (sym s.1)
          (subst (λ n. IsState atom c live old n p.plan) (sym s.2) s.3),
    )

from_segments : (atom : ℕ) (c : Conversion) (ds : List (ℕ × Digest)) (segments : List (ℕ × Segment))
    (p : Progress) → progress_from atom c ds segments ≡ Some p → IsStateOf atom c ds segments p
unfolding progress_from
from_segments atom c ds [] p h = cc
from_segments atom c ds (a ∷ []) p h = cc
from_segments atom c ds (a ∷ b ∷ []) p h = cc
from_segments atom c ds (a ∷ old ∷ new ∷ []) p h =
    by_live atom c ds (a ∷ old ∷ new ∷ []) (extent_of ds a ∷ []) (extent_of ds old)
    (extent_of ds new) p (omega arith) refl h
from_segments atom c ds (a ∷ b ∷ old ∷ new ∷ []) p h =
    by_live atom c ds (a ∷ b ∷ old ∷ new ∷ []) (extent_of ds a ∷ extent_of ds b ∷ [])
    (extent_of ds old) (extent_of ds new) p (omega arith) refl h
from_segments atom c ds (a ∷ b ∷ d ∷ old ∷ new ∷ []) p h =
    by_live atom c ds (a ∷ b ∷ d ∷ old ∷ new ∷ [])
    (extent_of ds a ∷ extent_of ds b ∷ extent_of ds d ∷ []) (extent_of ds old) (extent_of ds new) p
    (omega arith) refl h
from_segments atom c ds (a ∷ b ∷ d ∷ old ∷ new ∷ more ∷ rest) p h = cc

only_one : (cs : List Conversion) (c : Conversion) → only cs ≡ Some c → cs ≡ c ∷ []
only_one [] c h = cc
only_one (d ∷ []) c h = let same : d ≡ c = cc in ap (λ x. x ∷ []) same
only_one (d ∷ e ∷ cs) c h = cc

pub shaped : (m : Parts) (sizes : Sizes) (p : Progress) → in_progress m.config ≡ true
    → progress_of m sizes ≡ Some p → (live : List Extent) × IsShaped m sizes.atom p live
unfolding progress_of IsStateOf
shaped m sizes p busy h =
    by (only (conversions_of m.keyslots)) refl
    (sym (ap
    (λ b. cond b (option_and_then (progress_under sizes.atom m) (only (conversions_of m.keyslots)))
    None) busy) ∙ h)
  where
    under : (c : Conversion) (b : Bool)
        → cond b None (progress_from sizes.atom c m.digests m.segments) ≡ Some p
        → (b ≡ false) × (progress_from sizes.atom c m.digests m.segments ≡ Some p)
    under c true e = cc
    under c false e = (refl, e)

    by : (o : Option Conversion) → only (conversions_of m.keyslots) ≡ o
        → option_and_then (progress_under sizes.atom m) o ≡ Some p
        → (live : List Extent) × IsShaped m sizes.atom p live
    by None e h = cc
    by (Some c) e h =
        let u = under c (list_any (λ d. lists d.1.keyslots c.keyslot) m.digests) h in
        let s = from_segments sizes.atom c m.digests m.segments p u.1 in (
          s.0,
          record {
            keyslot = only_one (conversions_of m.keyslots) c e ∙ ap (λ x. x ∷ []) (sym s.3);
            alone = subst (λ x. All (λ d. lists d.1.keyslots x.keyslot ≡ false) m.digests) (sym s.3)
                (each (λ d. lists d.1.keyslots c.keyslot)
                (λ d. lists d.1.keyslots c.keyslot ≡ false) m.digests (λ d k. k) u.0);
            some = s.1;
            segments = s.2;
            state = subst (λ x. IsState sizes.atom x s.0 p.old p.new p.plan) (sym s.3) s.4;
          },
        )

-- ---- and back: no more live segments than parts
few : (atom : ℕ) (ps : List Part) (live : List Extent) → laid_out atom ps live ≡ true
    → length live ≤ length ps
unfolding laid_out
few atom [] [] h = omega arith
few atom [] (e ∷ es) h = let bad : false ≡ true = h in cc
few atom (p ∷ ps) [] h = omega arith
few atom (p ∷ ps) (e ∷ es) h = elim (step atom p ps (e ∷ es) h) [
  | inl a ↦ let later = few atom ps (e ∷ es) a.1 in omega (arith, later)
  | inr a ↦ let later = few atom ps es a.1 in omega (arith, later)
]

three : (atom : ℕ) (c : Conversion) (live : List Extent) (old new : Extent) (plan : Plan)
    → IsState atom c live old new plan → length live ≤ 3
three atom c live old new plan is = by c.direction (laid_by atom c old new live plan is.parts)
  where
    by : (d : Direction) → laid_out atom (parts_of d old new plan) live ≡ true → length live ≤ 3
    by Forward h = few atom (parts_of Forward old new plan) live h
    by Backward h = few atom (parts_of Backward old new plan) live h

-- the state of live segments is the one that is found
pub some_of : (o : Option Progress) → is_some o ≡ true → (p : Progress) × (o ≡ Some p)
some_of None h = cc
some_of (Some p) h = (p, refl)

known : (atom : ℕ) (c : Conversion) (live : List Extent) (old new : Extent) (plan : Plan) → 0 < atom
    → 0 < length live → IsState atom c live old new plan
    → progress_by atom c live old new ≡ Some (progress_with c old new plan)
known atom c live old new plan some any is =
    let found =
    some_of (progress_by atom c live old new) (state_found atom c live old new plan some any is) in
    let s = state_of atom c live old new found.0 found.1 in
    let same = one_choice atom c live old new found.0.plan plan some any s.3 is in
    found.1 ∙ (λ i. Some (record { conversion = s.0 i; old = s.1 i; new = s.2 i; plan = same i }))

-- the segments that are live, and the last two
cut : {X : Type 0} (xs ys : List X) (a b old new : X) → xs ++ a ∷ b ∷ [] ≡ ys ++ old ∷ new ∷ []
    → (xs ≡ ys) × (a ≡ old) × (b ≡ new)
cut [] [] a b old new h = (refl, cc, cc)
cut [] (y ∷ []) a b old new h = cc
cut [] (y ∷ z ∷ ys) a b old new h = let n =
    ap length h ∙ length-append (y ∷ z ∷ ys) (old ∷ new ∷ []) in absurd (omega (arith, n))
cut (x ∷ []) [] a b old new h = cc
cut (x ∷ z ∷ xs) [] a b old new h = let n =
    sym (length-append (x ∷ z ∷ xs) (a ∷ b ∷ [])) ∙ ap length h in absurd (omega (arith, n))
cut (x ∷ xs) (y ∷ ys) a b old new h =
    let first : x ≡ y = cc in
    let later : xs ++ a ∷ b ∷ [] ≡ ys ++ old ∷ new ∷ [] = cc in
    let t = cut xs ys a b old new later in
    (λ i. first i ∷ t.0 i, t.1, t.2)

cut_by : (atom : ℕ) (c : Conversion) (live ys : List Extent) (a b old new : Extent)
    (o : Option Progress) → ys ++ a ∷ b ∷ [] ≡ live ++ old ∷ new ∷ []
    → progress_by atom c live old new ≡ o → progress_by atom c ys a b ≡ o
cut_by atom c live ys a b old new o e h =
    let t = cut ys live a b old new e in
    (λ i. progress_by atom c (t.0 i) (t.1 i) (t.2 i)) ∙ h

sized : (ds : List (ℕ × Digest)) (segments : List (ℕ × Segment)) (live : List Extent)
    (old new : Extent) → map (extent_of ds) segments ≡ live ++ old ∷ new ∷ []
    → length segments ≡ length live + 2
sized ds segments live old new e =
    sym (length-map segments (extent_of ds)) ∙ ap length e ∙ length-append live (old ∷ new ∷ [])

back : (atom : ℕ) (c : Conversion) (ds : List (ℕ × Digest)) (segments : List (ℕ × Segment))
    (live : List Extent) (old new : Extent) (o : Option Progress) → 0 < length live
    → length live ≤ 3
    → map (extent_of ds) segments ≡ live ++ old ∷ new ∷ [] → progress_by atom c live old new ≡ o
    → progress_from atom c ds segments ≡ o
unfolding progress_from
back atom c ds [] live old new o some most e h = let n =
    sized ds [] live old new e in absurd (omega (arith, n))
back atom c ds (a ∷ []) live old new o some most e h = let n =
    sized ds (a ∷ []) live old new e in absurd (omega (arith, n))
back atom c ds (a ∷ b ∷ []) live old new o some most e h = let n =
    sized ds (a ∷ b ∷ []) live old new e in absurd (omega (arith, some, n))
back atom c ds (a ∷ x ∷ y ∷ []) live old new o some most e h =
    cut_by atom c live (extent_of ds a ∷ []) (extent_of ds x) (extent_of ds y) old new o e h
back atom c ds (a ∷ b ∷ x ∷ y ∷ []) live old new o some most e h =
    cut_by atom c live (extent_of ds a ∷ extent_of ds b ∷ []) (extent_of ds x) (extent_of ds y) old
    new o e h
back atom c ds (a ∷ b ∷ d ∷ x ∷ y ∷ []) live old new o some most e h =
    cut_by atom c live (extent_of ds a ∷ extent_of ds b ∷ extent_of ds d ∷ []) (extent_of ds x)
    (extent_of ds y) old new o e h
back atom c ds (a ∷ b ∷ d ∷ x ∷ y ∷ more ∷ rest) live old new o some most e h =
    let n = sized ds (a ∷ b ∷ d ∷ x ∷ y ∷ more ∷ rest) live old new e in
    absurd (omega (arith, most, n))

pub from_shaped : (m : Parts) (sizes : Sizes) (p : Progress) (live : List Extent) → 0 < sizes.atom
    → in_progress m.config ≡ true → IsShaped m sizes.atom p live → progress_of m sizes ≡ Some p
unfolding progress_of
from_shaped m sizes p live some busy is =
    ap (λ b. cond b
    (option_and_then (progress_under sizes.atom m) (only (conversions_of m.keyslots))) None) busy
    ∙ ap (λ cs. option_and_then (progress_under sizes.atom m) (only cs)) is.keyslot
    ∙ ap (λ b. cond b None (progress_from sizes.atom p.conversion m.digests m.segments))
    (list_any_none (λ d. lists d.1.keyslots p.conversion.keyslot) m.digests is.alone)
    ∙ back sizes.atom p.conversion m.digests m.segments live p.old p.new (Some p) is.some
    (three sizes.atom p.conversion live p.old p.new p.plan is.state) is.segments
    (known sizes.atom p.conversion live p.old p.new p.plan some is.some is.state)
