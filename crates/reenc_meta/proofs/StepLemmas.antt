-- What the calls of a conversion under way need: how it ends, and where its blocks lie.
use Rattle.std.proofs.Common.{◌≡◌, ◌∙◌, ℕ, ◌*◌, ◌^◌, ◌<◌, ◌≤◌, ◌++◌, List, [], ◌∷◌, map}
use Rattle.std.proofs.Common.{Option, Some, None, true, not, refl, sym, ap, subst, arith}
use Rattle.std.proofs.Math.Nat.{mul-le-mul_right}
use Rattle.std.proofs.lemmas.Bool.{and_parts}
use Rattle.std.proofs.lemmas.List.{append_cancel_right}
use Rattle.std.specs.List.{filter}
use Rattle.std.specs.Option.{IsSomeAnd}
use Rattle.base_terms.specs.declared.disk_sizes.Sizes.{Sizes}
use Rattle.luks_meta.specs.Metas.{IsMeta}
use Rattle.luks_meta.specs.declared.meta.Parts.{Parts}
use Rattle.luks_meta.specs.declared.reencrypt.Direction.{Direction}
use Rattle.luks_meta.specs.declared.reencrypt.Direction.TheVariants.{Forward, Backward}
use Rattle.luks_rules.specs.Areas.{main_bytes}
use Rattle.luks_rules.specs.Idles.{idle_of}
use Rattle.luks_rules.specs.Plans.{blocks_in, laid_out, parts_of}
use Rattle.luks_rules.specs.Shapes.{may_open, progress_of}
use Rattle.luks_rules.specs.States.{IsSound}
use Rattle.luks_rules.specs.declared.extents.Extent.{Extent}
use Rattle.luks_rules.specs.declared.idle.Idle.{Idle}
use Rattle.luks_rules.specs.declared.plan.Plan.{Plan}
use Rattle.luks_rules.specs.declared.shape.Progress.{Progress}
use Rattle.luks_rules.proofs.ChoiceLemmas.{laid_by}
use Rattle.reenc_meta.specs.ConversionMaps.{IsMapAt, IsReadOff, MakesAllNew}
use Rattle.reenc_meta.specs.Finishes.{IsFinished, IsNewVolume, MayFinish, finished}
use Rattle.reenc_meta.specs.Finishes.{finished_digest}
use Rattle.reenc_meta.specs.Finishes.{finished_segment, is_dropped, is_new_whole, is_old_digest}
use Rattle.reenc_meta.specs.Finishes.{requirements_after, token_kept}
use Rattle.reenc_meta.specs.Layouts.{laid_out_by, listed_by, segments_by, wholes_of}
use Rattle.reenc_meta.specs.Moves.{IsOnward, MayBecome}
use Rattle.reenc_meta.specs.Runs.{runs_of, sides_of}
use Rattle.reenc_meta.specs.Placements.{IsPlacementOf, PlacedBy, all_atoms, place_of}
use Rattle.reenc_meta.specs.declared.placement.Placement.{Placement}
use Rattle.reenc_meta.proofs.FinishLemmas.{idle-finished, meta-finished, valid-finished}
use Rattle.reenc_meta.proofs.GoLemmas.{under-way}
use Rattle.reenc_meta.proofs.ReadOffLemmas.{blocks-lie, not-both}
use Rattle.reenc_meta.proofs.StateLemmas.{wholes-so}
use Rattle.reenc_meta.proofs.WholeLemmas.{new-own, old-own, whole-digests, whole-mode}
use Rattle.segment_map.specs.declared.map.Map.{Map}

-- the main disk has no more bytes than both disks
pub main-few : (sizes : Sizes) → all_atoms sizes * sizes.atom < 2 ^ 63 → main_bytes sizes < 2 ^ 63
main-few sizes fits =
    let fewer : sizes.main_atoms ≤ all_atoms sizes = omega arith in
    let less = mul-le-mul_right sizes.atom fewer in
    omega (arith, less, fits)

-- ---- the next metadata
pub laid-parts : (m : Parts) (atom : ℕ) (p : Progress) (plan : Plan) (next : Parts)
    → next.keyslots ≡ m.keyslots → next.tokens ≡ m.tokens
    → next.segments
    ≡ segments_by atom p (runs_of p.conversion.direction plan) (wholes_of p m.segments)
    → next.digests
    ≡ map (listed_by p (sides_of (runs_of p.conversion.direction plan))) m.digests
    → next.config ≡ m.config → next.rest ≡ m.rest → next ≡ laid_out_by atom p plan m
unfolding laid_out_by
laid-parts m atom p plan next keyslots tokens segments digests config rest = λ i. record {
  keyslots = keyslots i;
  tokens = tokens i;
  segments = segments i;
  digests = digests i;
  config = config i;
  rest = rest i;
}

-- ---- the end
onward_here : (d : Direction) (plan : Plan) → IsOnward d plan plan
onward_here Forward plan = omega arith
onward_here Backward plan = omega arith

pub record Ends (m : Parts) (sizes : Sizes) (p : Progress) : Type 0 where
  pub meta : IsMeta (finished sizes p m)
  pub ended : IsFinished m sizes p (finished sizes p m)
  pub few : blocks_in p.plan < 2 ^ 64
  pub bytes : blocks_in p.plan * sizes.atom < 2 ^ 64

pub ends : (m : Parts) (sizes : Sizes) (p : Progress) → IsMeta m → IsSound m sizes
    → progress_of m sizes ≡ Some p → main_bytes sizes < 2 ^ 63 → MayFinish p → Ends m sizes p
ends m sizes p is sound known fits may =
    let way = under-way m sizes p sound known fits in
    let live = way.live in
    let conv = way.converting in
    let here : MayBecome sizes.atom p p.plan = record {
      blocks = refl;
      onward = onward_here p.conversion.direction p.plan;
      room = conv.zone;
      kept = (and_parts _ (may_open p.conversion.resilience p.plan.zone) conv.state.parts).1;
    } in
    let w = wholes-so m sizes p live p.plan is.digests.rising way.busy sound.atom conv here way.some
    in
    record {
      meta = meta-finished m sizes p live w.0 w.1 is sound way.busy conv may way.some fits w.2 w.4;
      ended =
          record {
            is = refl;
            valid =
                valid-finished m sizes p live w.0 w.1 is sound way.busy conv may way.some fits w.2
                w.4;
            idle =
                idle-finished m sizes p live w.0 w.1 is sound way.busy conv may way.some fits w.2
                w.4;
          };
      few = (let few = way.few in omega (arith, few));
      bytes = (let few = way.bytes in omega (arith, few));
    }

pub finished-parts : (m : Parts) (sizes : Sizes) (p : Progress) (next : Parts)
    → next.keyslots ≡ filter (λ slot. not (is_dropped p m.digests slot.0)) m.keyslots
    → next.tokens ≡ map (λ t. (t.0, token_kept (is_dropped p m.digests) t.1)) m.tokens
    → next.segments ≡ map (finished_segment sizes p) (filter (is_new_whole p) m.segments)
    → next.digests
    ≡ map (finished_digest p) (filter (λ d. not (is_old_digest p d)) m.digests)
    → next.config ≡ record m.config { requirements = requirements_after m.config.requirements }
    → next.rest ≡ m.rest → next ≡ finished sizes p m
unfolding finished
finished-parts m sizes p next keyslots tokens segments digests config rest = λ i. record {
  keyslots = keyslots i;
  tokens = tokens i;
  segments = segments i;
  digests = digests i;
  config = config i;
  rest = rest i;
}

-- all blocks are new then, each where it was
pub makes-new : (m : Parts) (sizes : Sizes) (p : Progress) (next : Parts)
    → IsFinished m sizes p next → (before : Map) (after : Placement) → IsMapAt sizes p before
    → IsPlacementOf next sizes after → MakesAllNew before after
makes-new m sizes p next done before after old placed = go (idle_of next sizes) done.idle placed
  where
    go : (o : Option Idle) → IsSomeAnd o (IsNewVolume sizes p) → PlacedBy sizes o after
        → MakesAllNew before after
    go None is here = absurd here
    go (Some v) is here = record {
      atom = here.atom ∙ sym old.atom;
      blocks = here.blocks ∙ is.blocks ∙ sym old.blocks;
      boundary = here.boundary ∙ is.blocks ∙ sym old.blocks;
      direction = here.direction;
      zone = here.zone;
      place = here.new_place ∙ ap (place_of sizes) is.segment ∙ sym old.new_place;
    }

-- ---- the map
same_live : (live other : List Extent) (old new : Extent)
    → live ++ old ∷ new ∷ [] ≡ other ++ old ∷ new ∷ [] → live ≡ other
same_live live other old new same = append_cancel_right live other (old ∷ new ∷ []) same

pub reads-off : (m : Parts) (sizes : Sizes) (p : Progress) (found : Map) → IsSound m sizes
    → progress_of m sizes ≡ Some p → main_bytes sizes < 2 ^ 63 → IsMapAt sizes p found
    → IsReadOff m sizes p found
reads-off m sizes p found sound known fits at live all b below =
    let way = under-way m sizes p sound known fits in
    let conv = way.converting in
    let wholes = conv.state.wholes in
    let laid = laid_by sizes.atom p.conversion p.old p.new way.live p.plan conv.state.parts in
    let old = old-own sizes.atom p.conversion p.old p.new wholes in
    let new = new-own sizes.atom p.conversion p.old p.new wholes in
    let mode = whole-mode sizes.atom p.conversion p.old p.new wholes in
    let within : b < blocks_in p.plan = (let n = at.blocks in omega (arith, below, n)) in
    blocks-lie sizes p live found sound.atom conv.old.whole conv.new.whole at
    (whole-digests sizes.atom p.conversion p.old p.new wholes)
    (not-both p.conversion.mode p.old.encryption p.new.encryption p.old.digest p.new.digest mode old
    new)
    p.conversion.direction refl
    (subst (λ es.
    laid_out sizes.atom (parts_of p.conversion.direction p.old p.new p.plan) es ≡ true)
    (same_live way.live live p.old p.new (sym conv.segments ∙ all)) laid)
    b within
