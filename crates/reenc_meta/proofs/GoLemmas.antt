-- A conversion that goes on: from what is asked of a step to the next metadata and their map.
use Rattle.std.proofs.Common.{◌≡◌, ◌∙◌, ℕ, ◌+◌, ◌*◌, ◌^◌, ◌<◌, ◌≤◌, cond, List}
use Rattle.std.proofs.Common.{[], ◌∷◌, length, Some, None, Bool, true, false, refl}
use Rattle.std.proofs.Common.{sym, ap, subst, arith, zero, suc, ◌⊎◌, inl, inr}
use Rattle.std.proofs.Math.Nat.{le-mul_of_pos_right}
use Rattle.std.proofs.lemmas.Bool.{eq-eqb}
use Rattle.std.proofs.lemmas.List.{length-append, length-map}
use Rattle.std.specs.List.{All}
use Rattle.std.specs.Option.{option_and_then}
use Rattle.base_terms.specs.declared.disk_sizes.Sizes.{Sizes}
use Rattle.luks_meta.specs.Metas.{IsMeta}
use Rattle.luks_meta.specs.declared.meta.Parts.{Parts}
use Rattle.luks_meta.specs.declared.reencrypt.Direction.{Direction}
use Rattle.luks_meta.specs.declared.reencrypt.Direction.TheVariants.{Forward, Backward}
use Rattle.luks_meta.specs.declared.reencrypt.Resilience.{Resilience}
use Rattle.luks_meta.specs.declared.reencrypt.Resilience.TheVariants.{Journal, Checksum, Datashift}
use Rattle.luks_rules.specs.Areas.{main_bytes}
use Rattle.luks_rules.specs.Conversions.{conversions_of, only}
use Rattle.luks_rules.specs.Extents.{extent_of}
use Rattle.luks_rules.specs.Plans.{blocks_in, laid_out, parts_of}
use Rattle.luks_rules.specs.Rooms.{capacity}
use Rattle.luks_rules.specs.Segments.{in_progress}
use Rattle.luks_rules.specs.Shapes.{may_open, progress_of, progress_under}
use Rattle.luks_rules.specs.States.{IsConverting, IsSound}
use Rattle.luks_rules.specs.declared.extents.Extent.{Extent}
use Rattle.luks_rules.specs.declared.plan.Plan.{Plan}
use Rattle.luks_rules.specs.declared.shape.Progress.{Progress}
use Rattle.luks_rules.proofs.ChoiceLemmas.{laid_by}
use Rattle.luks_rules.proofs.ShapeLemmas.{shaped}
use Rattle.reenc_meta.specs.ConversionMaps.{BoundaryGoes, IsMapAt, IsMapOf, IsSameVolume}
use Rattle.reenc_meta.specs.ConversionMaps.{MovesBoundary, OpensZone, boundary_in, direction_of}
use Rattle.reenc_meta.specs.Layouts.{HasPlace, laid_out_by, progress_at, whole_on}
use Rattle.reenc_meta.specs.Moves.{IsGoneTo, IsOnward, MayBecome, MayMove, MayMoveBy, MayOpen}
use Rattle.reenc_meta.specs.Moves.{moved}
use Rattle.reenc_meta.specs.Moves.{old_blocks, opened}
use Rattle.reenc_meta.specs.Runs.{runs_of}
use Rattle.reenc_meta.proofs.PlaceLemmas.{all_end_below}
use Rattle.reenc_meta.proofs.OnwardLemmas.{meta-so, progress-so, runs-placed, valid-so}
use Rattle.reenc_meta.proofs.StateLemmas.{live-length}
use Rattle.segment_map.specs.declared.map.Map.{Map}

-- ---- what is known of a conversion that is read
busy_of : (m : Parts) (sizes : Sizes) (p : Progress) → progress_of m sizes ≡ Some p
    → in_progress m.config ≡ true
unfolding progress_of
busy_of m sizes p known = go (in_progress m.config) known
  where
    go : (b : Bool) → cond b (option_and_then (progress_under sizes.atom m)
        (only (conversions_of m.keyslots))) None ≡ Some p → b ≡ true
    go true h = refl
    go false h = cc

converting : (m : Parts) (sizes : Sizes) (p : Progress) → IsSound m sizes
    → in_progress m.config ≡ true → progress_of m sizes ≡ Some p
    → (live : List Extent) × IsConverting m sizes p live
converting m sizes p sound busy known =
    let here = (sound.busy busy).1 in
    let same : here.0 ≡ p = injected here.0 p (sym here.1 ∙ known) in
    (here.2.0, subst (λ q. IsConverting m sizes q here.2.0) same here.2.1)
  where
    injected : (a b : Progress) → Some a ≡ Some b → a ≡ b
    injected a b h = cc

cases_zero : (n : ℕ) → (n ≡ 0) ⊎ (0 < n)
cases_zero zero = inl refl
cases_zero (suc n) = inr (omega arith)

-- a live segment has blocks, and so the volume
no_part : (atom : ℕ) (d : Direction) (old new : Extent) (plan : Plan) (live : List Extent)
    → plan.first ≡ 0 → plan.zone ≡ 0 → plan.last ≡ 0
    → laid_out atom (parts_of d old new plan) live ≡ true → length live ≡ 0
unfolding laid_out
no_part atom d old new plan [] first zone last h = refl
no_part atom Forward old new plan (e ∷ es) first zone last h =
    let none : laid_out atom (parts_of Forward old new plan) (e ∷ es) ≡ false =
    rw (eq-eqb plan.first 0 first, eq-eqb plan.zone 0 zone, eq-eqb plan.last 0 last) refl in
    let bad : false ≡ true = sym none ∙ h in cc
no_part atom Backward old new plan (e ∷ es) first zone last h =
    let none : laid_out atom (parts_of Backward old new plan) (e ∷ es) ≡ false =
    rw (eq-eqb plan.first 0 first, eq-eqb plan.zone 0 zone, eq-eqb plan.last 0 last) refl in
    let bad : false ≡ true = sym none ∙ h in cc

some_blocks : (atom : ℕ) (d : Direction) (old new : Extent) (plan : Plan) (live : List Extent)
    → 0 < length live → laid_out atom (parts_of d old new plan) live ≡ true → 0 < blocks_in plan
some_blocks atom d old new plan live some h = elim (cases_zero (blocks_in plan)) [
  | inl none ↦
      let empty = no_part atom d old new plan live (omega (arith, none)) (omega (arith, none))
      (omega (arith, none)) h in absurd (omega (arith, some, empty))
  | inr here ↦ here
]

-- all blocks are on the disk
bytes_on : (m : Parts) (sizes : Sizes) (p : Progress) (live : List Extent)
    → IsConverting m sizes p live → 0 < blocks_in p.plan
    → blocks_in p.plan * sizes.atom ≤ main_bytes sizes
bytes_on m sizes p live conv some =
    let all = all_end_below 0 (blocks_in p.plan) sizes.atom (main_bytes sizes) some
    (λ b below. let on = conv.places b below in omega (arith, on)) in
    omega (arith, all)

pub record IsUnderWay (m : Parts) (sizes : Sizes) (p : Progress) : Type 0 where
  pub live : List Extent
  pub busy : in_progress m.config ≡ true
  pub converting : IsConverting m sizes p live
  pub some : 0 < blocks_in p.plan
  pub few : blocks_in p.plan < 2 ^ 63
  pub bytes : blocks_in p.plan * sizes.atom < 2 ^ 63

pub under-way : (m : Parts) (sizes : Sizes) (p : Progress) → IsSound m sizes
    → progress_of m sizes ≡ Some p → main_bytes sizes < 2 ^ 63 → IsUnderWay m sizes p
under-way m sizes p sound known fits =
    let busy = busy_of m sizes p known in
    let here = converting m sizes p sound busy known in
    let shape = shaped m sizes p busy known in
    let some = some_blocks sizes.atom p.conversion.direction p.old p.new p.plan shape.0 shape.1.some
    (laid_by sizes.atom p.conversion p.old p.new shape.0 p.plan shape.1.state.parts) in
    let bytes = bytes_on m sizes p here.0 here.1 some in
    let most = le-mul_of_pos_right (blocks_in p.plan) sound.atom in
    record {
      live = here.0;
      busy = busy;
      converting = here.1;
      some = some;
      few = omega (arith, bytes, most, fits);
      bytes = omega (arith, bytes, fits);
    }

-- ---- the next metadata
pub record GoesOn (m : Parts) (sizes : Sizes) (p : Progress) (plan : Plan) : Type 0 where
  pub meta : IsMeta (laid_out_by sizes.atom p plan m)
  pub gone : IsGoneTo m sizes p plan (laid_out_by sizes.atom p plan m)
  pub placed : All (λ run. HasPlace sizes.atom (whole_on p run.side) run)
      (runs_of p.conversion.direction plan)
  pub last : p.old.number ≤ length m.segments
  pub few : blocks_in p.plan < 2 ^ 63

pub goes-on : (m : Parts) (sizes : Sizes) (p : Progress) (plan : Plan) → IsMeta m → IsSound m sizes
    → progress_of m sizes ≡ Some p → main_bytes sizes < 2 ^ 63 → MayBecome sizes.atom p plan
    → GoesOn m sizes p plan
goes-on m sizes p plan is sound known fits may =
    let way = under-way m sizes p sound known fits in
    let live = way.live in
    let conv = way.converting in
    record {
      meta = meta-so m sizes p live plan is sound way.busy conv may way.some fits;
      gone =
          record {
            is = refl;
            valid = valid-so m sizes p live plan is sound way.busy conv may way.some fits;
            progress =
                progress-so m sizes p live plan is sound way.busy conv may way.some fits;
          };
      placed = runs-placed m sizes p live plan is sound way.busy conv may way.some fits;
      last =
          (let all = ap length conv.segments in
          let own = length-map m.segments (extent_of m.digests) in
          let joined = length-append live (p.old ∷ p.new ∷ []) in
          let at =
          live-length m sizes p live plan is.digests.rising way.busy sound.atom conv may way.some in
          omega (arith, all, own, joined, at));
      few = way.few;
    }

-- ---- what a step asks is enough
one_opens : (r : Resilience) (n : ℕ) → 0 < n → may_open r 1 ≡ true → may_open r n ≡ true
one_opens Journal n some h = refl
one_opens (Checksum k) n some h = refl
one_opens (Datashift k) n some h = let bad : false ≡ true = h in cc

opened_blocks : (d : Direction) (n : ℕ) (plan : Plan) → plan.zone ≡ 0 → n ≤ old_blocks d plan
    → blocks_in (opened d n plan) ≡ blocks_in plan
opened_blocks Forward n plan closed few = omega (arith, closed, few)
opened_blocks Backward n plan closed few = omega (arith, closed, few)

opened_onward : (d : Direction) (n : ℕ) (plan : Plan) → IsOnward d plan (opened d n plan)
opened_onward Forward n plan = omega arith
opened_onward Backward n plan = omega arith

opened_zone : (d : Direction) (n : ℕ) (plan : Plan) → (opened d n plan).zone ≡ n
opened_zone Forward n plan = refl
opened_zone Backward n plan = refl

pub may-open : (atom : ℕ) (p : Progress) (n : ℕ) → MayOpen atom p n
    → MayBecome atom p (opened p.conversion.direction n p.plan)
may-open atom p n may =
    let zone = opened_zone p.conversion.direction n p.plan in
    record {
      blocks = opened_blocks p.conversion.direction n p.plan may.closed may.left;
      onward = opened_onward p.conversion.direction n p.plan;
      room = (let room = may.room in omega (arith, zone, room));
      kept = ap (may_open p.conversion.resilience) zone ∙ may.kept;
    }

moved_blocks : (d : Direction) (n : ℕ) (plan : Plan) → n ≤ plan.zone + old_blocks d plan
    → blocks_in (moved d n plan) ≡ blocks_in plan
moved_blocks Forward n plan few = omega (arith, few)
moved_blocks Backward n plan few = omega (arith, few)

moved_onward : (d : Direction) (n : ℕ) (plan : Plan) → IsOnward d plan (moved d n plan)
moved_onward Forward n plan = omega arith
moved_onward Backward n plan = omega arith

moved_zone : (d : Direction) (n : ℕ) (plan : Plan) → (moved d n plan).zone ≡ 0
moved_zone Forward n plan = refl
moved_zone Backward n plan = refl

moved_few : (r : Resilience) (zone room left n : ℕ) → MayMoveBy r zone room left n → n ≤ zone + left
moved_few Journal zone room left n may = omega (arith, may)
moved_few (Checksum k) zone room left n may = omega (arith, may)
moved_few (Datashift k) zone room left n may = let few = may.1 in omega (arith, few)

closed_opens : (r : Resilience) → may_open r 0 ≡ true
closed_opens Journal = refl
closed_opens (Checksum k) = refl
closed_opens (Datashift k) = refl

pub move-few : (atom : ℕ) (p : Progress) (n : ℕ) → MayMove atom p n
    → n ≤ p.plan.zone + old_blocks p.conversion.direction p.plan
move-few atom p n may =
    moved_few p.conversion.resilience p.plan.zone (capacity atom p)
    (old_blocks p.conversion.direction p.plan) n may.by

pub may-move : (atom : ℕ) (p : Progress) (n : ℕ) → MayMove atom p n
    → MayBecome atom p (moved p.conversion.direction n p.plan)
may-move atom p n may =
    let zone = moved_zone p.conversion.direction n p.plan in
    record {
      blocks = moved_blocks p.conversion.direction n p.plan (move-few atom p n may);
      onward = moved_onward p.conversion.direction n p.plan;
      room = omega (arith, zone);
      kept = ap (may_open p.conversion.resilience) zone ∙ closed_opens p.conversion.resilience;
    }

-- ---- the next map
same_progress : (m : Parts) (sizes : Sizes) (p q : Progress) → progress_of m sizes ≡ Some p
    → progress_of m sizes ≡ Some q → p ≡ q
same_progress m sizes p q one other = go (sym one ∙ other)
  where
    go : Some p ≡ Some q → p ≡ q
    go h = cc

module _ (m : Parts) (sizes : Sizes) (p : Progress) (plan : Plan) (next : Parts)
    (before after : Map) (gone : IsGoneTo m sizes p plan next) (old : IsMapAt sizes p before)
    (new : IsMapOf next sizes after) (blocks : blocks_in plan ≡ blocks_in p.plan) where
  pub map-at : IsMapAt sizes (progress_at plan p) after
  map-at =
      subst (λ q. IsMapAt sizes q after)
      (same_progress next sizes new.0 (progress_at plan p) new.1 gone.progress) new.2

  pub same-volume : IsSameVolume before after
  same-volume = record {
    atom = map-at.atom ∙ sym old.atom;
    blocks = map-at.blocks ∙ blocks ∙ sym old.blocks;
    direction = map-at.direction ∙ sym old.direction;
    old_place = map-at.old_place ∙ sym old.old_place;
    new_place = map-at.new_place ∙ sym old.new_place;
  }

opened_boundary : (d : Direction) (n : ℕ) (plan : Plan) → plan.zone ≡ 0 → n ≤ old_blocks d plan
    → boundary_in d (opened d n plan) ≡ boundary_in d plan
opened_boundary Forward n plan closed few = refl
opened_boundary Backward n plan closed few = omega (arith, closed, few)

pub opens-zone : (m : Parts) (sizes : Sizes) (p : Progress) (n : ℕ) (next : Parts)
    → MayOpen sizes.atom p n
    → IsGoneTo m sizes p (opened p.conversion.direction n p.plan) next
    → (before after : Map) → IsMapAt sizes p before → IsMapOf next sizes after
    → OpensZone n before after
opens-zone m sizes p n next may gone before after old new =
    let plan = opened p.conversion.direction n p.plan in
    let blocks = (may-open sizes.atom p n may).blocks in
    let at = map-at m sizes p plan next before after gone old new blocks in
    record {
      volume = same-volume m sizes p plan next before after gone old new blocks;
      boundary =
          at.boundary
          ∙ opened_boundary p.conversion.direction n p.plan may.closed may.left ∙ sym old.boundary;
      zone = at.zone ∙ opened_zone p.conversion.direction n p.plan;
    }

moved_boundary : (d : Direction) (n : ℕ) (plan : Plan) → n ≤ plan.zone + old_blocks d plan
    → BoundaryGoes (direction_of d) n (boundary_in d plan) (boundary_in d (moved d n plan))
moved_boundary Forward n plan few = refl
moved_boundary Backward n plan few = omega (arith, few)

pub moves-boundary : (m : Parts) (sizes : Sizes) (p : Progress) (n : ℕ) (next : Parts)
    → MayMove sizes.atom p n
    → IsGoneTo m sizes p (moved p.conversion.direction n p.plan) next
    → (before after : Map) → IsMapAt sizes p before → IsMapOf next sizes after
    → MovesBoundary n before after
moves-boundary m sizes p n next may gone before after old new =
    let plan = moved p.conversion.direction n p.plan in
    let blocks = (may-move sizes.atom p n may).blocks in
    let at = map-at m sizes p plan next before after gone old new blocks in
    let here = moved_boundary p.conversion.direction n p.plan (move-few sizes.atom p n may) in
    record {
      volume = same-volume m sizes p plan next before after gone old new blocks;
      boundary =
          subst (λ d. BoundaryGoes d n before.boundary after.boundary) (sym old.direction)
          (subst (λ b. BoundaryGoes (direction_of p.conversion.direction) n b after.boundary)
          (sym old.boundary)
          (subst (λ b. BoundaryGoes (direction_of p.conversion.direction) n
          (boundary_in p.conversion.direction p.plan) b) (sym at.boundary) here));
      zone = at.zone ∙ moved_zone p.conversion.direction n p.plan;
    }
