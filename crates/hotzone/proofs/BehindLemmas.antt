-- The volume behind a zone: as before, with the boundary moved over the zone's blocks.
use Rattle.std.proofs.Common.{◌≡◌, ◌∙◌, ℕ, ◌+◌, ◌≤◌}
use Rattle.std.proofs.Common.{refl, sym, ap, arith}
use Rattle.base_terms.specs.declared.disk_sizes.Sizes.{Sizes}
use Rattle.hotzone.proofs.HeadingLemmas.{progress_behind}
use Rattle.luks_meta.specs.declared.reencrypt.Direction.{Direction as order}
use Rattle.luks_meta.specs.declared.reencrypt.Direction.TheVariants as orders
use Rattle.luks_rules.specs.Plans.{blocks_in}
use Rattle.luks_rules.specs.declared.plan.Plan.{Plan}
use Rattle.luks_rules.specs.declared.shape.Progress.{Progress}
use Rattle.reenc_meta.specs.ConversionMaps.{IsMapAt, boundary_in, direction_of}
use Rattle.reenc_meta.specs.Moves.{moved, old_blocks, opened}
use Rattle.segment_map.specs.Sides.{left_of}
use Rattle.segment_map.specs.declared.map.Map.{Map}

abbrev pub left_in : Map → ℕ
left_in map = left_of map.direction map.blocks map.boundary

pub record IsBehind (blocks : ℕ) (before after : Map) : Type 0 where
  pub atom : after.atom ≡ before.atom
  pub blocks_are : after.blocks ≡ before.blocks
  pub direction : after.direction ≡ before.direction
  pub old_place : after.old_place ≡ before.old_place
  pub new_place : after.new_place ≡ before.new_place
  pub left : left_in after + blocks ≡ left_in before

abbrev pub plan_behind : order → ℕ → Plan → Plan
plan_behind d n plan = moved d n (opened d n plan)

pub blocks-behind : (d : order) (n : ℕ) (plan : Plan) → plan.zone ≡ 0 → n ≤ old_blocks d plan
    → blocks_in (plan_behind d n plan) ≡ blocks_in plan
blocks-behind orders.Forward n plan closed few = omega (arith, closed, few)
blocks-behind orders.Backward n plan closed few = omega (arith, closed, few)

-- the blocks that are left are the old ones
pub left-old : (d : order) (plan : Plan) → plan.zone ≡ 0
    → left_of (direction_of d) (blocks_in plan) (boundary_in d plan) ≡ old_blocks d plan
left-old orders.Forward plan closed = omega (arith, closed)
left-old orders.Backward plan closed = omega (arith, closed)

old-behind : (d : order) (n : ℕ) (plan : Plan) → plan.zone ≡ 0 → n ≤ old_blocks d plan
    → old_blocks d (plan_behind d n plan) + n ≡ old_blocks d plan
old-behind orders.Forward n plan closed few = omega (arith, closed, few)
old-behind orders.Backward n plan closed few = omega (arith, closed, few)

pub closed-behind : (d : order) (n : ℕ) (plan : Plan) → (plan_behind d n plan).zone ≡ 0
closed-behind orders.Forward n plan = refl
closed-behind orders.Backward n plan = refl

-- what is left by a map at a state
pub left-at : (sizes : Sizes) (p : Progress) (map : Map) → IsMapAt sizes p map → p.plan.zone ≡ 0
    → left_in map ≡ old_blocks p.conversion.direction p.plan
left-at sizes p map at closed =
    ap (λ d. left_of d map.blocks map.boundary) at.direction
    ∙ ap (λ n. left_of (direction_of p.conversion.direction) n map.boundary) at.blocks
    ∙ ap (λ n. left_of (direction_of p.conversion.direction) (blocks_in p.plan) n) at.boundary
    ∙ left-old p.conversion.direction p.plan closed

pub map-behind : (sizes : Sizes) (p : Progress) (n : ℕ) (before after : Map)
    → IsMapAt sizes p before → IsMapAt sizes (progress_behind n p) after → p.plan.zone ≡ 0
    → n ≤ old_blocks p.conversion.direction p.plan → IsBehind n before after
map-behind sizes p n before after old new closed few = record {
  atom = new.atom ∙ sym old.atom;
  blocks_are =
      new.blocks ∙ blocks-behind p.conversion.direction n p.plan closed few ∙ sym old.blocks;
  direction = new.direction ∙ sym old.direction;
  old_place = new.old_place ∙ sym old.old_place;
  new_place = new.new_place ∙ sym old.new_place;
  left =
      (let a = left-at sizes p before old closed in
      let b = left-at sizes (progress_behind n p) after new
      (closed-behind p.conversion.direction n p.plan) in
      let c = old-behind p.conversion.direction n p.plan closed few in
      omega (arith, a, b, c));
}
