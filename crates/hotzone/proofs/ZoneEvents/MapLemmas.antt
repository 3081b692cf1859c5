-- The map that a header gives is that of its metadata.
use Rattle.std.proofs.Common.{◌≡◌, ◌∙◌, inl, inr, ℕ, ◌+◌, ◌^◌, ◌<◌, ◌≤◌}
use Rattle.std.proofs.Common.{Bool, true, false, List, Some, None, Ok, refl}
use Rattle.std.proofs.Common.{sym, ap, subst, arith}
use Rattle.std.proofs.lemmas.Bool.{le-leb, lt-ltb}
use Rattle.base_terms.specs.declared.disk_sizes.Sizes.{Sizes}
use Rattle.luks_meta.specs.declared.meta.Parts.{Parts}
use Rattle.luks_meta.specs.declared.reencrypt.Direction.{Direction as order}
use Rattle.luks_meta.specs.declared.reencrypt.Direction.TheVariants as orders
use Rattle.luks_rules.specs.Idles.{idle_of}
use Rattle.luks_rules.specs.Plans.{blocks_in}
use Rattle.luks_rules.specs.Shapes.{progress_of}
use Rattle.luks_rules.specs.declared.idle.Idle.{Idle}
use Rattle.luks_rules.specs.declared.plan.Plan.{Plan}
use Rattle.luks_rules.specs.declared.shape.Progress.{Progress}
use Rattle.reenc_meta.specs.ConversionMaps.{IsMapAt, boundary_in, direction_of}
use Rattle.reenc_meta.specs.Placements.{place_of}
use Rattle.sector_disk.specs.Geometry.{IsAtom}
use Rattle.segment_map.specs.Sides.{left_of}
use Rattle.segment_map.specs.declared.map.Map.{Map}
use Rattle.hotzone.specs.ZoneEvents.Readings.{Shape, idle_shape, is_map, map_by, map_of, map_when}
use Rattle.hotzone.specs.ZoneEvents.Readings.{map_with}
use Rattle.hotzone.specs.ZoneEvents.Readings.{parts_in, shape_at, shape_from, shape_of}

-- ---- a map of these numbers
pub record HasShape (s : Shape) (map : Map) : Type 0 where
  pub atom : map.atom ≡ s.atom
  pub blocks : map.blocks ≡ s.blocks
  pub boundary : map.boundary ≡ s.boundary
  pub direction : map.direction ≡ s.direction
  pub zone : map.zone ≡ s.zone
  pub old_place : map.old_place ≡ s.old_place
  pub new_place : map.new_place ≡ s.new_place

pub shaped-with : (s : Shape) (is : is_map s ≡ true) → HasShape s (map_with s is)
unfolding map_with
shaped-with s is = record {
  atom = refl;
  blocks = refl;
  boundary = refl;
  direction = refl;
  zone = refl;
  old_place = refl;
  new_place = refl;
}

pub shaped : (s : Shape) → is_map s ≡ true → HasShape s (map_by s)
unfolding map_by
shaped s is = go (is_map s) refl is
  where
    go : (b : Bool) (e : is_map s ≡ b) → b ≡ true → HasShape s (map_when s b e)
    go true e h = shaped-with s e
    go false e h = let bad : false ≡ true = h in cc

-- ---- the numbers are those of a map
boundary-within : (d : order) (plan : Plan) → boundary_in d plan ≤ blocks_in plan
boundary-within orders.Forward plan = omega arith
boundary-within orders.Backward plan = omega arith

zone-within : (d : order) (plan : Plan)
    → plan.zone ≤ left_of (direction_of d) (blocks_in plan) (boundary_in d plan)
zone-within orders.Forward plan = omega arith
zone-within orders.Backward plan = omega arith

pub some-atom : (atom : ℕ) → IsAtom atom → 0 < atom
some-atom atom (inl is) = omega (arith, is)
some-atom atom (inr is) = omega (arith, is)

most-atom : (atom : ℕ) → IsAtom atom → atom ≤ 1048576
most-atom atom (inl is) = omega (arith, is)
most-atom atom (inr is) = omega (arith, is)

is-map : (s : Shape) → 0 < s.atom → s.atom ≤ 1048576 → s.boundary ≤ s.blocks
    → s.zone ≤ left_of s.direction s.blocks s.boundary → s.old_place + s.blocks ≤ 2 ^ 64
    → s.new_place + s.blocks ≤ 2 ^ 64 → is_map s ≡ true
is-map s some most within zone old new =
    rw (
      lt-ltb 0 s.atom some,
      le-leb s.atom 1048576 most,
      le-leb s.boundary s.blocks within,
      le-leb s.zone (left_of s.direction s.blocks s.boundary) zone,
      le-leb (s.old_place + s.blocks) (2 ^ 64) old,
      le-leb (s.new_place + s.blocks) (2 ^ 64) new,
    )
    refl

-- ---- of a conversion
pub map-at : (sizes : Sizes) (means : List ℕ) (meta : Parts) (p : Progress)
    → parts_in means ≡ Ok meta → progress_of meta sizes ≡ Some p → IsAtom sizes.atom
    → place_of sizes p.old + blocks_in p.plan ≤ 2 ^ 64
    → place_of sizes p.new + blocks_in p.plan ≤ 2 ^ 64 → IsMapAt sizes p (map_of sizes means)
unfolding map_of
map-at sizes means meta p parts known atom old new =
    subst (λ s. IsMapAt sizes p (map_by s))
    (sym (ap (shape_of sizes) parts ∙ ap (λ o. shape_from sizes o (idle_of meta sizes)) known))
    (let has = shaped (shape_at sizes p)
    (is-map (shape_at sizes p) (some-atom sizes.atom atom) (most-atom sizes.atom atom)
    (boundary-within p.conversion.direction p.plan) (zone-within p.conversion.direction p.plan)
    old new) in
    record {
      atom = has.atom;
      blocks = has.blocks;
      boundary = has.boundary;
      direction = has.direction;
      zone = has.zone;
      old_place = has.old_place;
      new_place = has.new_place;
    })

-- of a volume of which nothing is converted
pub map-idle : (sizes : Sizes) (means : List ℕ) (meta : Parts) (v : Idle)
    → parts_in means ≡ Ok meta → progress_of meta sizes ≡ None → idle_of meta sizes ≡ Some v
    → IsAtom sizes.atom → place_of sizes v.segment + v.blocks ≤ 2 ^ 64
    → HasShape (idle_shape sizes v) (map_of sizes means)
unfolding map_of
map-idle sizes means meta v parts none idle atom fits =
    subst (λ s. HasShape (idle_shape sizes v) (map_by s))
    (sym (ap (shape_of sizes) parts ∙ ap (λ o. shape_from sizes o (idle_of meta sizes)) none
    ∙ ap (λ o. shape_from sizes None o) idle))
    (shaped (idle_shape sizes v)
    (is-map (idle_shape sizes v) (some-atom sizes.atom atom) (most-atom sizes.atom atom)
    (omega arith) (omega arith) fits fits))
