-- What bytes stand for whose header has no zone open, as the next zone has their blocks; and what other
-- bytes stand for by the same header.
use Rattle.std.proofs.Common.{◌≡◌, ◌⊎◌, inl, inr, ℕ, ◌+◌, ◌-◌, ◌<◌, ◌≤◌, List, length}
use Rattle.std.proofs.Common.{refl, sym, ◌∙◌, ap, subst, arith}
use Rattle.base_terms.specs.declared.disk_sizes.Sizes.{Sizes}
use Rattle.sector_disk.specs.DiskViews.Parts.{AreBlocks, block_at, value_in}
use Rattle.crash_laws.specs.HotZones.Zones.{Hotzone, Texts}
use Rattle.luks_meta.specs.declared.reencrypt.Direction.{Direction}
use Rattle.luks_meta.specs.declared.reencrypt.Direction.TheVariants.{Backward, Forward}
use Rattle.luks_rules.specs.Plans.{blocks_in}
use Rattle.luks_rules.specs.declared.plan.Plan.{Plan}
use Rattle.luks_rules.specs.declared.shape.Progress.{Progress}
use Rattle.image_laws.proofs.Opened.TurnLemmas.{LiesBeside, LiesIn, beside-zone, map-side}
use Rattle.image_laws.specs.Opened.Images.{seals_at}
use Rattle.reenc_meta.specs.ConversionMaps.{IsMapAt, boundary_in, direction_of}
use Rattle.reenc_meta.specs.Moves.{old_blocks, opened}
use Rattle.reenc_meta.specs.Placements.{place_of}
use Rattle.reenc_meta.specs.declared.placement.Placement.{Placement}
use Rattle.reenc_recovery.specs.Images.{HoldsBlock}
use Rattle.reenc_recovery.specs.Placings.{IsConvertingPlacement}
use Rattle.segment_map.specs.Sides.{left_of}
use Rattle.segment_map.specs.declared.Side.TheVariants.{New, Old, Zone}
use Rattle.segment_map.specs.declared.map.Map.{Map}
use Rattle.volume_machine.specs.Pieces.{place_in, side_in}
use Rattle.volume_machine.specs.Seals.{AreLawful, Seals}
use Rattle.image_laws.proofs.Led.ContentLemmas.{HasContent, InZone, inside-zone, place-here}
use Rattle.image_laws.proofs.Led.OpenSideLemmas.{old-inside, same-beside}
use Rattle.image_laws.specs.Led.Leading.{AreFirstIn, open_in}

-- ---- the map with the next zone open
boundary-open : (way : Direction) (n : ℕ) (plan : Plan) → plan.zone ≡ 0 → n ≤ old_blocks way plan
    → boundary_in way (opened way n plan) ≡ boundary_in way plan
boundary-open Forward n plan none few = refl
boundary-open Backward n plan none few = omega (arith, none, few)

blocks-open : (way : Direction) (n : ℕ) (plan : Plan) → plan.zone ≡ 0 → n ≤ old_blocks way plan
    → blocks_in plan ≡ blocks_in (opened way n plan)
blocks-open Forward n plan none few = omega (arith, none, few)
blocks-open Backward n plan none few = omega (arith, none, few)

zone-open : (way : Direction) (n : ℕ) (plan : Plan) → n ≡ (opened way n plan).zone
zone-open Forward n plan = refl
zone-open Backward n plan = refl

left-open : (way : Direction) (n blocks boundary : ℕ) (plan : Plan) → plan.zone ≡ 0
    → n ≤ old_blocks way plan → blocks ≡ blocks_in plan → boundary ≡ boundary_in way plan
    → n ≤ left_of (direction_of way) blocks boundary
left-open Forward n blocks boundary plan none few all at = omega (arith, none, few, all, at)
left-open Backward n blocks boundary plan none few all at = omega (arith, none, few, all, at)

module _ (sizes : Sizes) (closed : Progress) (n : ℕ) (none : closed.plan.zone ≡ 0)
    (few : n ≤ old_blocks closed.conversion.direction closed.plan) (map : Map)
    (is : IsMapAt sizes closed map) where
  abbrev way : Direction
  way = closed.conversion.direction

  pub few-left : n ≤ left_of map.direction map.blocks map.boundary
  few-left =
      subst (λ d. n ≤ left_of d map.blocks map.boundary) (sym is.direction)
      (left-open way n map.blocks map.boundary closed.plan none few is.blocks is.boundary)

  abbrev pub open-map : Map
  open-map = record {
    atom = map.atom;
    blocks = map.blocks;
    boundary = map.boundary;
    direction = map.direction;
    zone = n;
    old_place = map.old_place;
    new_place = map.new_place;
    some_atom = map.some_atom;
    most_atom = map.most_atom;
    within = map.within;
    zone_left = few-left;
    old_places = map.old_places;
    new_places = map.new_places;
  }

  pub open-is : IsMapAt sizes (open_in n closed) open-map
  open-is = record {
    atom = is.atom;
    blocks = is.blocks ∙ blocks-open way n closed.plan none few;
    boundary = is.boundary ∙ sym (boundary-open way n closed.plan none few);
    direction = is.direction;
    zone = zone-open way n closed.plan;
    old_place = is.old_place;
    new_place = is.new_place;
  }

  -- the sides of its blocks
  pub side-beside : (b : ℕ) → LiesBeside (opened way n closed.plan) b
      → side_in map b ≡ side_in open-map b
  side-beside b beside =
      map-side sizes closed map b is ∙ same-beside way closed.plan n b none few beside
      ∙ sym (map-side sizes (open_in n closed) open-map b open-is)

  pub side-inside : (b : ℕ) → LiesIn (opened way n closed.plan) b → side_in map b ≡ Old
  side-inside b inside =
      map-side sizes closed map b is ∙ old-inside way closed.plan n b none few inside

  pub beside-open : (b : ℕ) → (side_in open-map b ≡ Zone → ⊥)
      → LiesBeside (opened way n closed.plan) b
  beside-open b other =
      beside-zone way (opened way n closed.plan) b
      (λ at. other (map-side sizes (open_in n closed) open-map b open-is ∙ at))

-- ---- a block
-- on another side of another map, where both sides and both places are the same
block-as : (map other : Map) (seals : Seals) (b : ℕ) (value atom : List ℕ) → map.atom ≡ other.atom
    → side_in map b ≡ side_in other b → HoldsBlock map seals b value atom
    → HoldsBlock other seals b value atom
block-as map other seals b value atom same side is = record {
  sealed = (
    subst (λ (k : ℕ). AreBlocks k 1 value) same is.sealed.0,
    is.sealed.1 ∙ ap (λ s. seals.sealed s b value) side,
  );
  opened = is.opened ∙ ap (λ s. seals.opened s b atom) side;
}

module _ (sizes : Sizes) (closed : Progress) (n : ℕ) (none : closed.plan.zone ≡ 0)
    (few : n ≤ old_blocks closed.conversion.direction closed.plan)
    (in_place : place_of sizes closed.new ≡ place_of sizes closed.old) (p : Placement)
    (placed : IsConvertingPlacement sizes closed p) (old new : List ℕ)
    (lawful : AreLawful sizes.atom (seals_at sizes.atom (open_in n closed) old new))
    (zone : Hotzone (List ℕ)) (texts : Texts) (first : List ℕ) (content : List (List ℕ))
    (own : zone.own.start ≡ place_of sizes closed.old + (open_in n closed).plan.first)
    (count : zone.own.count ≡ (open_in n closed).plan.zone)
    (are : AreFirstIn sizes.atom (open_in n closed).plan.first
    (seals_at sizes.atom (open_in n closed) old new) zone first texts)
    (holds : (b : ℕ) → b < p.map.blocks → HoldsBlock p.map
    (seals_at sizes.atom (open_in n closed) old new) b (value_in content b)
    (block_at sizes.atom first (place_in p.map b)))
    (long : length content ≡ p.map.blocks) where
  abbrev seals : Seals
  seals = seals_at sizes.atom (open_in n closed) old new

  abbrev map-open : Map
  map-open = open-map sizes closed n none few p.map placed.map

  map-is : IsMapAt sizes (open_in n closed) map-open
  map-is = open-is sizes closed n none few p.map placed.map

  place-was : (b : ℕ) → place_in p.map b ≡ place_of sizes closed.old + b
  place-was = place-here sizes closed p.map placed.map in_place

  place-then : (b : ℕ) → place_in map-open b ≡ place_of sizes closed.old + b
  place-then = place-here sizes (open_in n closed) map-open map-is in_place

  same-place : (b : ℕ) → place_in p.map b ≡ place_in map-open b
  same-place b = place-was b ∙ sym (place-then b)

  zone-block : (b : ℕ) → b < p.map.blocks → side_in map-open b ≡ Zone
      → InZone sizes.atom seals texts (b - (open_in n closed).plan.first) b (value_in content b)
  zone-block b below at =
      let i = b - (open_in n closed).plan.first in
      let inside = inside-zone sizes (open_in n closed) map-open map-is in_place b at in
      let from = inside.0 in
      let end = inside.1 in
      let few_i : i < zone.own.count = omega (arith, from, end, count) in
      let whole : (open_in n closed).plan.first + i ≡ b = omega (arith, from) in
      let side = side-inside sizes closed n none few p.map placed.map b inside in
      let is = holds b below in
      let place : zone.own.start + i ≡ place_in p.map b =
      (let was = place-was b in omega (arith, own, from, was)) in
      let blocks : AreBlocks sizes.atom 1 (value_in content b) =
      subst (λ (k : ℕ). AreBlocks k 1 (value_in content b)) placed.map.atom is.sealed.0 in
      let old_text : texts.old i ≡ seals.sealed Old b (value_in content b) =
      are.old i few_i ∙ ap (block_at sizes.atom first) place ∙ is.sealed.1
      ∙ ap (λ s. seals.sealed s b (value_in content b)) side in
      let opens : value_in content b ≡ seals.opened Old b (seals.sealed Old b (value_in content b)) =
      sym (lawful.opens_sealed Old b (value_in content b) blocks) in
      record {
        are = blocks;
        old_text = old_text;
        new_text = are.new i few_i
            ∙ ap (λ k. seals.sealed New k (seals.opened Old k (texts.old i))) whole
            ∙ ap (λ text. seals.sealed New b (seals.opened Old b text)) old_text
            ∙ ap (λ text. seals.sealed New b text) (sym opens);
        old = opens;
        new = sym (lawful.opens_sealed New b (value_in content b) blocks);
      }

  rest-block : (b : ℕ) → b < p.map.blocks → (side_in map-open b ≡ Zone → ⊥)
      → HoldsBlock map-open seals b (value_in content b)
      (block_at sizes.atom first (place_in map-open b))
  rest-block b below other =
      let beside = beside-open sizes closed n none few p.map placed.map b other in
      subst (λ (place : ℕ). HoldsBlock map-open seals b (value_in content b)
      (block_at sizes.atom first place)) (same-place b)
      (block-as p.map map-open seals b (value_in content b)
      (block_at sizes.atom first (place_in p.map b)) refl
      (side-beside sizes closed n none few p.map placed.map b beside) (holds b below))

  pub led-content : HasContent sizes (open_in n closed) map-open seals texts first content
  led-content = record { count = long; zone = zone-block; rest = rest-block }

  -- ---- other bytes that have the old atoms of the zone, and every other block where it was
  module _ (now : List ℕ)
      (rest : (b : ℕ) → LiesBeside (open_in n closed).plan b
      → block_at sizes.atom now (place_in map-open b) ≡ block_at sizes.atom first (place_in map-open b))
      (old_atoms : (i : ℕ) → i < (open_in n closed).plan.zone
      → block_at sizes.atom now (place_of sizes closed.old + (open_in n closed).plan.first + i)
      ≡ texts.old i) where
    atom-was : (b : ℕ) → (LiesBeside (open_in n closed).plan b) ⊎ (LiesIn (open_in n closed).plan b)
        → block_at sizes.atom now (place_in p.map b) ≡ block_at sizes.atom first (place_in p.map b)
    atom-was b (inl beside) =
        ap (block_at sizes.atom now) (same-place b) ∙ rest b beside
        ∙ sym (ap (block_at sizes.atom first) (same-place b))
    atom-was b (inr inside) =
        let i = b - (open_in n closed).plan.first in
        let from = inside.0 in
        let end = inside.1 in
        let few_i : i < (open_in n closed).plan.zone = omega (arith, from, end) in
        let here : i < zone.own.count = omega (arith, few_i, count) in
        let was = place-was b in
        let place : place_in p.map b
        ≡ place_of sizes closed.old + (open_in n closed).plan.first + i = omega (arith, was, from) in
        let own_place : zone.own.start + i ≡ place_in p.map b = omega (arith, own, from, was) in
        ap (block_at sizes.atom now) place ∙ old_atoms i few_i ∙ are.old i here
        ∙ ap (block_at sizes.atom first) own_place

    pub closed-holds : ((b : ℕ)
        → (LiesBeside (open_in n closed).plan b) ⊎ (LiesIn (open_in n closed).plan b))
        → (b : ℕ) → b < p.map.blocks → HoldsBlock p.map seals b (value_in content b)
        (block_at sizes.atom now (place_in p.map b))
    closed-holds lies b below =
        subst (λ (text : List ℕ). HoldsBlock p.map seals b (value_in content b) text)
        (sym (atom-was b (lies b))) (holds b below)
