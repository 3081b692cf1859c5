-- The header with the boundary moved over an open zone: where the blocks lie by it, and whose keys
-- they have.
use Rattle.std.proofs.Common.{◌≡◌, ℕ, ◌≤◌, true, List, Option, Some, None, refl, sym, ◌∙◌}
use Rattle.std.proofs.Common.{subst, arith}
use Rattle.base_terms.specs.declared.disk_sizes.Sizes.{Sizes}
use Rattle.luks_meta.specs.declared.digest.Digest.{Digest}
use Rattle.luks_meta.specs.declared.meta.Parts.{Parts}
use Rattle.luks_meta.specs.declared.segment.Encryption.{Encryption}
use Rattle.luks_rules.specs.References.{value_at}
use Rattle.luks_rules.specs.declared.extents.Extent.{Extent}
use Rattle.luks_rules.specs.declared.plan.Plan.{Plan}
use Rattle.luks_rules.specs.declared.shape.Progress.{Progress}
use Rattle.luks_slots.specs.Unlocks.{matches}
use Rattle.image_laws.proofs.Opened.TurnLemmas.{Turns, map-side, moved-blocks, moved-closed, moved-within}
use Rattle.image_laws.proofs.Opened.TurnLemmas.{plan-turns, side_by}
use Rattle.reenc_meta.specs.ConversionMaps.{IsMapAt, boundary_in}
use Rattle.reenc_meta.specs.Layouts.{laid_out_by, listed_by, progress_at}
use Rattle.reenc_meta.specs.Moves.{IsGoneTo, moved}
use Rattle.reenc_meta.specs.Runs.{runs_of, sides_of}
use Rattle.reenc_meta.specs.declared.placement.Placement.{Placement}
use Rattle.reenc_recovery.specs.Keys.{IsKeyBy, IsKeyOf}
use Rattle.reenc_recovery.specs.Placings.{IsConvertingPlacement}
use Rattle.segment_map.specs.declared.Side.{Side}
use Rattle.segment_map.specs.declared.map.Map.{Map}
use Rattle.image_laws.proofs.Started.NumberLemmas.{value-changed}
use Rattle.volume_machine.specs.Pieces.{side_in}

-- ---- where the blocks lie
module _ (sizes : Sizes) (c : Progress) (map : Map) (is : IsMapAt sizes c map) where
  abbrev pub next-plan : Plan
  next-plan = moved c.conversion.direction c.plan.zone c.plan

  abbrev pub next-progress : Progress
  next-progress = progress_at next-plan c

  pub next-within : boundary_in c.conversion.direction next-plan ≤ map.blocks
  next-within =
      subst (λ (n : ℕ). boundary_in c.conversion.direction next-plan ≤ n) (sym is.blocks)
      (moved-within c.conversion.direction c.plan)

  abbrev pub next-map : Map
  next-map = record {
    atom = map.atom;
    blocks = map.blocks;
    boundary = boundary_in c.conversion.direction next-plan;
    direction = map.direction;
    zone = 0;
    old_place = map.old_place;
    new_place = map.new_place;
    some_atom = map.some_atom;
    most_atom = map.most_atom;
    within = next-within;
    zone_left = omega arith;
    old_places = map.old_places;
    new_places = map.new_places;
  }

  pub next-is : IsMapAt sizes next-progress next-map
  next-is = record {
    atom = is.atom;
    blocks = is.blocks ∙ moved-blocks c.conversion.direction c.plan;
    boundary = refl;
    direction = is.direction;
    zone = sym (moved-closed c.conversion.direction c.plan);
    old_place = is.old_place;
    new_place = is.new_place;
  }

  abbrev pub next-placement : Placement
  next-placement = record { map = next-map; old = next-progress.old; new = next-progress.new }

  pub next-placed : IsConvertingPlacement sizes next-progress next-placement
  next-placed = record {
    closed = moved-closed c.conversion.direction c.plan;
    map = next-is;
    old = refl;
    new = refl;
  }

  pub next-turns : (b : ℕ) → Turns (side_in map b) (side_in next-map b)
  next-turns b =
      subst (λ (side : Side). Turns side (side_in next-map b)) (sym (map-side sizes c map b is))
      (subst (λ (side : Side). Turns (side_by c.conversion.direction c.plan b) side)
      (sym (map-side sizes next-progress next-map b next-is))
      (plan-turns c.conversion.direction c.plan b))

-- ---- whose keys they have
-- a digest that lists other segments is the same key's
still-matches : (d : Digest) (segments : List ℕ) (key : List ℕ) → matches d key ≡ true
    → matches (record d { segments = segments }) key ≡ true
unfolding matches
still-matches d segments key is = is

module _ (m : Parts) (sizes : Sizes) (c : Progress) (plan : Plan) where
  listed : (n : ℕ) (d : Digest) → value_at m.digests n ≡ Some d
      → value_at (laid_out_by sizes.atom c plan m).digests n
      ≡ Some (listed_by c (sides_of (runs_of c.conversion.direction plan)) (n, d)).1
  unfolding laid_out_by
  listed n d is =
      value-changed (listed_by c (sides_of (runs_of c.conversion.direction plan))) (λ e. refl)
      m.digests n d is

  key-by : (e : Option Encryption) (digest : Option ℕ) (key : List ℕ) → IsKeyBy m e digest key
      → IsKeyBy (laid_out_by sizes.atom c plan m) e digest key
  key-by None digest key is = is
  key-by (Some e) None key is = is
  key-by (Some e) (Some n) key (d, there, same) = (
    (listed_by c (sides_of (runs_of c.conversion.direction plan)) (n, d)).1,
    listed n d there,
    still-matches d _ key same,
  )

pub key-stays : (m : Parts) (sizes : Sizes) (c : Progress) (plan : Plan) (next : Parts) (e : Extent)
    (key : List ℕ) → IsGoneTo m sizes c plan next → IsKeyOf m e key → IsKeyOf next e key
key-stays m sizes c plan next e key gone is =
    subst (λ (x : Parts). IsKeyOf x e key) (sym gone.is)
    (key-by m sizes c plan e.encryption e.digest key is)
