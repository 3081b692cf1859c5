-- What bytes stand for whose header has a zone open: the zone's blocks by what is saved of them.
use Rattle.std.proofs.Common.{◌≡◌, ℕ, ◌+◌, ◌-◌, ◌<◌, List, refl, ◌∙◌, ap, arith}
use Rattle.base_terms.specs.declared.disk_sizes.Sizes.{Sizes}
use Rattle.sector_disk.specs.DiskViews.Parts.{block_at, value_in}
use Rattle.crash_laws.specs.HotZones.Zones.{Hotzone, Texts}
use Rattle.luks_rules.specs.declared.shape.Progress.{Progress}
use Rattle.image_laws.proofs.Opened.TurnLemmas.{in-zone, map-side, zone-is-run}
use Rattle.image_laws.specs.Opened.Images.{HoldsOnSide, HoldsOpen, HoldsSaved, atom_in, seals_at}
use Rattle.image_laws.specs.Opened.Mending.{AreTextsOf}
use Rattle.image_laws.specs.Opened.Zones.{zone_of}
use Rattle.reenc_meta.specs.ConversionMaps.{IsMapAt}
use Rattle.reenc_recovery.specs.Images.{HoldsBlock}
use Rattle.segment_map.specs.declared.Side.{Side}
use Rattle.segment_map.specs.declared.Side.TheVariants.{New, Old, Zone}
use Rattle.segment_map.specs.declared.map.Map.{Map}
use Rattle.volume_machine.specs.Pieces.{place_in, side_in}
use Rattle.volume_machine.specs.Seals.{Seals}
use Rattle.image_laws.proofs.Led.ContentLemmas.{HasContent, InZone}

module _ (sizes : Sizes) (c : Progress) (map : Map) (map_is : IsMapAt sizes c map)
    (old new first : List ℕ) (content : List (List ℕ))
    (holds : HoldsOpen sizes c map old new first content) where
  abbrev seals : Seals
  seals = seals_at sizes.atom c old new

  abbrev IsHeld : ℕ → Type 0
  IsHeld b =
      HoldsSaved sizes.atom (zone_of sizes c) c.plan.first seals (atom_in sizes.atom first) b
      (value_in content b)

  held-at : (b : ℕ) (side : Side) → side ≡ Zone
      → HoldsOnSide sizes c map seals first b (value_in content b) side → IsHeld b
  held-at b Zone zone is = is
  held-at b Old zone is = absurd (let e : Old ≡ Zone = zone in cc)
  held-at b New zone is = absurd (let e : New ≡ Zone = zone in cc)

  -- each block of the zone is held as what is saved tells it
  pub held-zone : (i : ℕ) → i < c.plan.zone
      → HoldsSaved sizes.atom (zone_of sizes c) c.plan.first (seals_at sizes.atom c old new)
      (atom_in sizes.atom first) (c.plan.first + i) (value_in content (c.plan.first + i))
  held-zone i below =
      let b = c.plan.first + i in
      let blocks = map_is.blocks in
      held-at b (side_in map b)
      (map-side sizes c map b map_is
      ∙ in-zone c.conversion.direction c.plan b (omega arith) (omega (arith, below)))
      (holds.blocks b (omega (arith, below, blocks)))

  rest-at : (b : ℕ) (side : Side) → (side ≡ Zone → ⊥)
      → HoldsOnSide sizes c map seals first b (value_in content b) side
      → HoldsBlock map seals b (value_in content b) (block_at sizes.atom first (place_in map b))
  rest-at b Old other is = is
  rest-at b New other is = is
  rest-at b Zone other is = absurd (other refl)

  module _ (zone : Hotzone (List ℕ)) (texts : Texts) (count : zone.own.count ≡ c.plan.zone)
      (are : AreTextsOf c.plan.first (seals_at sizes.atom c old new) zone content texts) where
    zone-block : (b : ℕ) → side_in map b ≡ Zone → IsHeld b
        → InZone sizes.atom seals texts (b - c.plan.first) b (value_in content b)
    zone-block b at is =
        let i = b - c.plan.first in
        let inside = zone-is-run sizes c map b map_is at in
        let from = inside.0 in
        let end = inside.1 in
        let few : i < zone.own.count = omega (arith, from, end, count) in
        let whole : c.plan.first + i ≡ b = omega (arith, from) in
        record {
          are = is.are;
          old_text = are.old i few ∙ ap (λ n. seals.sealed Old n (value_in content n)) whole;
          new_text = are.new i few ∙ ap (λ n. seals.sealed New n (value_in content n)) whole;
          old = is.old;
          new = is.new;
        }

    pub open-content : HasContent sizes c map (seals_at sizes.atom c old new) texts first content
    open-content = record {
      count = holds.count;
      zone = λ b below at. zone-block b at (held-at b (side_in map b) at (holds.blocks b below));
      rest = λ b below other. rest-at b (side_in map b) other (holds.blocks b below);
    }
