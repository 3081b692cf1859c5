-- Bytes that have every block beside an open zone where other bytes have it, and of the zone's blocks
-- what was saved of them, or their new atoms, stand for the same, by the header that has the zone
-- open, or by the one with the boundary moved over it.
use Rattle.std.proofs.Common.{◌≡◌, inr, ℕ, ◌+◌, ◌-◌, ◌<◌, List, length, Ok, Some}
use Rattle.std.proofs.Common.{refl, sym, ◌∙◌, ap, subst, arith}
use Rattle.crash_laws.specs.HeaderAreas.Headers.{Gives}
use Rattle.base_terms.specs.declared.disk_sizes.Sizes.{Sizes}
use Rattle.sector_disk.specs.DiskViews.Parts.{AreBlocks, block_at, value_in}
use Rattle.crash_laws.specs.HotZones.Standing.{Recovers}
use Rattle.crash_laws.specs.HotZones.Zones.{Texts}
use Rattle.crash_laws.specs.HotZones.Zones.{Resilience as Guard}
use Rattle.luks_store.specs.Copying.Meanings.{header_reader, meaning_of}
use Rattle.luks_meta.specs.declared.meta.Parts.{Parts}
use Rattle.luks_rules.specs.Shapes.{progress_of}
use Rattle.luks_rules.specs.declared.shape.Progress.{Progress}
use Rattle.luks_rules.specs.declared.valid.Checked.{Checked}
use Rattle.luks_store.specs.Devices.{front_of}
use Rattle.luks_store.specs.Loads.{IsStored, stored_in}
use Rattle.luks_store.specs.Promises.{LoadsByMeaning}
use Rattle.luks_store.specs.declared.loaded.Stored.{Stored}
use Rattle.image_laws.proofs.Opened.MovedLemmas.{key-stays, next-map, next-placed, next-placement}
use Rattle.image_laws.proofs.Opened.MovedLemmas.{next-plan, next-progress, next-turns}
use Rattle.image_laws.proofs.Opened.RecoverLemmas.{recovers-as}
use Rattle.image_laws.proofs.Opened.TurnLemmas.{LiesBeside, LiesIn, Turns, beside-zone, map-side}
use Rattle.image_laws.proofs.Opened.TurnLemmas.{zone-is-run}
use Rattle.image_laws.specs.Opened.Images.{HoldsOnSide, HoldsOpen, HoldsSaved, OpenStandsUnder, atom_in}
use Rattle.image_laws.specs.Opened.Images.{seals_at, sealed_both}
use Rattle.image_laws.specs.Opened.Zones.{zone_of}
use Rattle.reenc_meta.specs.ConversionMaps.{IsMapAt}
use Rattle.reenc_meta.specs.Moves.{IsGoneTo, moved}
use Rattle.reenc_meta.specs.Placements.{place_of}
use Rattle.reenc_recovery.specs.Images.{HoldsBlock, HoldsBlocks, StandsUnder}
use Rattle.reenc_recovery.specs.Keys.{IsKeyOf}
use Rattle.segment_map.specs.Maps.{place_on}
use Rattle.segment_map.specs.declared.Side.{Side}
use Rattle.segment_map.specs.declared.Side.TheVariants.{New, Old, Zone}
use Rattle.segment_map.specs.declared.map.Map.{Map}
use Rattle.volume_machine.specs.Pieces.{place_in, side_in}
use Rattle.volume_machine.specs.Saved.{saved_atoms, saved_hash}
use Rattle.volume_machine.specs.Seals.{Seals}

-- a block of the zone: its old atom and its new one are what it is sealed to on either side
pub record InZone (atom : ℕ) (seals : Seals) (texts : Texts) (i b : ℕ) (value : List ℕ) : Type 0
  where
    pub are : AreBlocks atom 1 value
    pub old_text : texts.old i ≡ seals.sealed Old b value
    pub new_text : texts.new i ≡ seals.sealed New b value
    pub old : value ≡ seals.opened Old b (seals.sealed Old b value)
    pub new : value ≡ seals.opened New b (seals.sealed New b value)

-- the blocks of a content, those of the zone by its atoms, and every other one where bytes have it
pub record HasContent (sizes : Sizes) (c : Progress) (map : Map) (seals : Seals) (texts : Texts)
    (first : List ℕ) (content : List (List ℕ)) : Type 0 where
  pub count : length content ≡ map.blocks
  pub zone : (b : ℕ) → b < map.blocks → side_in map b ≡ Zone
      → InZone sizes.atom seals texts (b - c.plan.first) b (value_in content b)
  pub rest : (b : ℕ) → b < map.blocks → (side_in map b ≡ Zone → ⊥)
      → HoldsBlock map seals b (value_in content b) (block_at sizes.atom first (place_in map b))

-- ---- what bytes stand for, by which header
-- by this one, by which the conversion is so far and a zone open
pub record OpensBy (sizes : Sizes) (header : Stored) (c : Progress) (old new now : List ℕ)
    (content : List (List ℕ)) : Type 0 where
  pub stands : OpenStandsUnder sizes old new now content
  pub valid : stands.stored.valid ≡ header.valid
  pub at : stands.now ≡ c

-- by this one, by which it is so far and none is
pub record ClosesBy (sizes : Sizes) (header : Stored) (c : Progress) (old new now : List ℕ)
    (content : List (List ℕ)) : Type 0 where
  pub stands : StandsUnder sizes old new now content
  pub valid : stands.stored.valid ≡ header.valid
  pub old_is : stands.placement.old ≡ c.old
  pub new_is : stands.placement.new ≡ c.new

module _ (sizes : Sizes) (c : Progress) (map : Map) (map_is : IsMapAt sizes c map)
    (in_place : place_of sizes c.new ≡ place_of sizes c.old) where
  -- each block lies in its old place
  place-is : (other : Map) → other.old_place ≡ place_of sizes c.old
      → other.new_place ≡ place_of sizes c.new → (b : ℕ)
      → place_in other b ≡ place_of sizes c.old + b
  place-is other old_at new_at b = on (side_in other b)
    where
      on : (side : Side) → place_on other b side ≡ place_of sizes c.old + b
      on Old = ap (λ n. n + b) old_at
      on Zone = ap (λ n. n + b) old_at
      on New = ap (λ n. n + b) (new_at ∙ in_place)

  pub place-here : (b : ℕ) → place_in map b ≡ place_of sizes c.old + b
  place-here = place-is map map_is.old_place map_is.new_place

  pub inside-zone : (b : ℕ) → side_in map b ≡ Zone → LiesIn c.plan b
  inside-zone b is = zone-is-run sizes c map b map_is is

  beside : (b : ℕ) → (side_in map b ≡ Zone → ⊥) → LiesBeside c.plan b
  beside b other =
      beside-zone c.conversion.direction c.plan b
      (λ is. other (map-side sizes c map b map_is ∙ is))

  abbrev turned-map : Map
  turned-map = next-map sizes c map map_is

  place-next : (b : ℕ) → place_in turned-map b ≡ place_of sizes c.old + b
  place-next = place-is turned-map map_is.old_place map_is.new_place

  module _ (old new : List ℕ) (texts : Texts) (first now : List ℕ) (content : List (List ℕ))
      (has : HasContent sizes c map (seals_at sizes.atom c old new) texts first content)
      (rest : (b : ℕ) → LiesBeside c.plan b → block_at sizes.atom now (place_in map b)
      ≡ block_at sizes.atom first (place_in map b)) where
    abbrev seals : Seals
    seals = seals_at sizes.atom c old new

    not-old : (b : ℕ) → side_in map b ≡ Old → side_in map b ≡ Zone → ⊥
    not-old b at is = (let f : Old ≡ Zone = sym at ∙ is in cc)

    not-new : (b : ℕ) → side_in map b ≡ New → side_in map b ≡ Zone → ⊥
    not-new b at is = (let f : New ≡ Zone = sym at ∙ is in cc)

    -- a block beside the zone is still there
    still : (b : ℕ) → b < map.blocks → (side_in map b ≡ Zone → ⊥)
        → HoldsBlock map seals b (value_in content b) (block_at sizes.atom now (place_in map b))
    still b below other =
        subst (λ (text : List ℕ). HoldsBlock map seals b (value_in content b) text)
        (sym (rest b (beside b other))) (has.rest b below other)

    -- ---- by the header that has the zone open
    module _ (tells : (i : ℕ) → i < c.plan.zone
        → Recovers (zone_of sizes c).resilience saved_hash (zone_of sizes c) texts
        (atom_in sizes.atom now) i) where
      saved-block : (b : ℕ) → b < map.blocks → side_in map b ≡ Zone
          → HoldsSaved sizes.atom (zone_of sizes c) c.plan.first seals (atom_in sizes.atom now) b
          (value_in content b)
      saved-block b below at =
          let is = has.zone b below at in
          let inside = inside-zone b at in
          let from = inside.0 in
          let end = inside.1 in
          let i = b - c.plan.first in
          let few : i < c.plan.zone = omega (arith, from, end) in
          record {
            are = is.are;
            tells = recovers-as (zone_of sizes c) (zone_of sizes c) (atom_in sizes.atom now)
                (atom_in sizes.atom now) texts (sealed_both seals b (value_in content b)) i refl refl
                (λ place from_it below_it. refl) is.old_text is.new_text (zone_of sizes c).resilience
                (λ by. subst (λ n. i < n)
                (sym (ap (λ (r : Guard). saved_atoms r sizes.atom c.plan.zone) by)) few)
                (tells i few);
            old = is.old;
            new = is.new;
          }

      open-block : (b : ℕ) → b < map.blocks → (side : Side) → side_in map b ≡ side
          → HoldsOnSide sizes c map seals now b (value_in content b) side
      open-block b below Old at = still b below (not-old b at)
      open-block b below New at = still b below (not-new b at)
      open-block b below Zone at = saved-block b below at

      pub open-holds : HoldsOpen sizes c map old new now content
      open-holds = record {
        count = has.count;
        blocks = λ b below. open-block b below (side_in map b) refl;
      }

      pub stands-open : LoadsByMeaning → (header : Stored) → IsStored header
          → header.valid.sizes ≡ sizes
          → Gives header_reader (front_of sizes now) (meaning_of header.copies.used.bytes)
          → progress_of header.valid.meta sizes ≡ Some c → 0 < c.plan.zone
          → IsKeyOf header.valid.meta c.old old → IsKeyOf header.valid.meta c.new new
          → OpensBy sizes header c old new now content
      stands-open loads header stored sizes_are gives known some old_key new_key =
          let loaded = loads (front_of sizes now) header stored gives in
          let meta : header.valid.meta ≡ loaded.0.valid.meta =
          ap (λ (v : Checked). v.meta) (sym loaded.2) in
          record {
            stands = record {
              stored = loaded.0;
              header = subst (λ (s : Sizes). stored_in s (front_of sizes now) ≡ Ok loaded.0)
                  sizes_are loaded.1;
              now = c;
              known = subst (λ (x : Parts). progress_of x sizes ≡ Some c) meta known;
              some = some;
              map = map;
              map_is = map_is;
              old_key = subst (λ (x : Parts). IsKeyOf x c.old old) meta old_key;
              new_key = subst (λ (x : Parts). IsKeyOf x c.new new) meta new_key;
              holds = open-holds;
            };
            valid = loaded.2;
            at = refl;
          }

    -- ---- by the one with the boundary moved
    module _ (own : (i : ℕ) → i < c.plan.zone
        → block_at sizes.atom now (place_of sizes c.old + c.plan.first + i) ≡ texts.new i) where
      other-block : (b : ℕ) → b < map.blocks → (side_in map b ≡ Zone → ⊥)
          → side_in map b ≡ side_in turned-map b
          → HoldsBlock turned-map seals b (value_in content b)
          (block_at sizes.atom now (place_in turned-map b))
      other-block b below other side =
          let is = has.rest b below other in
          let text : block_at sizes.atom now (place_in turned-map b)
          ≡ block_at sizes.atom first (place_in map b) =
          ap (λ n. block_at sizes.atom now n) (place-next b ∙ sym (place-here b))
          ∙ rest b (beside b other) in
          record {
            sealed = (
              is.sealed.0,
              text ∙ is.sealed.1 ∙ ap (λ s. seals.sealed s b (value_in content b)) side,
            );
            opened = is.opened
                ∙ ap (λ s. seals.opened s b (block_at sizes.atom first (place_in map b))) side
                ∙ ap (λ a. seals.opened (side_in turned-map b) b a) (sym text);
          }

      new-atom : (b : ℕ) → b < map.blocks → side_in map b ≡ Zone
          → block_at sizes.atom now (place_in turned-map b) ≡ seals.sealed New b (value_in content b)
      new-atom b below at =
          let inside = inside-zone b at in
          let from = inside.0 in
          let end = inside.1 in
          let few : b - c.plan.first < c.plan.zone = omega (arith, from, end) in
          let place : place_of sizes c.old + b
          ≡ place_of sizes c.old + c.plan.first + (b - c.plan.first) = omega (arith, from) in
          ap (λ n. block_at sizes.atom now n) (place-next b ∙ place)
          ∙ own (b - c.plan.first) few ∙ (has.zone b below at).new_text

      next-block : (b : ℕ) → b < map.blocks → (side : Side) → side_in map b ≡ side
          → Turns side (side_in turned-map b)
          → HoldsBlock turned-map seals b (value_in content b)
          (block_at sizes.atom now (place_in turned-map b))
      next-block b below Old at turns = other-block b below (not-old b at) (at ∙ sym turns)
      next-block b below New at turns = other-block b below (not-new b at) (at ∙ sym turns)
      next-block b below Zone at turns =
          let is = has.zone b below at in
          let text = new-atom b below at in
          record {
            sealed = (
              subst (λ (n : ℕ). AreBlocks n 1 (value_in content b)) (sym map_is.atom) is.are,
              text ∙ ap (λ s. seals.sealed s b (value_in content b)) (sym turns),
            );
            opened = is.new ∙ ap (λ a. seals.opened New b a) (sym text)
                ∙ ap (λ s. seals.opened s b (block_at sizes.atom now (place_in turned-map b)))
                (sym turns);
          }

      pub moved-holds : HoldsBlocks sizes.atom (next-placement sizes c map map_is) old new now content
      moved-holds = record {
        count = has.count;
        blocks = λ b below. next-block b below (side_in map b) refl
            (next-turns sizes c map map_is b);
      }

      pub stands-moved : LoadsByMeaning → (m : Parts) (next : Stored) → IsStored next
          → next.valid.sizes ≡ sizes
          → Gives header_reader (front_of sizes now) (meaning_of next.copies.used.bytes)
          → IsGoneTo m sizes c (moved c.conversion.direction c.plan.zone c.plan) next.valid.meta
          → IsKeyOf m c.old old → IsKeyOf m c.new new
          → ClosesBy sizes next (next-progress sizes c map map_is) old new now content
      stands-moved loads m next stored sizes_are gives gone old_key new_key =
          let loaded = loads (front_of sizes now) next stored gives in
          let meta : next.valid.meta ≡ loaded.0.valid.meta =
          ap (λ (v : Checked). v.meta) (sym loaded.2) in
          let plan = next-plan sizes c map map_is in
          record {
            stands = record {
              stored = loaded.0;
              header = subst (λ (s : Sizes). stored_in s (front_of sizes now) ≡ Ok loaded.0) sizes_are
                  loaded.1;
              placement = next-placement sizes c map map_is;
              placed = inr (
                next-progress sizes c map map_is,
                subst (λ (x : Parts). progress_of x sizes
                    ≡ Some (next-progress sizes c map map_is)) meta gone.progress,
                next-placed sizes c map map_is,
              );
              old_key = subst (λ (x : Parts). IsKeyOf x c.old old) meta
                  (key-stays m sizes c plan next.valid.meta c.old old gone old_key);
              new_key = subst (λ (x : Parts). IsKeyOf x c.new new) meta
                  (key-stays m sizes c plan next.valid.meta c.new new gone new_key);
              holds = moved-holds;
            };
            valid = loaded.2;
            old_is = refl;
            new_is = refl;
          }
