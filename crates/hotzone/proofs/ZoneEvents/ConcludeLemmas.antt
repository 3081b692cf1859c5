-- The finished header leaves every block where it is, and the areas that go hold none.
use Rattle.std.proofs.Common.{◌≡◌, ◌∙◌, inr, ℕ, zero, suc, ◌*◌, ◌<◌}
use Rattle.std.proofs.Common.{Bool, true, false, List, [], ◌∷◌, length, map, Option, Some, None, Ok}
use Rattle.std.proofs.Common.{refl, sym, ap, subst, arith, cond}
use Rattle.std.specs.Prelude.{Contains, ◌↔◌}
use Rattle.std.proofs.lemmas.List.Elements.{All-contains, All-filter}
use Rattle.std.specs.List.{All}
use Rattle.std.specs.Option.{IsSomeAnd}
use Rattle.crash_laws.specs.HeaderAreas.Areas.{Area as DiskArea}
use Rattle.crash_laws.specs.HeaderAreas.Headers.{IsLaidOut, Layout}
use Rattle.base_terms.specs.declared.disk_sizes.Sizes.{Sizes}
use Rattle.hotzone.specs.Endings.{IsEnding, wiped}
use Rattle.hotzone.specs.Known.{header_by}
use Rattle.hotzone.specs.Sites.{count_of}
use Rattle.hotzone.specs.Workers.{IsNextZone, IsWorking}
use Rattle.hotzone.specs.declared.worker.Ending.{Ending}
use Rattle.hotzone.specs.declared.worker.Worker.{Worker}
use Rattle.luks_store.specs.Copying.Meanings.{header_reader, meaning_of}
use Rattle.luks_meta.specs.declared.meta.Parts.{Parts}
use Rattle.luks_rules.specs.Areas.{areas_of}
use Rattle.luks_rules.specs.Conversions.{conversions_of, only}
use Rattle.luks_rules.specs.Idles.{idle_from, idle_of}
use Rattle.luks_rules.specs.Plans.{blocks_in}
use Rattle.luks_rules.specs.Segments.{in_progress}
use Rattle.luks_rules.specs.Shapes.{progress_of, progress_under}
use Rattle.luks_rules.specs.States.{IsConverting, IsSound as IsRuled}
use Rattle.luks_rules.specs.declared.areas.Area.{Area}
use Rattle.luks_rules.specs.declared.extents.Extent.{Extent}
use Rattle.luks_rules.specs.declared.idle.Idle.{Idle}
use Rattle.luks_rules.specs.declared.shape.Progress.{Progress}
use Rattle.luks_store.proofs.StoredLemmas.{rules-kept}
use Rattle.luks_store.specs.Loads.{IsStored}
use Rattle.luks_store.specs.declared.loaded.Stored.{Stored}
use Rattle.reenc_meta.specs.Finishes.{IsFinished, IsNewVolume}
use Rattle.reenc_meta.specs.Placements.{place_of as atom_of}
use Rattle.segment_map.specs.Sides.{left_of}
use Rattle.segment_map.specs.declared.Direction.TheVariants.{Forward}
use Rattle.segment_map.specs.declared.Side.TheVariants.{New}
use Rattle.segment_map.specs.declared.map.Map.{Map}
use Rattle.std.specs.Option.{option_and_then}
use Rattle.volume_machine.specs.Courses.{Succeeds, Turns}
use Rattle.volume_machine.specs.Pieces.{side_in}
use Rattle.volume_machine.specs.Sound.{MapFits}
use Rattle.volume_machine.specs.States.{State}
use Rattle.volume_machine.specs.WorkSteps.{AreAllOn, MayConclude}
use Rattle.volume_machine.specs.Working.{IsSpare}
use Rattle.volume_machine.specs.Works.{converting, no_blocks, resting}
use Rattle.hotzone.proofs.ZoneEvents.DropLemmas.{areas-drop, seals-stay}
use Rattle.hotzone.proofs.ZoneEvents.GroundLemmas.{IsKept, all-kept, area-between, atom-is}
use Rattle.hotzone.proofs.ZoneEvents.GroundLemmas.{closed-zone}
use Rattle.hotzone.proofs.ZoneEvents.GroundLemmas.{count-is, is-converting, one-progress}
use Rattle.hotzone.proofs.ZoneEvents.GroundLemmas.{same-places}
use Rattle.hotzone.proofs.ZoneEvents.MapLemmas.{HasShape, map-idle}
use Rattle.hotzone.proofs.ZoneEvents.NumberLemmas.{next-number}
use Rattle.hotzone.proofs.ZoneEvents.PlanLemmas.{copy-ends, map-now, next-zone, places-fit}
use Rattle.hotzone.proofs.ZoneEvents.SideLemmas.{all-behind, place-is, side-as}
use Rattle.hotzone.proofs.ZoneEvents.TellLemmas.{converts-told}
use Rattle.hotzone.proofs.ZoneEvents.TextLemmas.{next-parts, stored-parts}
use Rattle.hotzone.proofs.ZoneEvents.AlikeLemmas.{IsAlike, turns-by}
use Rattle.hotzone.specs.ZoneEvents.Heads.{header_on}
use Rattle.hotzone.specs.ZoneEvents.Promises.{IsLaneFree}
use Rattle.hotzone.specs.ZoneEvents.Readings.{idle_shape, keyslots_in, map_of, parts_in, reading_of}
use Rattle.hotzone.specs.ZoneEvents.Tellings.{area_on}
use Rattle.hotzone.specs.ZoneEvents.Works.{areas_behind}

-- where nothing is converted no conversion is so far
idle-none : (m : Parts) (sizes : Sizes) (v : Idle) → idle_of m sizes ≡ Some v
    → progress_of m sizes ≡ None
unfolding idle_of progress_of
idle-none m sizes v is = go (in_progress m.config) is
  where
    go : (b : Bool) → cond b None (idle_from sizes m.digests m.segments) ≡ Some v
        → cond b (option_and_then (progress_under sizes.atom m)
        (only (conversions_of m.keyslots))) None ≡ None
    go true h = cc
    go false h = refl

-- what an option that is there holds
found : {X : Type 0} (P : X → Type 0) (o : Option X) → IsSomeAnd o P
    → (x : X) × (o ≡ Some x) × P x
found P None is = absurd is
found P (Some x) is = (x, refl, is)

-- each of the elements of a mapped list
mapped : {X Y : Type 0} (f : X → Y) (P : Y → Type 0) (xs : List X) → All (λ x. P (f x)) xs
    → All P (map f xs)
mapped f P [] all k d below = absurd (omega (arith, below))
mapped f P (x ∷ xs) all zero d below = all 0 x (omega arith)
mapped f P (x ∷ xs) all (suc k) d below =
    mapped f P xs (λ i e under. all (suc i) e (omega (arith, under))) k d (omega (arith, below))

-- ---- the areas that go are areas of keyslots
pub ending-kept : (before : Stored) → IsRuled before.valid.meta before.valid.sizes
    → (ending : Ending) → IsEnding before ending
    → All (IsKept before.valid.meta before.valid.sizes) ending.wipes.areas
ending-kept before ruled ending are =
    subst (All (IsKept before.valid.meta before.valid.sizes)) (sym are.areas)
    (All-filter _ (IsKept before.valid.meta before.valid.sizes)
    (areas_of before.valid.meta.keyslots)
    (all-kept before.valid.meta before.valid.sizes ruled))

-- ---- the volume of the finished header
module _ {C : Type 0} (sector : C → ℕ) (w : Worker C) (working : IsWorking sector w)
    (stored : IsStored w.loaded) (ending : Ending) (are : IsEnding w.loaded ending) where
  abbrev q : Progress
  q = working.zone.now

  same-end : are.now ≡ q
  same-end =
      one-progress w.loaded.valid.meta w.loaded.valid.sizes are.now q are.known
      working.zone.is.known

  pub the-volume : (v : Idle) × (idle_of are.meta w.loaded.valid.sizes ≡ Some v)
      × IsNewVolume w.loaded.valid.sizes q v
  the-volume =
      found (IsNewVolume w.loaded.valid.sizes q) (idle_of are.meta w.loaded.valid.sizes)
      (subst (λ r. IsSomeAnd (idle_of are.meta w.loaded.valid.sizes)
      (IsNewVolume w.loaded.valid.sizes r)) same-end are.finished.idle)

  pub new-at : atom_of w.loaded.valid.sizes the-volume.0.segment
      ≡ atom_of w.loaded.valid.sizes q.new
  new-at = ap (atom_of w.loaded.valid.sizes) the-volume.2.segment

  abbrev final : Map
  final = map_of w.loaded.valid.sizes (header_by ending.commit).means

  pub the-shape : HasShape (idle_shape w.loaded.valid.sizes the-volume.0) final
  the-shape =
      map-idle w.loaded.valid.sizes (header_by ending.commit).means are.meta the-volume.0
      (next-parts w.loaded are.meta ending.commit stored are.commit)
      (idle-none are.meta w.loaded.valid.sizes the-volume.0 the-volume.1) the-volume.1
      working.disk.known
      (let fit = (places-fit sector w working stored).1 in
      let at = new-at in
      let blocks = the-volume.2.blocks in
      omega (arith, fit, at, blocks))

module _ {C K : Type 0} (sector : C → ℕ) (layout : Layout) (w : Worker C) (old : State K)
    (working : IsWorking sector w) (stored : IsStored w.loaded)
    (ruled : IsRuled w.loaded.valid.meta w.loaded.valid.sizes)
    (map_is : old.map ≡ map_of w.loaded.valid.sizes (meaning_of w.loaded.copies.used.bytes))
    (laid : IsLaidOut old.map.atom old.disk.atoms w.loaded.copies.used.header.hdr_size layout)
    (fits : MapFits old.map old.disk.atoms) (none : count_of w.site ≡ 0) where
  abbrev zone : IsNextZone w.loaded old.map w.site
  zone = next-zone sector w working stored old.map map_is

  abbrev p : Progress
  p = working.zone.now

  none-left : left_of old.map.direction old.map.blocks old.map.boundary ≡ 0
  none-left =
      let count = count-is w.loaded stored ruled old.map w.site zone in
      let room = (is-converting w.loaded stored ruled zone.now zone.is.known).1.room in
      omega (arith, count, room, none)

  pub all-new : AreAllOn old.map New
  all-new b below =
      side-as old.map old.map.direction old.map.blocks old.map.boundary 0 b refl refl refl
      (closed-zone w.loaded stored ruled old.map w.site zone)
      ∙ all-behind old.map.direction old.map.blocks old.map.boundary b none-left below

  module _ (ending : Ending) (are : IsEnding w.loaded ending) where
    abbrev next : Map
    next = map_of w.loaded.valid.sizes (header_by ending.commit).means

    abbrev volume : (v : Idle) × (idle_of are.meta w.loaded.valid.sizes ≡ Some v)
        × IsNewVolume w.loaded.valid.sizes p v
    volume = the-volume sector w working stored ending are

    place : atom_of w.loaded.valid.sizes volume.0.segment
        ≡ atom_of w.loaded.valid.sizes p.new
    place = ap (atom_of w.loaded.valid.sizes) volume.2.segment

    shape : HasShape (idle_shape w.loaded.valid.sizes volume.0) next
    shape = the-shape sector w working stored ending are

    at-now : (old.map.atom ≡ w.loaded.valid.sizes.atom) × (old.map.blocks ≡ blocks_in p.plan)
        × (old.map.new_place ≡ atom_of w.loaded.valid.sizes p.new)
    at-now =
        subst (λ (n : Map). (n.atom ≡ w.loaded.valid.sizes.atom) × (n.blocks ≡ blocks_in p.plan)
        × (n.new_place ≡ atom_of w.loaded.valid.sizes p.new)) (sym map_is)
        (let now = map-now sector w working stored in (now.atom, now.blocks, now.new_place))

    same-blocks : next.blocks ≡ old.map.blocks
    same-blocks = shape.blocks ∙ volume.2.blocks ∙ sym at-now.1

    alike : IsAlike old.map next
    alike =
        let same = same-places w.loaded stored ruled old.map w.site zone in
        record {
          atom = shape.atom ∙ sym at-now.0;
          blocks = same-blocks;
          old_place = shape.old_place ∙ place ∙ sym at-now.2 ∙ same;
          now_same = same;
          next_same = shape.new_place ∙ sym shape.old_place;
        }

    next-new : (b : ℕ) → b < old.map.blocks → side_in next b ≡ New
    next-new b below =
        side-as next Forward next.blocks next.blocks 0 b shape.direction refl
        (shape.boundary ∙ sym shape.blocks) shape.zone
        ∙ all-behind Forward next.blocks next.blocks b (omega arith)
        (let same = same-blocks in omega (arith, same, below))

    turns : Turns old.disk.atoms no_blocks New 0 old.map next
    turns =
        turns-by old.disk.atoms no_blocks New 0 old.map next alike fits
        (λ b from below. absurd (omega (arith, below)))
        (λ b inside beyond. next-new b inside ∙ sym (all-new b inside))
        (λ b from below. absurd (omega (arith, below)))

    succeeds : length w.loaded.copies.primary.salt ≡ 64
        → Succeeds header_reader (header_on w.loaded) (header_by ending.commit)
    succeeds salt = record {
      is = are.commit.whole;
      follows = are.commit.follows;
      number = next-number w.loaded are.meta ending.commit stored are.commit salt;
    }

    kept : All (IsKept w.loaded.valid.meta w.loaded.valid.sizes) ending.wipes.areas
    kept = ending-kept w.loaded ruled ending are

    -- an area of keyslots is spare
    spare-one : (a : Area) → IsKept w.loaded.valid.meta w.loaded.valid.sizes a
        → IsSpare old layout (area_on w.site.atom a)
    spare-one a is =
        let n = layout.first.count in
        let long : n * w.loaded.valid.sizes.atom ≡ w.loaded.copies.used.header.hdr_size =
        ap (λ k. n * k) (sym at-now.0) ∙ laid.long in
        let place : atom_of w.loaded.valid.sizes zone.now.old ≡ old.map.old_place =
        sym zone.map_is.old_place in
        let atom = atom-is w.loaded stored ruled old.map w.site zone in
        let same = same-places w.loaded stored ruled old.map w.site zone in
        let between = area-between w.loaded stored ruled zone.now zone.is.known a n is long in
        subst (λ k. IsSpare old layout (area_on k a)) (sym atom)
        (let low = between.0 in
        let high = between.1 in
        let old_fits = fits.old_places in
        record {
          within = omega (arith, high, place, old_fits);
          copies = λ copy. inr
              (let ends = copy-ends old.map.atom old.disk.atoms _ layout laid copy in
              omega (arith, ends, low));
          beside = λ b inside. inr
              (let at = place-is old.map b same in omega (arith, at, high, place));
        })

    spares : (area : DiskArea) → Contains (areas_behind w.site.atom 0 ending) area
        → IsSpare old layout area
    spares area has =
        All-contains (IsSpare old layout) (areas_behind w.site.atom 0 ending) area
        (mapped (area_on w.site.atom) (IsSpare old layout) ending.wipes.areas
        (λ k d below. spare-one _ (kept k d below))) has

    -- what it tells
    final-parts : parts_in (header_by ending.commit).means ≡ Ok are.meta
    final-parts = next-parts w.loaded are.meta ending.commit stored are.commit

    nothing : progress_of are.meta w.loaded.valid.sizes ≡ None
    nothing = idle-none are.meta w.loaded.valid.sizes volume.0 volume.1

    same-progress : are.now ≡ p
    same-progress =
        one-progress w.loaded.valid.meta w.loaded.valid.sizes are.now p are.known
        working.zone.is.known

    finished : IsFinished w.loaded.valid.meta w.loaded.valid.sizes p are.meta
    finished =
        subst (λ q. IsFinished w.loaded.valid.meta w.loaded.valid.sizes q are.meta) same-progress
        are.finished

    converted : (live : List Extent)
        × IsConverting w.loaded.valid.meta w.loaded.valid.sizes p live
    converted = is-converting w.loaded stored ruled p working.zone.is.known

    whole : All (IsKept w.loaded.valid.meta w.loaded.valid.sizes)
        (areas_of w.loaded.valid.meta.keyslots)
    whole = all-kept w.loaded.valid.meta w.loaded.valid.sizes ruled

    wiped-are : areas_behind w.site.atom 0 ending
        ≡ map (area_on w.loaded.valid.sizes.atom)
        (wiped p.conversion.area w.loaded.valid.meta.keyslots are.meta.keyslots)
    wiped-are =
        ap (λ k. map (area_on k) ending.wipes.areas)
        (atom-is w.loaded stored ruled old.map w.site zone)
        ∙ ap (map (area_on w.loaded.valid.sizes.atom))
        (are.areas
        ∙ ap (λ (q : Progress). wiped q.conversion.area w.loaded.valid.meta.keyslots
        are.meta.keyslots) same-progress)

    drops : (area : DiskArea) → Contains (areas_behind w.site.atom 0 ending) area
        ↔ (Contains (keyslots_in w.loaded.valid.sizes (meaning_of w.loaded.copies.used.bytes)) area
        × (Contains (keyslots_in w.loaded.valid.sizes (header_by ending.commit).means) area → ⊥))
    drops area =
        subst (λ areas. Contains areas area
        ↔ (Contains (keyslots_in w.loaded.valid.sizes (meaning_of w.loaded.copies.used.bytes)) area
        × (Contains (keyslots_in w.loaded.valid.sizes (header_by ending.commit).means) area → ⊥)))
        (sym wiped-are)
        (areas-drop w.loaded.valid.sizes p w.loaded.valid.meta are.meta finished volume.0 volume.2
        converted.0 converted.1 whole (meaning_of w.loaded.copies.used.bytes)
        (header_by ending.commit).means (stored-parts w.loaded stored) final-parts
        working.zone.is.known nothing volume.1 area)

    pub may-conclude : length w.loaded.copies.primary.salt ≡ 64 → IsLaneFree old → old.work ≡ Some (resting layout (header_on w.loaded) converting)
        → old.broken ≡ false
        → MayConclude (reading_of w.loaded.valid.sizes) old layout (header_on w.loaded)
        (header_by ending.commit) (areas_behind w.site.atom 0 ending)
    may-conclude salt free was unbroken = record {
      lane = free.lane;
      last = free.last;
      free = free.free;
      was = was;
      unbroken = unbroken;
      converted = all-new;
      succeeds = succeeds salt;
      turns = turns;
      rests = converts-told w.loaded.valid.sizes (header_by ending.commit).means are.meta None
          final-parts nothing;
      sealing = seals-stay w.loaded.valid.sizes p w.loaded.valid.meta are.meta finished volume.0
          volume.2 converted.0 converted.1 whole (meaning_of w.loaded.copies.used.bytes)
          (header_by ending.commit).means (stored-parts w.loaded stored) final-parts
          working.zone.is.known nothing volume.1 (rules-kept w.loaded stored);
      dropped = drops;
      spare = spares;
    }
