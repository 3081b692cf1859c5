-- The zone that begins next lies where a volume's worker may plan one.
use Rattle.std.proofs.Common.{◌≡◌, ◌∙◌, inl, inr, ℕ, ◌+◌, ◌*◌, ◌^◌, ◌<◌, ◌≤◌, List, Some}
use Rattle.std.proofs.Common.{refl, sym, ap, subst, arith}
use Rattle.std.proofs.lemmas.Grind.{div_ceil_times}
use Rattle.crash_laws.specs.HeaderAreas.Areas.{Area}
use Rattle.crash_laws.specs.HeaderAreas.Headers.{Copy, Header, IsLaidOut, Layout, place_of, primary, secondary}
use Rattle.sector_disk.specs.DiskViews.Views.{IsOutside}
use Rattle.crash_laws.specs.HotZones.Standing.{IsPhaseOf}
use Rattle.crash_laws.specs.HotZones.Zones.{Hotzone, IsApart, Reaches, its_header, its_own, its_store}
use Rattle.crash_laws.specs.HotZones.Zones.{its_target, saving}
use Rattle.hotzone.proofs.WorkingLemmas.{fits-disk}
use Rattle.hotzone.specs.Known.{zone_by}
use Rattle.hotzone.specs.Sites.{IsSaved, count_of, guard_of, kind_of, saved_count}
use Rattle.hotzone.specs.declared.site.Guard.{Guard}
use Rattle.hotzone.specs.declared.site.Guard.TheVariants as guards
use Rattle.hotzone.specs.declared.site.Site.{Site}
use Rattle.hotzone.specs.Workers.{FitsDisk, IsNextZone, IsWorking}
use Rattle.hotzone.specs.declared.worker.Worker.{Worker}
use Rattle.sector_disk.specs.JoinedDisks.Counts.{HasSizes}
use Rattle.luks_store.specs.Copying.Meanings.{meaning_of}
use Rattle.luks_meta.specs.declared.reencrypt.Resilience.{Resilience}
use Rattle.luks_meta.specs.declared.reencrypt.Resilience.TheVariants as kinds
use Rattle.luks_rules.specs.Plans.{blocks_in}
use Rattle.luks_rules.specs.States.{IsSound as IsRuled}
use Rattle.luks_store.specs.Loads.{IsStored}
use Rattle.reenc_meta.specs.ConversionMaps.{IsMapAt}
use Rattle.reenc_meta.specs.Placements.{place_of as atom_of}
use Rattle.segment_map.specs.declared.map.Map.{Map}
use Rattle.volume_machine.specs.Courses.{IsBeyond, IsPlanned}
use Rattle.volume_machine.specs.Pieces.{place_in}
use Rattle.volume_machine.specs.Saved.{saved_atoms}
use Rattle.volume_machine.specs.States.{State}
use Rattle.volume_machine.specs.Working.{HasRoom}
use Rattle.volume_machine.specs.Works.{wanted}
use Rattle.hotzone.proofs.ZoneEvents.GroundLemmas.{by-map, closed-zone, end-inside, end-is, few}
use Rattle.hotzone.proofs.ZoneEvents.GroundLemmas.{atom-is, guard-is, own-is, same-places, start-is}
use Rattle.hotzone.proofs.ZoneEvents.GroundLemmas.{store-between, store-few}
use Rattle.hotzone.proofs.ZoneEvents.MapLemmas.{map-at}
use Rattle.hotzone.proofs.ZoneEvents.SideLemmas.{beside-old, place-is, side-as}
use Rattle.hotzone.proofs.ZoneEvents.TellLemmas.{converts-told, guard-told, store-told}
use Rattle.hotzone.proofs.ZoneEvents.TextLemmas.{size-meant, stored-parts}
use Rattle.hotzone.specs.ZoneEvents.Heads.{header_on}
use Rattle.hotzone.specs.ZoneEvents.Holding.{ZonesArePlanned}
use Rattle.hotzone.specs.ZoneEvents.Readings.{map_of, reading_of, store_in}
use Rattle.hotzone.specs.ZoneEvents.Tellings.{area_on, resilience_of}
use Rattle.hotzone.specs.ZoneEvents.Works.{between, unnamed}

-- what guards the zone
pub kind-told : (r : Resilience) → IsSaved r → resilience_of r ≡ kind_of (guard_of r)
kind-told kinds.Journal by = refl
kind-told (kinds.Checksum n) by = refl
kind-told (kinds.Datashift n) by = absurd by

phased-by : (g : Guard) → IsPhaseOf (kind_of g) (saving 0)
phased-by guards.Journal = tt
phased-by guards.Checksum = tt

-- and that there is room for what is saved of it
enough-by : (g : Guard) (atom : ℕ) (zone : Hotzone (List ℕ)) → 0 < atom
    → zone.store.count ≡ saved_atoms (kind_of g) atom zone.own.count → HasRoom (kind_of g) atom zone
enough-by guards.Journal atom zone some is = is
enough-by guards.Checksum atom zone some is =
    subst (λ n. zone.own.count * 32 ≤ n * atom) (sym is)
    (div_ceil_times (zone.own.count * 32) atom some).0

-- where a copy ends
pub copy-ends : (atom atoms size : ℕ) (layout : Layout) → IsLaidOut atom atoms size layout
    → (copy : Copy)
    → (place_of layout copy).start + (place_of layout copy).count
    ≤ layout.first.count + layout.first.count
copy-ends atom atoms size layout laid primary =
    let start = laid.first in omega (arith, start)
copy-ends atom atoms size layout laid secondary =
    let start = laid.second in let same = laid.same in omega (arith, start, same)

-- ---- the map that the header gives is that of the worker
module _ {C : Type 0} (sector : C → ℕ) (w : Worker C) (working : IsWorking sector w)
    (stored : IsStored w.loaded) where
  pub places-fit : (atom_of w.loaded.valid.sizes working.zone.now.old
      + blocks_in working.zone.now.plan ≤ 2 ^ 64)
      × (atom_of w.loaded.valid.sizes working.zone.now.new
      + blocks_in working.zone.now.plan ≤ 2 ^ 64)
  places-fit =
      let old = w.map.old_places in
      let new = w.map.new_places in
      let blocks = working.zone.map_is.blocks in
      let one = working.zone.map_is.old_place in
      let two = working.zone.map_is.new_place in
      (omega (arith, old, blocks, one), omega (arith, new, blocks, two))

  pub map-now : IsMapAt w.loaded.valid.sizes working.zone.now
      (map_of w.loaded.valid.sizes (meaning_of w.loaded.copies.used.bytes))
  map-now =
      map-at w.loaded.valid.sizes (meaning_of w.loaded.copies.used.bytes) w.loaded.valid.meta
      working.zone.now (stored-parts w.loaded stored) working.zone.is.known working.disk.known
      places-fit.0 places-fit.1

  pub next-zone : (map : Map)
      → map ≡ map_of w.loaded.valid.sizes (meaning_of w.loaded.copies.used.bytes)
      → IsNextZone w.loaded map w.site
  next-zone map is =
      by-map w.loaded w.map map w.site working.zone
      (subst (λ n. IsMapAt w.loaded.valid.sizes working.zone.now n) (sym is) map-now)

module _ {C K : Type 0} (sector : C → ℕ) (layout : Layout) (w : Worker C) (old : State K)
    (working : IsWorking sector w) (stored : IsStored w.loaded)
    (ruled : IsRuled w.loaded.valid.meta w.loaded.valid.sizes)
    (sized : HasSizes w.loaded.valid.sizes old.disk)
    (map : old.map ≡ map_of w.loaded.valid.sizes (meaning_of w.loaded.copies.used.bytes))
    (laid : IsLaidOut old.map.atom old.disk.atoms w.loaded.copies.used.header.hdr_size layout)
  where
    abbrev zone : IsNextZone w.loaded old.map w.site
    zone = next-zone sector w working stored old.map map

    fits : FitsDisk sector w old.disk
    fits = fits-disk sector w old.disk working sized

    -- where it lies between the copies and the blocks
    lies-between : (layout.first.count + layout.first.count ≤ w.site.store)
        × (w.site.store + saved_count w.site ≤ old.map.old_place)
    lies-between =
        store-between w.loaded stored ruled old.map w.site zone layout.first.count
        (ap (λ n. layout.first.count * n) (sym zone.map_is.atom) ∙ laid.long)

    own : w.site.own ≡ old.map.old_place + w.site.blocks.start
    own = own-is w.loaded stored ruled old.map w.site zone

    place : (b : ℕ) → place_in old.map b ≡ old.map.old_place + b
    place b = place-is old.map b (same-places w.loaded stored ruled old.map w.site zone)

    -- its areas lie apart, whatever its headers are
    pub zone-apart : (first middle last : Header (List ℕ))
        → IsApart layout (zone_by w.site first middle last)
    zone-apart first middle last =
        let here = own in
        let low = lies-between.0 in
        let high = lies-between.1 in
        record {
          own_store = inr (omega (arith, here, high));
          own_target = inr (omega arith);
          target_store = inl (omega arith);
          own_header = λ copy. inr
              (let ends = copy-ends old.map.atom old.disk.atoms _ layout laid copy in
              omega (arith, ends, low, high, here));
          target_header = λ copy. inl (omega arith);
          store_header = λ copy. inr
              (let ends = copy-ends old.map.atom old.disk.atoms _ layout laid copy in
              omega (arith, ends, low));
          headers = inl (let start = laid.first in let next = laid.second in
              omega (arith, start, next));
        }

    -- no other block lies in one of them
    pub zone-away : (first middle last : Header (List ℕ)) (b : ℕ) → IsBeyond w.site.blocks b
        → (area : Area) → Reaches layout (zone_by w.site first middle last) area
        → IsOutside area.start area.count (place_in old.map b)
    zone-away first middle last b beyond area its_own =
        let here = own in
        let at = place b in
        let end = end-is w.loaded stored ruled old.map w.site zone in
        elim beyond [
          | inl before ↦ inl (omega (arith, here, at, before))
          | inr behind ↦ inr (omega (arith, here, at, end, behind))
        ]
    zone-away first middle last b beyond area its_target = inr (omega arith)
    zone-away first middle last b beyond area its_store =
        let at = place b in let high = lies-between.1 in inr (omega (arith, at, high))
    zone-away first middle last b beyond area (its_header copy) =
        let at = place b in
        let low = lies-between.0 in
        let high = lies-between.1 in
        let ends = copy-ends old.map.atom old.disk.atoms _ layout laid copy in
        inr (omega (arith, at, low, high, ends))

    guarded-by : store_in w.loaded.valid.sizes (meaning_of w.loaded.copies.used.bytes)
        ≡ area_on w.loaded.valid.sizes.atom working.zone.now.conversion.area
    guarded-by =
        store-told w.loaded.valid.sizes (meaning_of w.loaded.copies.used.bytes)
        w.loaded.valid.meta (Some working.zone.now) (stored-parts w.loaded stored)
        working.zone.is.known

    pub is-planned : 0 < count_of w.site
        → IsPlanned (reading_of w.loaded.valid.sizes) old layout (header_on w.loaded)
        (unnamed layout w (wanted 0))
    is-planned some =
        let end = end-is w.loaded stored ruled old.map w.site zone in
        record {
          converts =
              converts-told w.loaded.valid.sizes (meaning_of w.loaded.copies.used.bytes)
              w.loaded.valid.meta (Some working.zone.now) (stored-parts w.loaded stored)
              working.zone.is.known;
          guard = sym
              (guard-told w.loaded.valid.sizes (meaning_of w.loaded.copies.used.bytes)
              w.loaded.valid.meta (Some working.zone.now) (stored-parts w.loaded stored)
              working.zone.is.known
              ∙ kind-told working.zone.now.conversion.resilience working.zone.is.guarded
              ∙ sym (ap kind_of (guard-is w.loaded stored ruled w.map w.site working.zone)));
          store = λ some_store.
              ap (λ (s : Site). s.store) working.zone.site_is
              ∙ sym (ap (λ (a : Area). a.start) guarded-by);
          store_within =
              (let few = store-few w.loaded stored ruled w.map w.site working.zone in
              let area = ap (λ (a : Area). a.count) guarded-by in
              omega (arith, few, area));
          layout_is = refl;
          before = refl;
          opened = refl;
          moved = refl;
          part = refl;
          progress = refl;
          first = refl;
          phased = phased-by w.site.guard;
          apart = zone-apart (header_on w.loaded) (header_on w.loaded) (header_on w.loaded);
          within = record {
            own = fits.own;
            target = omega arith;
            store = fits.store;
          };
          count = end;
          inside = end-inside w.loaded stored ruled old.map w.site zone;
          some = omega (arith, some, end);
          fewer = omega arith;
          enough = enough-by w.site.guard old.map.atom
              (zone_by w.site (header_on w.loaded) (header_on w.loaded) (header_on w.loaded))
              (subst (λ a. 0 < a) (sym zone.map_is.atom) ruled.atom)
              (ap (λ a. saved_atoms (kind_of w.site.guard) a (count_of w.site))
              (atom-is w.loaded stored ruled old.map w.site zone ∙ sym zone.map_is.atom));
          sides = λ b from below.
              side-as old.map old.map.direction old.map.blocks old.map.boundary 0 b refl refl refl
              (closed-zone w.loaded stored ruled old.map w.site zone)
              ∙ beside-old old.map.blocks old.map.boundary (count_of w.site) b old.map.direction
              old.map.within (few w.loaded stored ruled old.map w.site zone)
              (let start = start-is w.loaded stored ruled old.map w.site zone in
              omega (arith, start, from))
              (let start = start-is w.loaded stored ruled old.map w.site zone in
              omega (arith, start, end, below));
          places = λ b from below.
              (let at = place b in let here = own in omega (arith, at, here, from));
          away = λ b inside beyond area reaches.
              zone-away (header_on w.loaded) (header_on w.loaded) (header_on w.loaded) b beyond
              area reaches;
        }

pub zones-planned : {C : Type 0} (sector : C → ℕ) → ZonesArePlanned sector
zones-planned sector layout w state kept on was some =
    let course = on.courses (between layout w) was in
    is-planned sector layout w state kept.working kept.stored kept.ruled on.sizes_are course.map
    (subst (λ n. IsLaidOut state.map.atom state.disk.atoms n layout)
    (size-meant w.loaded kept.stored) course.laid) some
