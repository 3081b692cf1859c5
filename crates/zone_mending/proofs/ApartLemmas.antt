-- The areas of an open zone lie apart from each other and from the header's copies.
use Rattle.std.proofs.Common.{◌≡◌, ◌∙◌, inl, inr, ℕ, ◌+◌, ◌*◌, ◌≤◌, List, ap, arith}
use Rattle.crash_laws.specs.HeaderAreas.Headers.{Copy, Header, IsLaidOut, Layout, place_of, primary, secondary}
use Rattle.crash_laws.specs.HotZones.Zones.{IsApart}
use Rattle.hotzone.specs.Sites.{count_of, saved_count}
use Rattle.hotzone.specs.declared.site.Site.{Site}
use Rattle.luks_rules.specs.States.{IsSound}
use Rattle.luks_store.specs.Loads.{IsStored}
use Rattle.luks_store.specs.declared.loaded.Stored.{Stored}
use Rattle.sector_disk.specs.Devices.{Device}
use Rattle.segment_map.specs.declared.map.Map.{Map}
use Rattle.hotzone.proofs.ZoneEvents.GroundLemmas.{area-between, guard-kept, is-converting}
use Rattle.hotzone.proofs.ZoneEvents.GroundLemmas.{saved-room}
use Rattle.zone_mending.proofs.OpenZoneLemmas.{count-open, saved-is}
use Rattle.zone_mending.specs.Known.{mended_zone, zone_in}
use Rattle.zone_mending.specs.OpenZones.{IsOpenZone}
use Rattle.zone_mending.specs.Promises.{IsOver}
use Rattle.zone_mending.specs.declared.mender.Mender.{Mender}

-- what is saved of it lies behind both copies, each of so many atoms, and in front of its blocks
store-between : (header : Stored) (map : Map) (site : Site) (n : ℕ) → IsStored header
    → IsSound header.valid.meta header.valid.sizes → IsOpenZone header map site
    → n * header.valid.sizes.atom ≡ header.copies.used.header.hdr_size
    → (n + n ≤ site.store) × (site.store + saved_count site ≤ site.own)
store-between header map site n stored sound is long =
    let p = is.now in
    let known = is.is.known in
    let live = is-converting header stored sound p known in
    let kept = guard-kept header stored sound p known in
    let between = area-between header stored sound p known p.conversion.area n kept long in
    let store = ap (λ (s : Site). s.store) is.site_is in
    let own = ap (λ (s : Site). s.own) is.site_is in
    let count = count-open header map site is in
    let zone = live.1.zone in
    let room =
    saved-room p.conversion.resilience header.valid.sizes.atom p.conversion.area.size
    (count_of site) is.is.guarded sound.atom kept.size (omega (arith, zone, count)) in
    let same = saved-is header map site is in
    let place = is.map_is.old_place in
    let low = between.0 in
    let high = between.1 in
    (omega (arith, low, store), omega (arith, high, store, own, room, same, place))

-- ---- a zone whose blocks lie behind what is saved of them, and that behind both copies
copy-ends : (atom atoms size : ℕ) (layout : Layout) → IsLaidOut atom atoms size layout
    → (copy : Copy)
    → (place_of layout copy).start + (place_of layout copy).count
    ≤ layout.first.count + layout.first.count
copy-ends atom atoms size layout laid primary =
    let start = laid.first in omega (arith, start)
copy-ends atom atoms size layout laid secondary =
    let start = laid.second in let same = laid.same in omega (arith, start, same)

-- its areas lie apart, whatever its headers are
site-apart : (atom atoms size : ℕ) (layout : Layout) (site : Site)
    (opened last : Header (List ℕ)) → IsLaidOut atom atoms size layout
    → layout.first.count + layout.first.count ≤ site.store
    → site.store + saved_count site ≤ site.own
    → IsApart layout (mended_zone site opened last)
site-apart atom atoms size layout site opened last laid low high = record {
  own_store = inr (omega (arith, high));
  own_target = inr (omega arith);
  target_store = inl (omega arith);
  own_header = λ copy. inr
      (let ends = copy-ends atom atoms size layout laid copy in omega (arith, ends, low, high));
  target_header = λ copy. inl (omega arith);
  store_header = λ copy. inr
      (let ends = copy-ends atom atoms size layout laid copy in omega (arith, ends, low));
  headers = inl (let start = laid.first in let next = laid.second in omega (arith, start, next));
}

pub zone-apart : {C : Type 0} (sector : C → ℕ) (layout : Layout) (m : Mender C) (device : Device)
    → IsOver sector layout m device → (opened : Header (List ℕ))
    → IsApart layout (zone_in m opened)
zone-apart sector layout m device over opened =
    let mends = over.mends in
    let between =
    store-between m.loaded mends.map m.site layout.first.count mends.stored mends.sound mends.zone
    (ap (λ a. layout.first.count * a) over.sizes.atom ∙ over.laid.long) in
    site-apart device.size device.atoms _ layout m.site opened _ over.laid between.0
    between.1
