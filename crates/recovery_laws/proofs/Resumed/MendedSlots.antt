-- Once an open zone was written again what keyslots are read from is what it was before: so they give to a
-- passphrase, by the header with the boundary moved, the keys that they gave before.
use Rattle.std.proofs.Common.{◌≡◌, ◌*◌, ◌+◌, ◌≤◌, ℕ, Bool, true, false, List, length, map, Ok, Result, Some}
use Rattle.std.proofs.Common.{ap, refl, subst, ◌∙◌}
use Rattle.std.specs.List.{All}
use Rattle.base_terms.specs.declared.failed.Failed.{Failed}
use Rattle.crash_laws.specs.HeaderAreas.Headers.{Header, Layout}
use Rattle.base_terms.specs.declared.disk_sizes.Sizes.{Sizes}
use Rattle.sector_disk.specs.DiskViews.Views.{view_of_cells}
use Rattle.crash_laws.specs.HotZones.Calls.{ShowsMoved}
use Rattle.crash_laws.specs.HotZones.Zones.{Hotzone, Texts}
use Rattle.hotzone.specs.declared.site.Site.{Site}
use Rattle.sector_disk.specs.JoinedDisks.Counts.{HasSizes}
use Rattle.luks_store.specs.Copying.Meanings.{header_reader}
use Rattle.luks_store.specs.Promises.{AreasBeginBehind}
use Rattle.luks_store.specs.declared.loaded.Stored.{Stored}
use Rattle.sector_disk.specs.Cells.{Cell, content, synced}
use Rattle.sector_disk.specs.Devices.{Device}
use Rattle.sector_disk.specs.Steps.{Told}
use Rattle.image_laws.proofs.Started.AgreeLemmas.{IsReadAlike}
use Rattle.image_laws.specs.Started.Gaps.{key_areas}
use Rattle.image_laws.proofs.Led.BytesLemmas.{HasRest}
use Rattle.image_laws.proofs.Led.EndLemmas.{last-synced, long-end, rest-end}
use Rattle.image_laws.proofs.Led.LawLemmas.{begun}
use Rattle.image_laws.proofs.Led.MendStepLemmas.{goes-one, same-along, same-on}
use Rattle.image_laws.proofs.Led.RunLemmas.{At, Carries, carried, has-first, known-own, many-same, one-told}
use Rattle.image_laws.proofs.Led.RunLemmas.{over-before, stays-first, stays-kept, zone-same}
use Rattle.image_laws.proofs.Led.StartLemmas.{Begun, KeepsElsewhere, Laws, StartsWith, long-now, many-now}
use Rattle.image_laws.proofs.Led.StartLemmas.{more-now, read-now, start, within-now}
use Rattle.image_laws.proofs.Led.ZoneLemmas.{atom-is, follows-on, size-is}
use Rattle.image_laws.specs.Led.Holding.{TellsLawfully}
use Rattle.image_laws.specs.Led.Promises.{MendsFrom}
use Rattle.image_laws.specs.Led.Runs.{MendRun, none, one_more}
use Rattle.zone_mending.proofs.StepLemmas.{sizes-on}
use Rattle.zone_mending.specs.Known.{IsKnown, IsThrough, zone_in}
use Rattle.zone_mending.specs.Promises.{seals_in}
use Rattle.zone_mending.specs.Steps.{Goes}
use Rattle.zone_mending.specs.declared.mender.Mender.{Mender}

-- the bytes that a disk holds are read for keys as these ones are
pub record ReadsAlike (header : Stored) (bytes : List ℕ) (device : Device) : Type 0 where
  pub now : List ℕ
  pub values : device.values ≡ Some now
  pub alike : All (IsReadAlike bytes now) (key_areas header.valid.meta.keyslots)

module _ {C : Type 0} {sector : C → ℕ} {sealed opened : C → ℕ → List ℕ → List ℕ} {m : Mender C}
    {old : Device} {layout : Layout} {old_key new_key bytes : List ℕ}
    (laws : Laws sector sealed opened)
    (b : Begun sector sealed opened m old layout old_key new_key bytes) where
  -- ---- the last step
  module _ (before after : Mender C) (at new : Device) (c : Carries laws b before at)
      (tells : TellsLawfully new)
      (made : Goes (seals_in sealed opened before) at new before after true) (now : Told)
      (now_is : new.told ≡ Some now) (mid was : Told) (mid_is : at.told ≡ Some mid)
      (was_is : old.told ≡ Some was) (had : At laws b was was_is before mid) where
    abbrev shown : Header (List ℕ)
    shown = (start b laws was was_is).0

    abbrev texts : Texts
    texts = (start b laws was was_is).1

    started : StartsWith b shown texts was
    started = (start b laws was was_is).2

    abbrev zone : Hotzone (List ℕ)
    zone = zone_in m shown

    through : IsThrough layout shown texts before after (view_of_cells mid.now)
        (view_of_cells now.now)
    through =
        let led = laws.ends layout shown texts before after at new now
        (over-before laws b before after at new c tells) made now_is in
        let step = subst (λ (t : Told).
        IsKnown (seals_in sealed opened before) layout shown texts before (view_of_cells t.now)
        → IsThrough layout shown texts before after (view_of_cells t.now) (view_of_cells now.now))
        (one-told led.0 mid at.told led.1 mid_is) led.2 in
        step (known-own laws b before after at new c tells shown texts mid had.known)

    has : HasSizes m.loaded.valid.sizes new
    has =
        has-first laws b after.loaded new
        (same-along m before after c.same
        (same-on (seals_in sealed opened before) at new before after true made)).loaded
        (sizes-on (seals_in sealed opened before) at new before after true made c.sizes)

    kept : KeepsElsewhere m.loaded.valid.sizes.atom bytes layout zone now.now
    kept =
        stays-kept m.loaded.valid.sizes.atom bytes layout zone mid.now now.now
        (many-same laws b before after at new c tells mid now mid_is now_is has)
        (stays-first laws b before after at new c tells shown false mid now through.elsewhere)
        had.elsewhere

    shows : ShowsMoved m.loaded.valid.sizes.atom layout zone texts zone.own
        (view_of_cells now.now)
    shows =
        let atom : before.site.atom ≡ m.loaded.valid.sizes.atom =
        ap (λ (s : Site). s.atom) c.same.site ∙ atom-is sector m b.mends in
        subst (λ (a : ℕ). ShowsMoved a layout zone texts zone.own (view_of_cells now.now)) atom
        (subst (λ (z : Hotzone (List ℕ)). ShowsMoved before.site.atom layout z texts z.own
        (view_of_cells now.now)) (zone-same m before shown c.same) through.shows)

    sized : header_reader.size zone.moved.means ≡ m.loaded.copies.used.header.hdr_size
    sized =
        (follows-on sector m b.mends shown started.is.means).1
        ∙ ap header_reader.size started.is.means ∙ size-is sector m b.mends

    synced-is : (cells : List Cell) × (now.now ≡ map synced cells)
    synced-is =
        last-synced (seals_in sealed opened before) at new before after now made now_is

    long : length bytes ≡ length now.now * m.loaded.valid.sizes.atom
    long = long-now b was was_is shown texts started new now has tells now_is

    many : length now.now ≡ new.atoms
    many = many-now b was was_is shown texts started new now has tells now_is

    more : m.loaded.valid.sizes.header_atoms ≤ length now.now
    more = more-now b was was_is shown texts started new now has tells now_is

    within : zone.own.start + zone.own.count ≤ length now.now
    within = (within-now b was was_is shown texts started new now has tells now_is).own

    rest : HasRest m.loaded.valid.sizes layout zone bytes (content now.now)
    rest =
        rest-end laws.is_reader laws.taken m.loaded.valid.sizes layout zone texts bytes
        m.loaded.copies.used.header.hdr_size new now now_is tells has.atom many more b.laid
        started.is.next_header sized synced-is.0 synced-is.1 through.settled shows long kept within

    long-is : length (content now.now) ≡ length now.now * m.loaded.valid.sizes.atom
    long-is =
        long-end laws.is_reader laws.taken m.loaded.valid.sizes layout zone texts bytes
        m.loaded.copies.used.header.hdr_size new now now_is tells has.atom many more b.laid
        started.is.next_header sized synced-is.0 synced-is.1 through.settled shows long kept within

    read-end : ReadsAlike m.loaded bytes new
    read-end = record {
      now = content now.now;
      values = tells.alike.agrees now now_is;
      alike = read-now b was was_is shown texts started new now has tells now_is (content now.now)
          long-is rest;
    }

  -- ---- a run with its last step
  step-end : (before after : Mender C) (at new : Device) → Carries laws b before at
      → TellsLawfully new → Goes (seals_in sealed opened before) at new before after true
      → (now : Told) → new.told ≡ Some now → ReadsAlike m.loaded bytes new
  step-end before after at new c tells made now now_is =
      let one = goes-one (seals_in sealed opened before) at new before after true made now now_is in
      let k = c.told one.mid one.told in
      read-end before after at new c tells made now now_is one.mid k.0 one.told k.1 k.2

  run-end : (after : Mender C) (new : Device) (result : Result Bool Failed)
      → MendRun sealed opened m old after new result → result ≡ Ok true → (now : Told)
      → new.told ≡ Some now → ReadsAlike m.loaded bytes new
  run-end after new result none done now now_is = absurd cc
  run-end after new result (one_more before last at end (Ok true) run step tells) done now now_is =
      step-end before last at end (carried laws b before at (Ok false) run refl) tells step now now_is
  run-end after new result (one_more before last at end answer run step tells) done now now_is =
      absurd cc

-- ---- from the beginning as the law names it
pub mended-reads : {C : Type 0} {sector : C → ℕ} {sealed opened : C → ℕ → List ℕ → List ℕ}
    → Laws sector sealed opened → AreasBeginBehind → (sizes : Sizes) (header : Stored)
    (old_key new_key bytes : List ℕ) (mender after : Mender C) (old new : Device)
    → MendsFrom sector sealed opened sizes header old_key new_key bytes mender old
    → MendRun sealed opened mender old after new (Ok true) → (now : Told) → new.told ≡ Some now
    → ReadsAlike header bytes new
mended-reads {C} {sector} {sealed} {opened} laws areas sizes header old_key new_key bytes mender after
    old new from run now now_is = by-header header from.loaded from
  where
    by-sizes : (s : Sizes) → mender.loaded.valid.sizes ≡ s
        → MendsFrom sector sealed opened s mender.loaded old_key new_key bytes mender old
        → ReadsAlike mender.loaded bytes new
    by-sizes s same =
        subst (λ (x : Sizes).
        MendsFrom sector sealed opened x mender.loaded old_key new_key bytes mender old
        → ReadsAlike mender.loaded bytes new) same
        (λ here. run-end laws
        (begun sector sealed opened areas mender old old_key new_key bytes here) after new (Ok true) run
        refl now now_is)

    by-header : (h : Stored) → mender.loaded ≡ h
        → MendsFrom sector sealed opened sizes h old_key new_key bytes mender old
        → ReadsAlike h bytes new
    by-header h same =
        subst (λ (x : Stored).
        MendsFrom sector sealed opened sizes x old_key new_key bytes mender old
        → ReadsAlike x bytes new) same (λ here. by-sizes sizes here.sizes_are here)
