-- A volume that takes a zone which begins with its header is in order.
use Rattle.std.proofs.Common.{◌≡◌, ◌∙◌, inl, inr, ℕ, suc, ◌+◌, ◌*◌, ◌<◌, ◌≤◌, ◌==◌}
use Rattle.std.proofs.Common.{length, Option, Some, None, refl, sym, ap, subst}
use Rattle.std.proofs.Common.{arith}
use Rattle.std.specs.Prelude.{IsSomeAnd}
use Rattle.crash_laws.specs.HeaderAreas.Areas.{Area}
use Rattle.crash_laws.specs.HeaderAreas.Headers.{Copy, IsHeader, IsLaidOut, Layout, place_of}
use Rattle.sector_disk.specs.DiskViews.Views.{IsOutside}
use Rattle.crash_laws.specs.HotZones.Zones.{Reaches, its_header, its_own, its_store, its_target}
use Rattle.hotzone.specs.Sites.{count_of, saved_count}
use Rattle.hotzone.specs.Workers.{IsNextZone}
use Rattle.hotzone.specs.declared.worker.Worker.{Worker}
use Rattle.sector_disk.specs.JoinedDisks.Counts.{HasSizes}
use Rattle.luks_store.specs.Copying.Meanings.{header_reader, meaning_of}
use Rattle.luks_rules.specs.declared.shape.Progress.{Progress}
use Rattle.luks_store.proofs.PageLemmas.{page-place, size-pages}
use Rattle.reenc_meta.specs.ConversionMaps.{IsMapAt, IsMapOf}
use Rattle.segment_map.specs.declared.map.Map.{Map}
use Rattle.volume_laws.specs.Converting.{IsInOrder}
use Rattle.volume_machine.specs.Courses.{IsOnCourse}
use Rattle.volume_machine.specs.Pieces.{place_in}
use Rattle.volume_machine.specs.Sound.{IsSound}
use Rattle.volume_machine.specs.States.{State, open_at}
use Rattle.volume_machine.specs.Working.{IsWorkers, IsWorking as WorksOn}
use Rattle.volume_machine.specs.Works.{Work, empty_zone}
use Rattle.volume_machine.specs.declared.keys.Keys.{Keys}
use Rattle.volume_machine.specs.declared.open.Open.{Open}
use Rattle.hotzone.proofs.ZoneEvents.GroundLemmas.{one-progress, same-places, store-between}
use Rattle.hotzone.proofs.ZoneEvents.HereLemmas.{first-rests}
use Rattle.hotzone.proofs.ZoneEvents.LoadedLemmas.{loaded-header}
use Rattle.hotzone.proofs.ZoneEvents.MemberLemmas.{has-none}
use Rattle.hotzone.proofs.ZoneEvents.PlanLemmas.{copy-ends, map-now}
use Rattle.hotzone.proofs.ZoneEvents.SameLemmas.{same-maps}
use Rattle.hotzone.proofs.ZoneEvents.SideLemmas.{place-is}
use Rattle.hotzone.proofs.ZoneEvents.TextLemmas.{size-meant}
use Rattle.hotzone.specs.ZoneEvents.Heads.{header_on}
use Rattle.hotzone.specs.ZoneEvents.Holding.{IsKept, ZonesBeginInOrder}
use Rattle.hotzone.specs.ZoneEvents.Promises.{IsLaneFree}
use Rattle.hotzone.specs.ZoneEvents.Readings.{map_of, reading_of}
use Rattle.hotzone.specs.ZoneEvents.Works.{between, layout_of}

-- ---- a zone that begins with a header
module _ {C : Type 0} (sector : C → ℕ) (w : Worker C) (state : State (Keys C))
    (kept : IsKept sector w) (first_salt : length w.loaded.copies.primary.salt ≡ 64)
    (second_salt : length w.loaded.copies.secondary.salt ≡ 64) (sound : IsSound state)
    (none : state.work ≡ None) (free : IsLaneFree state)
    (sized : HasSizes w.loaded.valid.sizes state.disk)
    (mapped : IsMapOf w.loaded.valid.meta w.loaded.valid.sizes state.map) where
  abbrev layout : Layout
  layout = layout_of w

  abbrev rests : Work
  rests = between layout w

  abbrev then : State (Keys C)
  then = record state { work = Some rests }

  -- the volume's map is the header's
  at : IsMapAt w.loaded.valid.sizes kept.working.zone.now state.map
  at =
      subst (λ (q : Progress). IsMapAt w.loaded.valid.sizes q state.map)
      (one-progress w.loaded.valid.meta w.loaded.valid.sizes mapped.0 kept.working.zone.now mapped.1
      kept.working.zone.is.known)
      mapped.2

  map-is : state.map
      ≡ map_of w.loaded.valid.sizes (meaning_of w.loaded.copies.used.bytes)
  map-is =
      same-maps w.loaded.valid.sizes kept.working.zone.now state.map _ at
      (map-now sector w kept.working kept.stored)

  abbrev zone : IsNextZone w.loaded w.map w.site
  zone = kept.working.zone

  map-same : state.map ≡ w.map
  map-same = same-maps w.loaded.valid.sizes kept.working.zone.now state.map w.map at zone.map_is

  same : state.map.new_place ≡ state.map.old_place
  same =
      ap (λ (m : Map). m.new_place) map-same
      ∙ same-places w.loaded kept.stored kept.ruled w.map w.site zone
      ∙ sym (ap (λ (m : Map). m.old_place) map-same)

  -- the copies lie in front of all blocks
  whole : layout.first.count * w.loaded.valid.sizes.atom ≡ w.loaded.copies.used.header.hdr_size
  whole =
      page-place w.loaded.valid.sizes.atom w.loaded.copies.used.header.hdr_size
      kept.working.disk.known
      (size-pages w.loaded.copies.used.header.hdr_size kept.stored.copies.whole.one_of_nine)

  low : (layout.first.count + layout.first.count ≤ w.site.store)
      × (w.site.store + saved_count w.site ≤ w.map.old_place)
  low = store-between w.loaded kept.stored kept.ruled w.map w.site zone layout.first.count whole

  laid : IsLaidOut state.map.atom state.disk.atoms w.loaded.copies.used.header.hdr_size layout
  laid = record {
    first = refl;
    second = refl;
    same = refl;
    long = ap (λ a. layout.first.count * a) at.atom ∙ whole;
    within =
        (let copies = low.0 in
        let store = kept.working.store in
        let all = sized.all in
        omega (arith, copies, store, all));
  }

  ends : (copy : Copy)
      → (place_of layout copy).start + (place_of layout copy).count ≤ state.map.old_place
  ends copy =
      let end = copy-ends state.map.atom state.disk.atoms _ layout laid copy in
      let copies = low.0 in
      let store = low.1 in
      let place = ap (λ (m : Map). m.old_place) map-same in
      omega (arith, end, copies, store, place)

  away : (b : ℕ) (area : Area)
      → Reaches layout (empty_zone (header_on w.loaded) (header_on w.loaded)) area
      → IsOutside area.start area.count (place_in state.map b)
  away b area its_own = inr (omega arith)
  away b area its_target = inr (omega arith)
  away b area its_store = inr (omega arith)
  away b area (its_header copy) =
      let end = ends copy in let place = place-is state.map b same in
      inr (omega (arith, end, place))

  lane-free : (lane : ℕ) (o : Open) → suc lane ≡ length state.lanes
      → open_at state.lanes lane ≡ Some o → IsWorkers o
  lane-free lane o last is =
      let own = free.last in
      let here : lane ≡ free.lane = omega (arith, last, own) in
      let bad : ◌≡◌ {A = Option Open} None (Some o) =
      sym free.free ∙ ap (open_at state.lanes) (sym here) ∙ is in
      cc

  works-then : WorksOn then rests
  works-then = record {
    lies = record {
      apart = record {
        own_store = inl (omega arith);
        own_target = inl (omega arith);
        target_store = inl (omega arith);
        own_header = λ copy. inl (omega arith);
        target_header = λ copy. inl (omega arith);
        store_header = λ copy. inl (omega arith);
        headers = inl (omega arith);
      };
      count = refl;
      inside = omega arith;
      fewer = omega arith;
      held = λ unbroken some. absurd (omega (arith, some));
      away = λ b live area reaches. away b area reaches;
    };
    enough = refl;
    phased = tt;
    within = record {
      zone = record { own = omega arith; target = omega arith; store = omega arith };
      copies = λ copy.
          (let end = ends copy in
          let fits = sound.fits.old_places in
          omega (arith, end, fits));
    };
    sides = λ b from below. absurd (omega (arith, below));
    places = λ b from below. absurd (omega (arith, below));
    worker = lane-free;
    spare = λ area has. absurd (has-none area has);
    behind = λ area has. absurd (has-none area has);
  }

  header : IsHeader header_reader (header_on w.loaded)
  header = loaded-header w.loaded kept.stored first_salt second_salt

  course-then : IsOnCourse (reading_of w.loaded.valid.sizes) then rests
  course-then = record {
    is = header;
    map = map-is;
    laid = subst (λ n. IsLaidOut state.map.atom state.disk.atoms n layout)
        (sym (size-meant w.loaded kept.stored)) laid;
    is_next = header;
    next = inl refl;
  }

  sound-then : IsSound then
  sound-then = record {
    fits = sound.fits;
    room = sound.room;
    some = sound.some;
    count = sound.count;
    entries = sound.entries;
    once = sound.once;
    under_way = sound.under_way;
    zoned = λ b is.
        absurd (subst (λ (o : Option Work). IsSomeAnd o
        (λ work. (work.range.start ≤ b) × (b < work.range.end))) none (sound.zoned b is));
  }

  only-work : (work : Work) → then.work ≡ Some work → rests ≡ work
  only-work work is = let some : ◌≡◌ {A = Option Work} (Some rests) (Some work) = is in cc

  in-order : IsInOrder (reading_of w.loaded.valid.sizes) then
  in-order = record {
    sound = sound-then;
    works = λ work is. subst (WorksOn then) (only-work work is) works-then;
    courses = λ work is.
        subst (IsOnCourse (reading_of w.loaded.valid.sizes) then) (only-work work is) course-then;
    apart = λ a b a_in b_in is.
        (let one = place-is state.map a same in
        let two = place-is state.map b same in
        omega (arith, one, two, is));
  }

pub begins-in-order : {C : Type 0} (sector : C → ℕ) → ZonesBeginInOrder sector
begins-in-order sector seals loaded keys w state new kept first second sound none free sized mapped =
    subst (λ k. IsInOrder (reading_of w.loaded.valid.sizes) (record state { work = Some k }))
    (sym (first-rests seals (layout_of w) w (count_of w.site == 0) new.first new.runs))
    (in-order sector w state kept first second sound none free sized mapped)
