-- What holds between two steps holds behind each.
use Rattle.std.proofs.Common.{◌≡◌, ◌≢◌, ◌∙◌, ℕ, ◌+◌, ◌-◌, ◌*◌, ◌/◌, ◌^◌, ◌<◌, ◌≤◌, ◌==◌, nat_lt, min}
use Rattle.std.proofs.Common.{List, length, Option, Some, true, false, Bool}
use Rattle.std.proofs.Common.{refl, sym, ap, subst, arith, cond}
use Rattle.std.proofs.Math.Nat.{mul-le-mul_right}
use Rattle.std.proofs.lemmas.Bool.{eqb-false, eqb-true, ltb-true}
use Rattle.base_terms.specs.declared.disk_sizes.Sizes.{Sizes}
use Rattle.hotzone.specs.Endings.{after_wipe}
use Rattle.hotzone.specs.Headings.{AreOf, IsSame}
use Rattle.hotzone.specs.Making.{IsNoLonger}
use Rattle.hotzone.specs.Sites.{IsPartStart, bytes_at, count_of, guard_of, kind_of, part_at}
use Rattle.hotzone.specs.Sites.{saved_count, site_by}
use Rattle.hotzone.specs.Steps.{Goes, HasMoved, HasRead, IsHalted, IsStopped, after_open}
use Rattle.hotzone.specs.Steps.{after_save, after_write, ended_by}
use Rattle.hotzone.specs.Steps.{begins, reads_first, saves_first, reads, saves, keeps, opens, opened}
use Rattle.hotzone.specs.Steps.{reads_again, writes, settles, moves, ends, finishes, finishes_on}
use Rattle.hotzone.specs.Steps.{finished, wipes, rests}
use Rattle.hotzone.specs.Workers.{AreReady, FitsDisk, HasEnding, IsWorking, Needs}
use Rattle.hotzone.specs.Workers.{first_call}
use Rattle.hotzone.specs.declared.site.Site.{Site}
use Rattle.hotzone.specs.declared.worker.Ending.{Ending}
use Rattle.hotzone.specs.declared.worker.Halt.{Halt}
use Rattle.hotzone.specs.declared.worker.Headers.{Headers}
use Rattle.hotzone.specs.declared.worker.NextCall.{NextCall}
use Rattle.hotzone.specs.declared.worker.NextCall.TheVariants.{Begin, Read}
use Rattle.hotzone.specs.declared.worker.NextCall.TheVariants.{Keep, ReadAgain, Write}
use Rattle.hotzone.specs.declared.worker.NextCall.TheVariants.{Settle, Finish, Wipe, Rest}
use Rattle.hotzone.specs.declared.worker.NextHeader.{NextHeader}
use Rattle.hotzone.specs.declared.worker.Stepped.{Stepped}
use Rattle.hotzone.specs.declared.worker.Worker.{Worker}
use Rattle.hotzone.proofs.BehindLemmas.{IsBehind, left-at, map-behind}
use Rattle.hotzone.proofs.GuardLemmas.{saved-fewer, start-on}
use Rattle.hotzone.proofs.HeadingLemmas.{behind-known, moved-sizes}
use Rattle.hotzone.proofs.HeadingLemmas.{progress_behind, same-on}
use Rattle.hotzone.proofs.SiteLemmas.{own-within, site-count, site-within}
use Rattle.sector_disk.specs.JoinedDisks.Counts.{HasSizes}
use Rattle.luks_store.specs.Copying.Held.{stage_in}
use Rattle.luks_store.specs.Copying.Steps.{next_of}
use Rattle.luks_store.specs.declared.header_copies.commit.Stage.{Stage}
use Rattle.luks_store.specs.declared.header_copies.commit.Stage.TheVariants.{Begun, FirstWritten, FirstKept}
use Rattle.luks_store.specs.declared.header_copies.commit.Stage.TheVariants.{SecondWritten, Ended}
use Rattle.luks_rules.specs.Rooms.{capacity}
use Rattle.luks_rules.specs.Shapes.{progress_of}
use Rattle.luks_rules.specs.declared.shape.Progress.{Progress}
use Rattle.luks_store.specs.declared.commit.Prepared.{Prepared}
use Rattle.luks_store.specs.declared.loaded.Stored.{Stored}
use Rattle.reenc_meta.specs.ConversionMaps.{IsMapAt}
use Rattle.reenc_meta.specs.Placements.{all_atoms}
use Rattle.sector_disk.specs.Devices.{Device}
use Rattle.sector_disk.specs.Geometry.{IsAtom, IsDisk}
use Rattle.segment_map.specs.Maps.{most_bytes}
use Rattle.volume_machine.specs.Saved.{saved_atoms}
use Rattle.volume_machine.specs.Seals.{KeysFit, Seals}
use Rattle.volume_machine.specs.Sound.{MapFits}
use Rattle.volume_machine.specs.declared.keys.Keys.{Keys}
use Rattle.volume_machine.proofs.KeyLemmas.{fewer-blocks}

-- a worker's atoms are those of its header's disks
pub atom-of : {C : Type 0} (sector : C → ℕ) (w : Worker C) → IsWorking sector w
    → w.site.atom ≡ w.loaded.valid.sizes.atom
atom-of sector w is = ap (λ (s : Site). s.atom) is.zone.site_is ∙ is.zone.map_is.atom

pub fits-disk : {C : Type 0} (sector : C → ℕ) (w : Worker C) (device : Device) → IsWorking sector w
    → HasSizes w.loaded.valid.sizes device → FitsDisk sector w device
fits-disk sector w device is sizes =
    let atom = atom-of sector w is in
    let all = sizes.all in
    let own = is.own in
    let store = is.store in
    record {
      known = subst IsAtom (sym atom) is.disk.known;
      size = atom ∙ sizes.atom;
      own = omega (arith, own, all);
      store = omega (arith, store, all);
      room = is.room;
      keys =
          subst (λ a. KeysFit sector w.keys a (w.site.blocks.start + count_of w.site))
          (is.zone.map_is.atom ∙ sym atom)
          (fewer-blocks sector w.keys w.map.atom w.map.blocks _
          (subst (λ (s : Site). s.blocks.start + count_of s ≤ w.map.blocks) (sym is.zone.site_is)
          (let within = site-within w.map (capacity w.loaded.valid.sizes.atom is.zone.now) in
          let count = site-count w.map (capacity w.loaded.valid.sizes.atom is.zone.now)
          (is.zone.now.conversion.area.offset / w.loaded.valid.sizes.atom)
          (guard_of is.zone.now.conversion.resilience) in
          omega (arith, within, count))) is.keys);
    }

one-progress : (p q : Progress) → ◌≡◌ {A = Option Progress} (Some p) (Some q) → p ≡ q
one-progress p q is = cc

-- the parts of a zone of fewer blocks are no longer
part-fewer : (long short : Site) → short.atom ≡ long.atom → count_of short ≤ count_of long
    → (room : ℕ) → bytes_at long 0 ≤ room → bytes_at short 0 ≤ room
part-fewer long short atom fewer room fits =
    let less : part_at short 0 ≤ part_at long 0 =
    subst (λ a. min (count_of short - 0) (most_bytes / a) ≤ part_at long 0) (sym atom)
    (omega (arith, fewer)) in
    let more = mul-le-mul_right long.atom less in
    subst (λ a. part_at short 0 * a ≤ room) (sym atom) (omega (arith, more, fits))

-- and less is saved of it
count-fewer : (long short : Site) → IsAtom long.atom → IsNoLonger long short
    → saved_count short ≤ saved_count long
count-fewer long short known is =
    subst (λ a. saved_atoms (kind_of short.guard) a (count_of short) ≤ saved_count long)
    (sym is.atom)
    (subst (λ g. saved_atoms (kind_of g) long.atom (count_of short) ≤ saved_count long)
    (sym is.guard)
    (saved-fewer long.guard long.atom (count_of short) (count_of long) known is.fewer))

-- a step that leaves the zone
pub same-site : {C : Type 0} (before after : Worker C) → after.site ≡ before.site
    → IsNoLonger before.site after.site
same-site before after is =
    subst (IsNoLonger before.site) (sym is) (record { atom = refl; guard = refl; fewer = omega arith })

pub needs-first : {C : Type 0} (worker : Worker C) → Needs worker (first_call worker.site)
needs-first worker = go (count_of worker.site == 0) refl
  where
    go : (b : Bool) → (count_of worker.site == 0) ≡ b → Needs worker (cond b Finish Begin)
    go true is = eqb-true _ _ is
    go false is = (let far = eqb-false _ _ is in omega (arith, far))

-- one that was halted with its buffer as it was
pub halted-as : {C : Type 0} (before after : Worker C) (next : NextCall) (halt : Halt)
    → IsHalted before after next halt → IsStopped before after next halt
halted-as {C} before after next halt stop =
    let kept : after.buffer ≡ before.buffer = ap (λ (w : Worker C). w.buffer) stop.is in
    record {
      is = stop.is
          ∙ ap (λ (b : List ℕ). record before { buffer = b; next = next; halted = Some halt })
          (sym kept);
      long = ap length kept;
    }

-- the zone that comes next behind one
record IsNextBehind {C : Type 0} (before after : Worker C) (now : Progress) : Type 0 where
  sizes : after.loaded.valid.sizes ≡ before.loaded.valid.sizes
  map_is : IsBehind (count_of before.site) before.map after.map
  site_is : after.site ≡ site_by after.map (capacity before.loaded.valid.sizes.atom now)
      (now.conversion.area.offset / before.loaded.valid.sizes.atom)
      (guard_of now.conversion.resilience)
  no_longer : IsNoLonger before.site after.site
  store : after.site.store ≡ before.site.store

-- ---- behind a step that leaves the zone and its header
module _ {C : Type 0} (sector : C → ℕ) where
  pub works-next : (before after : Worker C) (next : NextCall) → IsWorking sector before
      → after ≡ record before { next = next } → Needs before next → IsWorking sector after
  works-next before after next is to needs = subst (IsWorking sector) (sym to) (record {
    disk = is.disk;
    zone = is.zone;
    fits = is.fits;
    own = is.own;
    store = is.store;
    room = is.room;
    keys = is.keys;
    next = needs;
  })

  pub works-read : (before after : Worker C) (next : NextCall) → IsWorking sector before
      → HasRead before after next → Needs before next → IsWorking sector after
  works-read before after next is read needs = subst (IsWorking sector) (sym read.is) (record {
    disk = is.disk;
    zone = is.zone;
    fits = is.fits;
    own = is.own;
    store = is.store;
    room = (let room = is.room in let long = read.long in omega (arith, room, long));
    keys = is.keys;
    next = needs;
  })

  -- behind one that was stopped
  pub works-stopped : (before after : Worker C) (next : NextCall) (halt : Halt) → IsWorking sector before
      → IsStopped before after next halt → Needs (record before { halted = Some halt }) next
      → IsWorking sector after
  works-stopped before after next halt is stop needs =
      subst (IsWorking sector) (sym stop.is) (record {
        disk = is.disk;
        zone = is.zone;
        fits = is.fits;
        own = is.own;
        store = is.store;
        room = (let room = is.room in let long = stop.long in omega (arith, room, long));
        keys = is.keys;
        next = needs;
      })

  pub known-atom : (before : Worker C) → IsWorking sector before → IsAtom before.site.atom
  known-atom before is = subst IsAtom (sym (atom-of sector before is)) is.disk.known

  -- a part lies in the zone
  part-within : (before : Worker C) (done : ℕ) → done < count_of before.site
      → done + part_at before.site done ≤ count_of before.site
  part-within before done below = omega (arith, below)

  pub needs-save : (before : Worker C) (done : ℕ) (headers : Headers) → IsAtom before.site.atom
      → done < count_of before.site → IsPartStart before.site done → AreReady before headers
      → stage_in headers.opened.copies ≡ Begun → Needs before (after_save before.site done headers)
  needs-save before done headers known below start ready begun =
      go (done + part_at before.site done == count_of before.site) refl
    where
      go : (b : Bool) → (done + part_at before.site done == count_of before.site) ≡ b
          → Needs before (cond b (Keep headers) (Read (done + part_at before.site done) headers))
      go true is = ((omega (arith, below)), ready, begun)
      go false is = (
        (let far = eqb-false _ _ is in omega (arith, below, far)),
        ready,
        begun,
        start-on before.site done known start (omega (arith, below)) (eqb-false _ _ is),
      )

  pub needs-open : (before : Worker C) (headers : Headers) → 0 < count_of before.site
      → AreReady before headers → Needs before (after_open before.site headers)
  needs-open before headers some ready = go (part_at before.site 0 == count_of before.site)
    where
      go : (b : Bool) → Needs before (cond b (Write 0 headers) (ReadAgain 0 headers))
      go true = (some, ready)
      go false = (some, ready)

  pub needs-write : (before : Worker C) (done : ℕ) (headers : Headers) → done < count_of before.site
      → AreReady before headers → Needs before (after_write before.site done headers)
  needs-write before done headers below ready =
      go (done + part_at before.site done == count_of before.site) refl
    where
      go : (b : Bool) → (done + part_at before.site done == count_of before.site) ≡ b
          → Needs before
          (cond b (Settle headers) (ReadAgain (done + part_at before.site done) headers))
      go true is = (omega (arith, below), ready)
      go false is = (
        (let far = eqb-false _ _ is in omega (arith, below, far)),
        ready,
      )

  pub needs-wipe : (before : Worker C) (done : ℕ) (ending : Ending) → HasEnding before.loaded ending
      → Needs before (after_wipe done ending)
  needs-wipe before done ending given = go (nat_lt done (length ending.wipes.areas)) refl
    where
      go : (b : Bool) → nat_lt done (length ending.wipes.areas) ≡ b
          → Needs before (cond b (Wipe done ending) (Rest ending))
      go true is = (ltb-true _ _ is, given)
      go false is = given

  -- an ending whose commit goes on, or has ended
  pub ending-on : (stored : Stored) (ending : Ending) (commit : Prepared) → HasEnding stored ending
      → IsSame ending.commit commit → HasEnding stored (ended_by ending commit)
  ending-on stored ending commit has same =
      (has.0, has.1, same-on has.0 ending.commit commit has.2 same)

  pub not-ended : (stage : Stage) → stage ≢ Ended → stage ≢ SecondWritten → next_of stage ≢ Ended
  not-ended Begun some far = λ is. cc
  not-ended FirstWritten some far = λ is. cc
  not-ended FirstKept some far = λ is. cc
  not-ended SecondWritten some far = absurd (far refl)
  not-ended Ended some far = absurd (some refl)

  -- behind the zone's last call: the zone that comes next
  next-behind : (before after : Worker C) (middle : Prepared) (moved : NextHeader)
      → (is : IsWorking sector before) → AreOf before.loaded (count_of before.site) middle moved
      → HasMoved before after moved.loaded → IsNextBehind before after is.zone.now
  next-behind before after middle moved is are has =
      let n = count_of before.site in
      let sizes = ap (λ (s : Stored). s.valid.sizes) has.loaded
      ∙ moved-sizes before.loaded n middle moved are in
      let now = is.zone.now in
      let same : are.now ≡ now = one-progress are.now now (sym are.known ∙ is.zone.is.known) in
      let later : has.zone.now ≡ progress_behind n now =
      one-progress has.zone.now (progress_behind n now)
      (sym has.zone.is.known
      ∙ ap (λ (s : Stored). progress_of s.valid.meta s.valid.sizes) has.loaded
      ∙ behind-known before.loaded n middle moved are ∙ ap (λ p. Some (progress_behind n p)) same) in
      let at : IsMapAt before.loaded.valid.sizes (progress_behind n now) after.map =
      subst (λ p. IsMapAt before.loaded.valid.sizes p after.map) later
      (subst (λ s. IsMapAt s has.zone.now after.map) sizes has.zone.map_is) in
      let room = capacity before.loaded.valid.sizes.atom now in
      let place = now.conversion.area.offset / before.loaded.valid.sizes.atom in
      let guard = guard_of now.conversion.resilience in
      let count = ap (λ (s : Site). count_of s) is.zone.site_is ∙ site-count before.map room place guard in
      let left = left-at before.loaded.valid.sizes now before.map is.zone.map_is is.zone.is.closed in
      let behind = map-behind before.loaded.valid.sizes now n before.map after.map is.zone.map_is at
      is.zone.is.closed (omega (arith, count, left)) in
      let site : after.site ≡ site_by after.map room place guard =
      has.zone.site_is
      ∙ ap (λ (s : Sizes). site_by after.map (capacity s.atom has.zone.now)
      (has.zone.now.conversion.area.offset / s.atom)
      (guard_of has.zone.now.conversion.resilience)) sizes
      ∙ ap (λ (p : Progress). site_by after.map (capacity before.loaded.valid.sizes.atom p)
      (p.conversion.area.offset / before.loaded.valid.sizes.atom)
      (guard_of p.conversion.resilience)) later in
      let next-count = ap (λ (s : Site). count_of s) site ∙ site-count after.map room place guard in
      record {
        sizes = sizes;
        map_is = behind;
        site_is = site;
        no_longer = record {
          atom = ap (λ (s : Site). s.atom) site ∙ behind.atom
              ∙ sym (ap (λ (s : Site). s.atom) is.zone.site_is);
          guard = ap (λ (s : Site). s.guard) site
              ∙ sym (ap (λ (s : Site). s.guard) is.zone.site_is);
          fewer = (let left = behind.left in omega (arith, count, next-count, left));
        };
        store = ap (λ (s : Site). s.store) site ∙ sym (ap (λ (s : Site). s.store) is.zone.site_is);
      }

  pub works-behind : (before after : Worker C) (middle : Prepared) (moved : NextHeader)
      → IsWorking sector before → AreOf before.loaded (count_of before.site) middle moved
      → HasMoved before after moved.loaded → IsWorking sector after
  works-behind before after middle moved is are has =
      let now = is.zone.now in
      let next = next-behind before after middle moved is are has in
      let behind = next.map_is in
      let fits : MapFits after.map (all_atoms before.loaded.valid.sizes) =
      record {
        known = subst IsAtom (sym behind.atom) is.fits.known;
        small = subst (λ m. m < 2 ^ 63)
            (sym (ap (λ b. b * after.map.atom) behind.blocks_are
            ∙ ap (λ a. before.map.blocks * a) behind.atom)) is.fits.small;
        old_places = (let fits = is.fits.old_places in let a = behind.old_place in
            let b = behind.blocks_are in omega (arith, fits, a, b));
        new_places = (let fits = is.fits.new_places in let a = behind.new_place in
            let b = behind.blocks_are in omega (arith, fits, a, b));
      } in
      record {
        disk = subst (λ (s : Sizes). IsDisk s.atom (all_atoms s)) (sym next.sizes) is.disk;
        zone = has.zone;
        fits = subst (λ (s : Sizes). MapFits after.map (all_atoms s)) (sym next.sizes) fits;
        own = subst (λ (s : Sizes). after.site.own + count_of after.site ≤ all_atoms s)
            (sym next.sizes)
            (subst (λ (s : Site). s.own + count_of s ≤ all_atoms before.loaded.valid.sizes)
            (sym next.site_is)
            (own-within after.map (capacity before.loaded.valid.sizes.atom now)
            (now.conversion.area.offset / before.loaded.valid.sizes.atom)
            (guard_of now.conversion.resilience)
            (all_atoms before.loaded.valid.sizes) fits.old_places));
        store = subst (λ (s : Sizes). after.site.store + saved_count after.site ≤ all_atoms s)
            (sym next.sizes)
            (let had = is.store in
            let store = next.store in
            let fewer = count-fewer before.site after.site (known-atom before is) next.no_longer in
            omega (arith, had, store, fewer));
        room = subst (λ (b : List ℕ). bytes_at after.site 0 ≤ length b) (sym has.buffer)
            (part-fewer before.site after.site next.no_longer.atom next.no_longer.fewer
            (length before.buffer) is.room);
        keys = subst (λ (k : Keys C). KeysFit sector k after.map.atom after.map.blocks)
            (sym has.keys)
            (subst (λ a. KeysFit sector before.keys a after.map.blocks) (sym behind.atom)
            (subst (λ b. KeysFit sector before.keys before.map.atom b) (sym behind.blocks_are)
            is.keys));
        next = subst (Needs after) (sym has.next) (needs-first after);
      }

  -- no zone is longer than the one before it
  pub no-longer : (seals : Seals) (old new : Device) (before after : Worker C) (stepped : Stepped)
      → IsWorking sector before → Goes seals old new before after stepped
      → IsNoLonger before.site after.site
  no-longer seals old new before after stepped is (begins at call to) = same-site before after (ap (λ (w : Worker C). w.site) to)
  no-longer seals old new before after stepped is (reads_first at call read) = same-site before after (ap (λ (w : Worker C). w.site) read.is)
  no-longer seals old new before after stepped is (saves_first at tells call headers are begun to) = same-site before after (ap (λ (w : Worker C). w.site) to)
  no-longer seals old new before after stepped is (reads done headers at call read) = same-site before after (ap (λ (w : Worker C). w.site) read.is)
  no-longer seals old new before after stepped is (saves done headers at tells call to) = same-site before after (ap (λ (w : Worker C). w.site) to)
  no-longer seals old new before after stepped is (keeps headers at call to) = same-site before after (ap (λ (w : Worker C). w.site) to)
  no-longer seals old new before after stepped is (opens headers commit at call on far to) = same-site before after (ap (λ (w : Worker C). w.site) to)
  no-longer seals old new before after stepped is (opened headers commit at call on last to) = same-site before after (ap (λ (w : Worker C). w.site) to)
  no-longer seals old new before after stepped is (reads_again done headers at call read) = same-site before after (ap (λ (w : Worker C). w.site) read.is)
  no-longer seals old new before after stepped is (writes done headers at call read) = same-site before after (ap (λ (w : Worker C). w.site) read.is)
  no-longer seals old new before after stepped is (settles headers at call to) = same-site before after (ap (λ (w : Worker C). w.site) to)
  no-longer seals old new before after stepped is (moves headers commit at call on far to) = same-site before after (ap (λ (w : Worker C). w.site) to)
  no-longer seals old new before after stepped is (ends headers at call last has) =
      let had = subst (Needs before) at is.next in
      (next-behind before after headers.opened headers.moved is had.1 has).no_longer
  no-longer seals old new before after stepped is (finishes ending commit at are call on to) = same-site before after (ap (λ (w : Worker C). w.site) to)
  no-longer seals old new before after stepped is (finishes_on ending commit at call on far to) = same-site before after (ap (λ (w : Worker C). w.site) to)
  no-longer seals old new before after stepped is (finished ending commit at call on last to) = same-site before after (ap (λ (w : Worker C). w.site) to)
  no-longer seals old new before after stepped is (wipes done ending at call to) = same-site before after (ap (λ (w : Worker C). w.site) to)
  no-longer seals old new before after stepped is (rests ending at call to) = same-site before after (ap (λ (w : Worker C). w.site) to)
