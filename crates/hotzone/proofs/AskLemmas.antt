-- What the next call of a worker needs is there.
use Rattle.std.proofs.Common.{◌≡◌, ◌∙◌, ℕ, ◌+◌, ◌*◌, ◌/◌, ◌%◌, ◌<◌, ◌≤◌, min, cond, Bool}
use Rattle.std.proofs.Common.{true, false, [], length, Option, Some, None, refl, sym, ap, subst}
use Rattle.std.proofs.Common.{arith}
use Rattle.std.proofs.Math.Nat.{mul-le-mul_right}
use Rattle.std.proofs.lemmas.List.Elements.{All-filter}
use Rattle.std.specs.List.{All}
use Rattle.std.specs.Option.{IsSomeAnd}
use Rattle.base_terms.specs.declared.disk_sizes.Sizes.{Sizes}
use Rattle.hotzone.proofs.BehindLemmas.{closed-behind, left-at, left_in}
use Rattle.hotzone.proofs.GuardLemmas.{saved-fits}
use Rattle.hotzone.proofs.HeadingLemmas.{behind-known, between-sizes, moved-sizes}
use Rattle.hotzone.proofs.SiteLemmas.{area-kept, own-within, site-count, store-within}
use Rattle.hotzone.proofs.WorkingLemmas.{fits-disk, needs-first}
use Rattle.hotzone.specs.Endings.{AreWipable, HasZeros, IsWipable, MayFinishFrom, wiped}
use Rattle.hotzone.specs.Headings.{AreOf, IsSame, MayOpenFrom}
use Rattle.hotzone.specs.Making.{Asks, MayMake}
use Rattle.hotzone.specs.Sites.{IsSaved, bytes_at, count_of, guard_of, kind_of, saved_count}
use Rattle.hotzone.specs.Workers.{HasKeys, IsDone, IsNextZone, IsWorking, MapsFit, MayGoOn, Needs}
use Rattle.hotzone.specs.Workers.{first_call}
use Rattle.hotzone.specs.declared.site.Site.{Site}
use Rattle.hotzone.specs.declared.worker.NextCall.{NextCall}
use Rattle.hotzone.specs.declared.worker.NextCall.TheVariants.{Begin, ReadFirst, SaveFirst, Read}
use Rattle.hotzone.specs.declared.worker.NextCall.TheVariants.{Save, Keep, Open, ReadAgain, Write}
use Rattle.hotzone.specs.declared.worker.NextCall.TheVariants.{Settle, Move, Finish, End, Wipe, Rest}
use Rattle.hotzone.specs.declared.worker.NextCall.TheVariants.{Over}
use Rattle.hotzone.specs.declared.worker.NextHeader.{NextHeader}
use Rattle.hotzone.specs.declared.worker.Wipes.{Wipes}
use Rattle.hotzone.specs.declared.worker.Worker.{Worker}
use Rattle.sector_disk.specs.JoinedDisks.Counts.{HasSizes}
use Rattle.luks_meta.specs.declared.reencrypt.Resilience.{Resilience}
use Rattle.luks_meta.specs.declared.reencrypt.Resilience.TheVariants.{Journal, Checksum, Datashift}
use Rattle.luks_meta.specs.declared.meta.Parts.{Parts}
use Rattle.luks_rules.specs.Areas.{areas_end, areas_of}
use Rattle.luks_rules.specs.Rooms.{capacity}
use Rattle.luks_rules.specs.Shapes.{may_open, progress_of}
use Rattle.luks_rules.specs.States.{IsSound}
use Rattle.luks_rules.specs.declared.areas.Area.{Area}
use Rattle.luks_rules.specs.declared.shape.Progress.{Progress}
use Rattle.luks_store.specs.declared.commit.Prepared.{Prepared}
use Rattle.luks_store.specs.declared.loaded.Stored.{Stored}
use Rattle.reenc_meta.proofs.GoLemmas.{IsUnderWay, under-way}
use Rattle.reenc_meta.proofs.StepLemmas.{main-few}
use Rattle.reenc_meta.specs.ConversionMaps.{IsMapOf}
use Rattle.reenc_meta.specs.Finishes.{MayFinish}
use Rattle.reenc_meta.specs.Moves.{MayOpen, old_blocks}
use Rattle.reenc_meta.specs.Placements.{all_atoms}
use Rattle.sector_disk.specs.Devices.{Device}
use Rattle.sector_disk.specs.Geometry.{IsDisk}
use Rattle.segment_map.specs.declared.map.Map.{Map}
use Rattle.volume_machine.specs.Saved.{saved_atoms}

-- ---- a zone may be opened, the finish may be made
opens-by : (r : Resilience) (n : ℕ) → IsSaved r → may_open r n ≡ true
opens-by Journal n by = refl
opens-by (Checksum k) n by = refl
opens-by (Datashift k) n by = absurd by

module _ {C : Type 0} (sector : C → ℕ) (w : Worker C) (is : IsWorking sector w)
    (sound : IsSound w.loaded.valid.meta w.loaded.valid.sizes) where
  count-is : count_of w.site
      ≡ min (left_in w.map) (capacity w.loaded.valid.sizes.atom is.zone.now)
  count-is = ap (λ (s : Site). count_of s) is.zone.site_is ∙ site-count w.map (capacity w.loaded.valid.sizes.atom is.zone.now)
      (is.zone.now.conversion.area.offset / w.loaded.valid.sizes.atom)
      (guard_of is.zone.now.conversion.resilience)

  left-is : left_in w.map ≡ old_blocks is.zone.now.conversion.direction is.zone.now.plan
  left-is = left-at w.loaded.valid.sizes is.zone.now w.map is.zone.map_is is.zone.is.closed

  in-progress : (P : Progress → Type 0) → P is.zone.now
      → IsSomeAnd (progress_of w.loaded.valid.meta w.loaded.valid.sizes) P
  in-progress P holds = subst (λ o. IsSomeAnd o P) (sym is.zone.is.known) holds

  may-open-zone : 0 < count_of w.site → MayOpenFrom w.loaded (count_of w.site)
  may-open-zone some = in-progress (λ now. MayOpen w.loaded.valid.sizes.atom now (count_of w.site)) (record {
    closed = is.zone.is.closed;
    kept = opens-by is.zone.now.conversion.resilience _ is.zone.is.guarded;
    some = some;
    room = (let count = count-is in omega (arith, count));
    left = (let count = count-is in let left = left-is in omega (arith, count, left));
  })

  may-finish-now : count_of w.site ≡ 0 → MayFinishFrom w.loaded
  may-finish-now none = in-progress (λ now. MayFinish now) (record {
    closed = is.zone.is.closed;
    none_left =
        (let count = count-is in
        let left = left-is in
        let room = (under-way w.loaded.valid.meta w.loaded.valid.sizes is.zone.now sound
        is.zone.is.known (main-few w.loaded.valid.sizes is.disk.fits)).converting.room in
        omega (arith, count, left, room, none));
  })

-- ---- the header behind a zone goes on
pub goes-behind : (before : Stored) (n : ℕ) (middle : Prepared) (next : NextHeader)
    → ((p : Progress) → progress_of before.valid.meta before.valid.sizes ≡ Some p
    → IsSaved p.conversion.resilience)
    → AreOf before n middle next → MayGoOn next.loaded
goes-behind before n middle next by are =
    subst (λ o. IsSomeAnd o (λ now. (now.plan.zone ≡ 0) × IsSaved now.conversion.resilience))
    (sym (behind-known before n middle next are))
    (closed-behind are.now.conversion.direction n are.now.plan, by are.now are.known)

-- ---- the areas of keyslots lie on the disk
base-is : (sizes : Sizes) (b : Bool) → sizes.detached ≡ b
    → all_atoms sizes ≡ cond b sizes.header_atoms 0 + sizes.main_atoms
base-is sizes b is = ap (λ d. cond d sizes.header_atoms 0 + sizes.main_atoms) is

pub areas-within : (m : Parts) (sizes : Sizes) (p : Progress) → IsSound m sizes
    → IsUnderWay m sizes p → areas_end m.config ≤ all_atoms sizes * sizes.atom
areas-within m sizes p sound way = go sizes.detached refl
  where
    go : (b : Bool) → sizes.detached ≡ b → areas_end m.config ≤ all_atoms sizes * sizes.atom
    go true is =
        let within = sound.within.detached is in
        let base = base-is sizes true is in
        let less : sizes.header_atoms ≤ all_atoms sizes = omega (arith, base) in
        let more = mul-le-mul_right sizes.atom less in
        omega (arith, within, more)
    go false is =
        let behind = way.converting.old.behind is in
        let on = way.converting.old.on_disk in
        let base = base-is sizes false is in
        let less : sizes.main_atoms ≤ all_atoms sizes = omega (arith, base) in
        let more = mul-le-mul_right sizes.atom less in
        omega (arith, behind, on, more)

-- an area of whole atoms in the keyslots area
record IsKept (m : Parts) (sizes : Sizes) (a : Area) : Type 0 where
  offset : a.offset % sizes.atom ≡ 0
  size : a.size % sizes.atom ≡ 0
  within : a.offset + a.size ≤ areas_end m.config

areas-kept : (m : Parts) (sizes : Sizes) → IsSound m sizes
    → All (IsKept m sizes) (areas_of m.keyslots)
areas-kept m sizes sound = λ k d below. record {
  offset = (sound.atoms.areas k d below).0;
  size = (sound.atoms.areas k d below).1;
  within = (sound.within.areas k d below).1;
}

-- ---- what guards a zone lies on the disk
pub saved-here : (before : Stored) (p : Progress) (n : ℕ)
    → progress_of before.valid.meta before.valid.sizes ≡ Some p
    → IsSaved p.conversion.resilience → n ≤ capacity before.valid.sizes.atom p
    → IsSound before.valid.meta before.valid.sizes
    → IsDisk before.valid.sizes.atom (all_atoms before.valid.sizes)
    → p.conversion.area.offset / before.valid.sizes.atom
    + saved_atoms (kind_of (guard_of p.conversion.resilience)) before.valid.sizes.atom n
    ≤ all_atoms before.valid.sizes
saved-here before p n known guarded less sound disk =
    let m = before.valid.meta in
    let sizes = before.valid.sizes in
    let way = under-way m sizes p sound known (main-few sizes disk.fits) in
    let area = area-kept (IsKept m sizes) m.keyslots p.conversion [] (areas-kept m sizes sound)
    way.converting.keyslot in
    let end = areas-within m sizes p sound way in
    let room = saved-fits p.conversion.resilience sizes.atom p.conversion.area.size n guarded
    sound.atom area.size less in
    let within = area.within in
    let count = saved_atoms (kind_of (guard_of p.conversion.resilience)) sizes.atom n in
    store-within sizes.atom p.conversion.area.offset (count * sizes.atom) count (all_atoms sizes)
    sound.atom area.offset (omega arith) (omega (arith, room, within, end))

pub store-here : (before : Stored) (map : Map) (site : Site) → IsNextZone before map site
    → IsSound before.valid.meta before.valid.sizes
    → IsDisk before.valid.sizes.atom (all_atoms before.valid.sizes)
    → site.store + saved_count site ≤ all_atoms before.valid.sizes
store-here before map site zone sound disk =
    let sizes = before.valid.sizes in
    let p = zone.now in
    let count = ap (λ (s : Site). count_of s) zone.site_is ∙ site-count map (capacity sizes.atom p)
    (p.conversion.area.offset / sizes.atom) (guard_of p.conversion.resilience) in
    let store = ap (λ (s : Site). s.store) zone.site_is in
    let guard = ap (λ (s : Site). s.guard) zone.site_is in
    let atom = ap (λ (s : Site). s.atom) zone.site_is ∙ zone.map_is.atom in
    let fits = saved-here before p (count_of site) zone.is.known zone.is.guarded
    (omega (arith, count)) sound disk in
    subst (λ g. site.store + saved_atoms (kind_of g) site.atom (count_of site) ≤ all_atoms sizes)
    (sym guard)
    (subst (λ a. site.store
    + saved_atoms (kind_of (guard_of p.conversion.resilience)) a (count_of site) ≤ all_atoms sizes)
    (sym atom) (omega (arith, store, fits)))

-- ---- the areas of keyslots that go may be filled with zeros
pub wipable : (m : Parts) (sizes : Sizes) (p : Progress) (after : Parts) (guard : Area)
    (wipes : Wipes) (disk : Device) → IsSound m sizes → IsUnderWay m sizes p → HasSizes sizes disk
    → wipes.areas ≡ wiped guard m.keyslots after.keyslots → HasZeros wipes → AreWipable wipes disk
wipable m sizes p after guard wipes disk sound way has are zeros = record {
  areas = subst (All (IsWipable disk)) (sym are) (All-filter _ (IsWipable disk)
      (areas_of m.keyslots) (λ k d below. wipe-one _ (areas-kept m sizes sound k d below)));
  zeros = zeros;
}
  where
    wipe-one : (a : Area) → IsKept m sizes a → IsWipable disk a
    wipe-one a kept = record {
      offset = subst (λ n. a.offset % n ≡ 0) has.atom kept.offset;
      size = subst (λ n. a.size % n ≡ 0) has.atom kept.size;
      within = subst (λ n. a.offset + a.size ≤ n)
          (ap (λ n. n * sizes.atom) has.all ∙ ap (λ n. disk.atoms * n) has.atom)
          (let within = kept.within in let end = areas-within m sizes p sound way in
          omega (arith, within, end));
    }

-- ---- what the next call needs
module _ {C : Type 0} (sector : C → ℕ) (w : Worker C) (is : IsWorking sector w)
    (sound : IsSound w.loaded.valid.meta w.loaded.valid.sizes) (disk : Device)
    (has : HasSizes w.loaded.valid.sizes disk) where
  way-here : IsUnderWay w.loaded.valid.meta w.loaded.valid.sizes is.zone.now
  way-here =
      under-way w.loaded.valid.meta w.loaded.valid.sizes is.zone.now sound is.zone.is.known
      (main-few w.loaded.valid.sizes is.disk.fits)

  by-saved : (p : Progress)
      → progress_of w.loaded.valid.meta w.loaded.valid.sizes ≡ Some p
      → IsSaved p.conversion.resilience
  by-saved p known =
      subst (λ q. IsSaved q.conversion.resilience)
      (the-one is.zone.now p (sym is.zone.is.known ∙ known)) is.zone.is.guarded
    where
      the-one : (q r : Progress) → ◌≡◌ {A = Option Progress} (Some q) (Some r) → q ≡ r
      the-one q r is = cc

  commit-sizes : (first now : Prepared) → first.sizes ≡ w.loaded.valid.sizes → IsSame first now
      → HasSizes now.sizes disk
  commit-sizes first now sizes same =
      same.sizes disk (subst (λ s. HasSizes s disk) (sym sizes) has)

  asks : (next : NextCall) → w.halted ≡ None → (IsDone next → ⊥) → Needs w next → Asks w disk next
  asks Begin runs far needs = tt
  asks ReadFirst runs far needs = tt
  asks SaveFirst runs far needs = may-open-zone sector w is sound needs
  asks (Read done headers) runs far needs = needs.0
  asks (Save done headers) runs far needs = (needs.0, needs.3)
  asks (Keep headers) runs far needs = tt
  asks (Open headers) runs far needs =
      let are = needs.1.0 in
      (needs.2 runs, commit-sizes are.first headers.opened are.commit.sizes are.same)
  asks (ReadAgain done headers) runs far needs = needs.0
  asks (Write done headers) runs far needs = needs.0
  asks (Settle headers) runs far needs = tt
  asks (Move headers) runs far needs =
      let are = needs.1 in
      let sizes = moved-sizes w.loaded (count_of w.site) headers.opened headers.moved are in (
        (
          needs.2 runs,
          commit-sizes are.follows.first headers.moved.commit
              (are.follows.commit.sizes
              ∙ between-sizes w.loaded (count_of w.site) headers.opened headers.moved are)
              are.follows.same,
        ),
        goes-behind w.loaded (count_of w.site) headers.opened headers.moved by-saved are,
        subst (λ (s : Sizes). IsDisk s.atom (all_atoms s)) (sym sizes) is.disk,
      )
  asks Finish runs far needs = may-finish-now sector w is sound needs
  asks (End ending) runs far needs =
      (needs.1 runs, commit-sizes needs.0.0 ending.commit needs.0.1.commit.sizes needs.0.2)
  asks (Wipe done ending) runs far needs = (
    needs.0,
    wipable w.loaded.valid.meta w.loaded.valid.sizes is.zone.now needs.1.1.meta
        needs.1.1.now.conversion.area ending.wipes disk sound way-here has needs.1.1.areas needs.1.1.zeros,
  )
  asks (Rest ending) runs far needs = tt
  asks (Over ending) runs far needs = far tt

  pub may-make : w.halted ≡ None → (IsDone w.next → ⊥)
      → MayMake sector (record w { next = Begin }) disk w.next
  may-make runs far =
      let fits = fits-disk sector w disk is has in
      record {
        fits = record {
          known = fits.known;
          size = fits.size;
          own = fits.own;
          store = fits.store;
          room = fits.room;
          keys = fits.keys;
        };
        known = is.disk;
        sizes = has;
        asks = asks-on w.next (asks w.next runs far is.next);
      }
    where
      asks-on : (next : NextCall) → Asks w disk next → Asks (record w { next = Begin }) disk next
      asks-on next given = given

-- ---- a worker that begins
pub works-new : {C : Type 0} (sector : C → ℕ) (w : Worker C)
    → IsDisk w.loaded.valid.sizes.atom (all_atoms w.loaded.valid.sizes)
    → IsSound w.loaded.valid.meta w.loaded.valid.sizes
    → IsNextZone w.loaded w.map w.site → MapsFit w.loaded → HasKeys sector w.loaded w.keys
    → bytes_at w.site 0 ≤ length w.buffer → w.next ≡ first_call w.site → IsWorking sector w
works-new sector w disk sound zone maps keys room first =
    let map_of : IsMapOf w.loaded.valid.meta w.loaded.valid.sizes w.map =
    (zone.now, zone.is.known, zone.map_is) in
    let fits = maps w.map map_of in
    record {
      disk = disk;
      zone = zone;
      fits = fits;
      own =
          subst (λ (s : Site). s.own + count_of s ≤ all_atoms w.loaded.valid.sizes)
          (sym zone.site_is) (own-within w.map (capacity w.loaded.valid.sizes.atom zone.now)
          (zone.now.conversion.area.offset / w.loaded.valid.sizes.atom)
          (guard_of zone.now.conversion.resilience)
          (all_atoms w.loaded.valid.sizes) fits.old_places);
      store = store-here w.loaded w.map w.site zone sound disk;
      room = room;
      keys = keys w.map map_of;
      next = subst (Needs w) (sym first) (needs-first w);
    }
