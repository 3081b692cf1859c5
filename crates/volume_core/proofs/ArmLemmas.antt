-- A volume that gets what its conversion needs: the map of its header is its own, and the zone that
-- begins then leads it.
use Rattle.std.proofs.Common.{Bool, List, None, Option, Some, ap, arith, false, if◌then◌else◌, inl}
use Rattle.std.proofs.Common.{length, refl, subst, suc, sym, true, zero, ℕ, ◌*◌, ◌<◌, ◌∙◌, ◌≡◌, ◌≤◌}
use Rattle.segment_map.specs.declared.map.Map.{Map}
use Rattle.volume_machine.specs.Sound.{IsSound}
use Rattle.volume_machine.specs.States.{State, open_at}
use Rattle.base_terms.specs.declared.disk_sizes.Sizes.{Sizes}
use Rattle.hotzone.specs.Promises.{seals_in}
use Rattle.hotzone.specs.Workers.{HasKeys, IsNew, MapsFit, first_call}
use Rattle.hotzone.specs.declared.worker.Worker.{Worker}
use Rattle.sector_disk.specs.JoinedDisks.Counts.{HasSizes}
use Rattle.luks_meta.specs.declared.meta.Parts.{Parts}
use Rattle.luks_rules.specs.declared.shape.Progress.{Progress}
use Rattle.luks_store.specs.Devices.{header_room}
use Rattle.luks_store.specs.declared.loaded.Stored.{Stored}
use Rattle.reenc_meta.specs.ConversionMaps.{IsMapAt, IsMapOf}
use Rattle.reenc_meta.specs.Placements.{all_atoms}
use Rattle.sector_disk.specs.Geometry.{IsDisk}
use Rattle.volume_core.proofs.ZoneFacts.{later-first, none-first, work-first}
use Rattle.volume_core.specs.Volumes.{IsVolume}
use Rattle.volume_core.specs.Zones.{HasArmed, IsEnded, IsReadBy}
use Rattle.volume_laws.specs.Converting.{IsInOrder}
use Rattle.volume_machine.specs.Courses.{Courses}
use Rattle.volume_machine.specs.Seals.{KeysFit}
use Rattle.volume_machine.specs.Works.{converting, resting}
use Rattle.volume_machine.specs.declared.keys.Keys.{Keys}
use Rattle.hotzone.specs.ZoneEvents.Heads.{header_on}
use Rattle.hotzone.specs.ZoneEvents.Holding.{IsKept, ZonesBeginInOrder}
use Rattle.hotzone.specs.ZoneEvents.Promises.{IsLaneFree}
use Rattle.hotzone.specs.ZoneEvents.Readings.{reading_of}
use Rattle.hotzone.specs.ZoneEvents.Works.{layout_for, layout_of, work_by, work_of}

-- ---- two maps of one header have the same blocks, at the same places
record AreAlike (one other : Map) : Type 0 where
  pub atom : one.atom ≡ other.atom
  pub blocks : one.blocks ≡ other.blocks
  pub old_place : one.old_place ≡ other.old_place
  pub new_place : one.new_place ≡ other.new_place

alike-at : (sizes : Sizes) (p q : Progress) (one other : Map) → p ≡ q → IsMapAt sizes p one
    → IsMapAt sizes q other → AreAlike one other
alike-at sizes p q one other same is other_is =
    let there = subst (λ n. IsMapAt sizes n other) (sym same) other_is in
    record {
      atom = is.atom ∙ sym there.atom;
      blocks = is.blocks ∙ sym there.blocks;
      old_place = is.old_place ∙ sym there.old_place;
      new_place = is.new_place ∙ sym there.new_place;
    }

alike : (meta : Parts) (sizes : Sizes) (one other : Map) → IsMapOf meta sizes one
    → IsMapOf meta sizes other → AreAlike one other
alike meta sizes one other is other_is =
    alike-at sizes is.0 other_is.0 one other
    (let first = is.1 in let second = other_is.1 in let same : is.0 ≡ other_is.0 = cc in same) is.2
    other_is.2

module _ {C : Type 0} (sector : C → ℕ) (loaded : Stored) (state : State (Keys C))
    (sized : HasSizes loaded.valid.sizes state.disk)
    (map : IsMapOf loaded.valid.meta loaded.valid.sizes state.map) where
  pub all-there : all_atoms loaded.valid.sizes ≡ state.disk.atoms
  all-there = sized.all

  pub disk-is : IsDisk state.disk.size state.disk.atoms
      → IsDisk loaded.valid.sizes.atom (all_atoms loaded.valid.sizes)
  disk-is is = rw (sized.atom, all-there) is

  pub maps-fit : IsSound state → MapsFit loaded
  maps-fit sound one is =
      let same = alike loaded.valid.meta loaded.valid.sizes one state.map is map in
      record {
        known = rw same.atom sound.fits.known;
        small = rw (same.atom, same.blocks) sound.fits.small;
        old_places = rw (same.old_place, same.blocks, all-there) sound.fits.old_places;
        new_places = rw (same.new_place, same.blocks, all-there) sound.fits.new_places;
      }

  pub has-keys : KeysFit sector state.keys state.map.atom state.map.blocks
      → HasKeys sector loaded state.keys
  has-keys keys one is =
      let same = alike loaded.valid.meta loaded.valid.sizes one state.map is map in
      rw (same.atom, same.blocks) keys

-- ---- a header's disk has some atoms
some-by : (b : Bool) (head main atom size : ℕ) → 0 < size
    → 2 * size ≤ (if b then head * atom else main * atom) → (b ≡ false → head ≡ main) → 0 < head
some-by true zero main atom size some room alone = absurd (omega (arith, some, room))
some-by false zero main atom size some room alone =
    absurd (let same = alone refl in let none = rw (← same) at room in omega (arith, some, none))
some-by b (suc head) main atom size some room alone = omega arith

pub some-atoms : (sizes : Sizes) (size : ℕ) → 0 < size → 2 * size ≤ header_room sizes
    → (sizes.detached ≡ false → sizes.header_atoms ≡ sizes.main_atoms) → 0 < sizes.header_atoms
some-atoms sizes size some room alone =
    some-by sizes.detached sizes.header_atoms sizes.main_atoms sizes.atom size some room alone

-- ---- the volume behind it
module _ {C : Type 0} (sector : C → ℕ) (seal unseal : C → ℕ → List ℕ → List ℕ)
    (begins : ZonesBeginInOrder sector) (loaded : Stored) (w : Worker C) (old new : State (Keys C))
    (own : Option (Worker C)) (is : IsVolume sector own old) (unarmed : old.work ≡ None) (free : IsLaneFree old)
    (sized : HasSizes loaded.valid.sizes old.disk)
    (map : IsMapOf loaded.valid.meta loaded.valid.sizes old.map)
    (begun : IsNew loaded old.keys w) (kept : IsKept sector w)
    (first_salt : length w.loaded.copies.primary.salt ≡ 64)
    (second_salt : length w.loaded.copies.secondary.salt ≡ 64)
    (armed : new ≡ record old { work = Some (work_of (seals_in seal unseal w) (layout_of w) w) })
  where
    sized-now : HasSizes w.loaded.valid.sizes old.disk
    sized-now = subst (λ l. HasSizes l.valid.sizes old.disk) (sym begun.loaded) sized

    in-order : IsInOrder (reading_of w.loaded.valid.sizes) new
    in-order = subst (λ s. IsInOrder (reading_of w.loaded.valid.sizes) s) (sym armed)
        (begins (seals_in seal unseal w) loaded old.keys w old begun kept first_salt second_salt
        is.sound unarmed free sized-now
        (subst (λ l. IsMapOf l.valid.meta l.valid.sizes old.map) (sym begun.loaded) map))

    pub armed-volume : IsVolume sector (Some w) new
    armed-volume = record {
      atom = rw armed is.atom;
      sound = in-order.sound;
      keys = rw armed is.keys;
      few = rw armed is.few;
      led = record {
        later = rw begun.first (later-first w.site);
        none = λ ended. absurd (none-first w.site (subst IsEnded begun.first ended));
        keys = begun.keys_are ∙ rw armed refl;
        sizes = rw armed sized-now;
        order = in-order;
        goes_on = λ whole. inl begun.runs;
        lane = λ whole lane o last here. absurd (
            let lanes : new.lanes ≡ old.lanes = ap (λ (s : State (Keys C)). s.lanes) armed in
            let there = rw lanes at here in
            let end = rw lanes at last in
            let other = free.last in
            let same : lane ≡ free.lane = omega (arith, end, other) in
            let none = free.free in
            let found : open_at old.lanes free.lane ≡ Some o = rw same at there in
            cc
            );
      };
    }

    pub armed-work : HasArmed loaded old new
    armed-work =
        let resting_now : work_of (seals_in seal unseal w) (layout_of w) w
        ≡ resting (layout_of w) (header_on w.loaded) converting =
        ap (λ n. work_by (seals_in seal unseal w) (layout_of w) w n w.halted) begun.first
        ∙ ap (λ h. work_by (seals_in seal unseal w) (layout_of w) w (first_call w.site) h) begun.runs
        ∙ work-first (seals_in seal unseal w) (layout_of w) w in
        armed ∙ ap (λ k. record old { work = Some k }) (resting_now
        ∙ ap (λ (l : Stored). resting
        (layout_for l.valid.sizes.atom l.copies.used.header.hdr_size) (header_on l) converting)
        begun.loaded)

    pub armed-read : 0 < loaded.valid.sizes.header_atoms → IsReadBy loaded.valid.sizes new
    armed-read some = record {
      sizes_are = rw armed sized;
      some = some;
      courses = subst (λ l. Courses (reading_of l.valid.sizes) new) begun.loaded in-order.courses;
    }

    pub armed-order : IsInOrder (reading_of loaded.valid.sizes) new
    armed-order = subst (λ l. IsInOrder (reading_of l.valid.sizes) new) begun.loaded in-order
