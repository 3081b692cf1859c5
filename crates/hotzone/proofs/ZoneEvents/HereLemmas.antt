-- Where the worker of a volume stands: the map of the volume, its copies and atoms, by the call that
-- comes next.
use Rattle.std.proofs.Common.{◌≡◌, ◌∙◌, ℕ, ◌*◌, ◌^◌, ◌<◌, Bool, true, false, Some}
use Rattle.std.proofs.Common.{None, refl, sym, ap, subst, arith, cond}
use Rattle.crash_laws.specs.HeaderAreas.Headers.{IsHeader, IsLaidOut, Layout}
use Rattle.crash_laws.specs.HotZones.Zones.{from_of}
use Rattle.hotzone.proofs.WorkingLemmas.{fits-disk}
use Rattle.hotzone.specs.Headings.{AreOf}
use Rattle.hotzone.specs.Known.{header_by}
use Rattle.hotzone.specs.Sites.{count_of}
use Rattle.hotzone.specs.Workers.{FitsDisk, Needs, HasEnding}
use Rattle.hotzone.specs.declared.worker.Ending.{Ending}
use Rattle.hotzone.specs.declared.worker.Headers.{Headers}
use Rattle.hotzone.specs.declared.worker.NextCall.{NextCall}
use Rattle.hotzone.specs.declared.worker.NextCall.TheVariants.{Begin, ReadFirst, SaveFirst, Read}
use Rattle.hotzone.specs.declared.worker.NextCall.TheVariants.{Save, Keep, Open, ReadAgain, Write}
use Rattle.hotzone.specs.declared.worker.NextCall.TheVariants.{Settle, Move, Finish, End, Wipe, Rest}
use Rattle.hotzone.specs.declared.worker.NextCall.TheVariants.{Over}
use Rattle.hotzone.specs.declared.worker.Worker.{Worker}
use Rattle.luks_store.specs.Copying.Meanings.{header_reader, meaning_of, size_in}
use Rattle.sector_disk.specs.Geometry.{IsAtom}
use Rattle.segment_map.specs.declared.map.Map.{Map}
use Rattle.volume_machine.specs.Courses.{IsOnCourse}
use Rattle.volume_machine.specs.Seals.{Seals}
use Rattle.volume_machine.specs.Sound.{MapFits}
use Rattle.volume_machine.specs.States.{State}
use Rattle.volume_machine.specs.WorkSteps.{Proceeds}
use Rattle.volume_machine.specs.Works.{Work}
use Rattle.volume_machine.specs.declared.keys.Keys.{Keys}
use Rattle.hotzone.proofs.ZoneEvents.ConcludeLemmas.{the-shape}
use Rattle.hotzone.proofs.ZoneEvents.MapLemmas.{some-atom}
use Rattle.hotzone.proofs.ZoneEvents.PlanLemmas.{map-now}
use Rattle.hotzone.proofs.ZoneEvents.TextLemmas.{size-meant, size-next}
use Rattle.hotzone.proofs.ZoneEvents.TurnLemmas.{open-map, same-headers}
use Rattle.hotzone.specs.ZoneEvents.Heads.{header_on}
use Rattle.hotzone.specs.ZoneEvents.Promises.{IsOf}
use Rattle.hotzone.specs.ZoneEvents.Readings.{map_of, reading_of}
use Rattle.hotzone.specs.ZoneEvents.Works.{between, map_in, work_by, work_of}

-- ---- calls before the zone is open, or at the end; and those of an open zone
abbrev pub IsEarly : NextCall → Type 0
IsEarly (ReadAgain done headers) = ⊥
IsEarly (Write done headers) = ⊥
IsEarly (Settle headers) = ⊥
IsEarly (Move headers) = ⊥
IsEarly (Wipe done ending) = ⊥
IsEarly (Rest ending) = ⊥
IsEarly (Over ending) = ⊥
IsEarly next = Unit {0}

abbrev pub IsLate : NextCall → Headers → Type 0
IsLate (ReadAgain done headers) other = headers ≡ other
IsLate (Write done headers) other = headers ≡ other
IsLate (Settle headers) other = headers ≡ other
IsLate (Move headers) other = headers ≡ other
IsLate next other = ⊥

-- ---- a zone that begins, or the finish: nothing is at hand
pub first-rests : {C : Type 0} (seals : Seals) (layout : Layout) (w : Worker C) (b : Bool)
    → w.next ≡ cond b Finish Begin → w.halted ≡ None → work_of seals layout w ≡ between layout w
unfolding work_by
first-rests seals layout w true at none =
    ap (λ n. work_by seals layout w n w.halted) at
    ∙ ap (λ h. work_by seals layout w Finish h) none
first-rests seals layout w false at none =
    ap (λ n. work_by seals layout w n w.halted) at
    ∙ ap (λ h. work_by seals layout w Begin h) none

-- the atoms of the disk, and where the copies lie
pub record IsHere {K : Type 0} (old : State K) (layout : Layout) (size : ℕ) : Type 0 where
  pub atom : old.map.atom ≡ old.disk.size
  pub some : 0 < old.map.atom
  pub laid : IsLaidOut old.map.atom old.disk.atoms size layout

module _ {C : Type 0} (sector : C → ℕ) (seals : Seals) (layout : Layout) (before : Worker C)
    (old : State (Keys C)) (of : IsOf sector seals layout before old) where
  pub was-by : (next : NextCall) → before.next ≡ next
      → old.work ≡ Some (work_by seals layout before next None)
  was-by next at =
      of.work ∙ ap (λ n. Some (work_by seals layout before n before.halted)) at
      ∙ ap (λ h. Some (work_by seals layout before next h)) of.runs

  pub course-by : (next : NextCall) → before.next ≡ next
      → IsOnCourse (reading_of before.loaded.valid.sizes) old (work_by seals layout before next None)
  course-by next at = of.courses (work_by seals layout before next None) (was-by next at)

  pub needs : (next : NextCall) → before.next ≡ next → Needs before next
  needs next at = subst (Needs before) at of.working.next

  pub fits-here : FitsDisk sector before old.disk
  fits-here = fits-disk sector before old.disk of.working of.sizes

  pub site-atom : before.site.atom ≡ old.disk.size
  site-atom = fits-here.size

  -- ---- by the header before the zone
  early-is : (next : NextCall) → IsEarly next
      → IsOnCourse (reading_of before.loaded.valid.sizes) old (work_by seals layout before next None)
      → (old.map ≡ map_of before.loaded.valid.sizes (meaning_of before.loaded.copies.used.bytes))
      × IsLaidOut old.map.atom old.disk.atoms
      (size_in (meaning_of before.loaded.copies.used.bytes)) layout
      × IsHeader header_reader (header_on before.loaded)
  unfolding work_by
  early-is Begin early on = (on.map, on.laid, on.is)
  early-is ReadFirst early on = (on.map, on.laid, on.is)
  early-is SaveFirst early on = (on.map, on.laid, on.is)
  early-is (Read done headers) early on = (on.map, on.laid, on.is)
  early-is (Save done headers) early on = (on.map, on.laid, on.is)
  early-is (Keep headers) early on = (on.map, on.laid, on.is)
  early-is (Open headers) early on = (on.map, on.laid, on.is)
  early-is (ReadAgain done headers) early on = absurd early
  early-is (Write done headers) early on = absurd early
  early-is (Settle headers) early on = absurd early
  early-is (Move headers) early on = absurd early
  early-is Finish early on = (on.map, on.laid, on.is)
  early-is (End ending) early on = (on.map, on.laid, on.is)
  early-is (Wipe done ending) early on = absurd early
  early-is (Rest ending) early on = absurd early
  early-is (Over ending) early on = absurd early

  module _ (next : NextCall) (at : before.next ≡ next) (early : IsEarly next) where
    pub early-map : old.map
        ≡ map_of before.loaded.valid.sizes (meaning_of before.loaded.copies.used.bytes)
    early-map = (early-is next early (course-by next at)).0

    pub early-header : IsHeader header_reader (header_on before.loaded)
    early-header = (early-is next early (course-by next at)).2

    pub early-here : IsHere old layout before.loaded.copies.used.header.hdr_size
    early-here =
        let atom : old.map.atom ≡ before.loaded.valid.sizes.atom =
        ap (λ (m : Map). m.atom) early-map ∙ (map-now sector before of.working of.stored).atom in
        record {
          atom = atom ∙ of.sizes.atom;
          some = subst (λ n. 0 < n) (sym atom)
              (some-atom before.loaded.valid.sizes.atom of.working.disk.known);
          laid = subst (λ n. IsLaidOut old.map.atom old.disk.atoms n layout)
              (size-meant before.loaded of.stored) (early-is next early (course-by next at)).1;
        }

  -- ---- by the header with the zone open
  late-is : (next : NextCall) (headers : Headers) → IsLate next headers
      → IsOnCourse (reading_of before.loaded.valid.sizes) old (work_by seals layout before next None)
      → (old.map ≡ map_of before.loaded.valid.sizes (header_by headers.opened).means)
      × IsLaidOut old.map.atom old.disk.atoms (size_in (header_by headers.opened).means) layout
  unfolding work_by
  late-is (ReadAgain done headers) other same on =
      subst (λ h. (old.map ≡ map_of before.loaded.valid.sizes (header_by h.opened).means)
      × IsLaidOut old.map.atom old.disk.atoms (size_in (header_by h.opened).means) layout) same
      (on.map, on.laid)
  late-is (Write done headers) other same on =
      subst (λ h. (old.map ≡ map_of before.loaded.valid.sizes (header_by h.opened).means)
      × IsLaidOut old.map.atom old.disk.atoms (size_in (header_by h.opened).means) layout) same
      (on.map, on.laid)
  late-is (Settle headers) other same on =
      subst (λ h. (old.map ≡ map_of before.loaded.valid.sizes (header_by h.opened).means)
      × IsLaidOut old.map.atom old.disk.atoms (size_in (header_by h.opened).means) layout) same
      (on.map, on.laid)
  late-is (Move headers) other same on =
      subst (λ h. (old.map ≡ map_of before.loaded.valid.sizes (header_by h.opened).means)
      × IsLaidOut old.map.atom old.disk.atoms (size_in (header_by h.opened).means) layout) same
      (on.map, on.laid)
  late-is Begin other same on = absurd same
  late-is ReadFirst other same on = absurd same
  late-is SaveFirst other same on = absurd same
  late-is (Read done headers) other same on = absurd same
  late-is (Save done headers) other same on = absurd same
  late-is (Keep headers) other same on = absurd same
  late-is (Open headers) other same on = absurd same
  late-is Finish other same on = absurd same
  late-is (End ending) other same on = absurd same
  late-is (Wipe done ending) other same on = absurd same
  late-is (Rest ending) other same on = absurd same
  late-is (Over ending) other same on = absurd same

  -- a state under the header before the zone, whatever it is now
  under-before : State (Keys C)
  under-before = record old {
    map = map_of before.loaded.valid.sizes (meaning_of before.loaded.copies.used.bytes);
  }

  before-fits : MapFits
      (map_of before.loaded.valid.sizes (meaning_of before.loaded.copies.used.bytes))
      old.disk.atoms
  before-fits =
      let now = map-now sector before of.working of.stored in
      let was = of.working.zone.map_is in
      let map = map_of before.loaded.valid.sizes (meaning_of before.loaded.copies.used.bytes) in
      let blocks : map.blocks ≡ before.map.blocks = now.blocks ∙ sym was.blocks in
      let atom : map.atom ≡ before.map.atom = now.atom ∙ sym was.atom in
      let old_place : map.old_place ≡ before.map.old_place =
      now.old_place ∙ sym was.old_place in
      let new_place : map.new_place ≡ before.map.new_place =
      now.new_place ∙ sym was.new_place in
      let old_fits = of.working.fits.old_places in
      let new_fits = of.working.fits.new_places in
      let all = of.sizes.all in
      record {
        known = subst IsAtom (sym atom) of.working.fits.known;
        small = subst (λ n. n < 2 ^ 63)
            (sym (ap (λ b. b * map.atom) blocks ∙ ap (λ a. before.map.blocks * a) atom))
            of.working.fits.small;
        old_places = omega (arith, old_fits, all, blocks, old_place);
        new_places = omega (arith, new_fits, all, blocks, new_place);
      }

  pub fits-by : old.map
      ≡ map_of before.loaded.valid.sizes (meaning_of before.loaded.copies.used.bytes)
      → MapFits old.map old.disk.atoms
  fits-by map = subst (λ m. MapFits m old.disk.atoms) (sym map) before-fits

  module _ (next : NextCall) (at : before.next ≡ next) (headers : Headers)
      (late : IsLate next headers)
      (are : AreOf before.loaded (count_of before.site) headers.opened headers.moved) where
    pub late-map : old.map ≡ map_of before.loaded.valid.sizes (header_by headers.opened).means
    late-map = (late-is next headers late (course-by next at)).0

    pub late-here : IsHere old layout before.loaded.copies.used.header.hdr_size
    unfolding under-before
    late-here =
        let mid =
        open-map sector before under-before of.working of.stored of.ruled refl before-fits headers
        are in
        let atom : old.map.atom ≡ before.loaded.valid.sizes.atom =
        ap (λ (m : Map). m.atom) late-map ∙ mid.atom in
        let size : size_in (header_by headers.opened).means
        ≡ before.loaded.copies.used.header.hdr_size =
        ap (λ copy. size_in (meaning_of copy)) are.same.primary
        ∙ size-next before.loaded are.between.valid.meta are.first of.stored are.commit in
        record {
          atom = atom ∙ of.sizes.atom;
          some = subst (λ n. 0 < n) (sym atom)
              (some-atom before.loaded.valid.sizes.atom of.working.disk.known);
          laid = subst (λ n. IsLaidOut old.map.atom old.disk.atoms n layout) size
              (late-is next headers late (course-by next at)).1;
        }

  -- ---- by the finished header
  pub last-atom : (ending : Ending) → HasEnding before.loaded ending
      → old.map ≡ map_of before.loaded.valid.sizes (header_by ending.commit).means
      → old.map.atom ≡ old.disk.size
  last-atom ending has map =
      ap (λ (m : Map). m.atom)
      (map ∙ ap (λ h. map_of before.loaded.valid.sizes h.means)
      (sym (same-headers has.0 ending.commit has.2)))
      ∙ (the-shape sector before of.working of.stored (record ending { commit = has.0 }) has.1).atom
      ∙ of.sizes.atom

-- ---- the state behind a step
module _ {C : Type 0} (seals : Seals) (layout : Layout) (after : Worker C)
    (old new : State (Keys C))
    (becomes : Proceeds old new (map_in seals layout after) (work_of seals layout after) false)
    (w : Worker C) (to : after ≡ w) (runs : w.halted ≡ None) (next : NextCall)
    (named : w.next ≡ next) (work : Work) (is : work_by seals layout w next None ≡ work) where
  pub becoming : Proceeds old new
      (map_of w.loaded.valid.sizes (from_of work.zone work.phase).means) work false
  becoming =
      subst (λ k. Proceeds old new
      (map_of w.loaded.valid.sizes (from_of k.zone k.phase).means) k false)
      (ap (λ n. work_by seals layout w n w.halted) named
      ∙ ap (λ h. work_by seals layout w next h) runs ∙ is)
      (subst (λ v. Proceeds old new (map_in seals layout v) (work_of seals layout v) false) to
      becomes)

  -- one that leaves the map
  pub staying : old.map ≡ map_of w.loaded.valid.sizes (from_of work.zone work.phase).means
      → Proceeds old new old.map work false
  staying map = subst (λ m. Proceeds old new m work false) (sym map) becoming
