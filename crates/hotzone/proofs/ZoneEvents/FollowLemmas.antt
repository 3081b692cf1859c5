-- The map that a zone shows is that of the header from which the commit at hand leads, or the next
-- one.
use Rattle.std.proofs.Common.{◌≡◌, ◌∙◌, ℕ, false, List, [], Option, Some, None, refl, sym, ap, subst}
use Rattle.crash_laws.specs.HeaderAreas.Headers.{Header, Layout}
use Rattle.crash_laws.specs.HotZones.Zones.{from_of}
use Rattle.hotzone.specs.Headings.{AreOf}
use Rattle.hotzone.specs.Known.{header_by}
use Rattle.hotzone.specs.Sites.{count_of}
use Rattle.hotzone.specs.Workers.{HasEnding, IsDoneWith, IsMapBy, IsOpened, IsWorking, Needs}
use Rattle.hotzone.specs.declared.worker.Ending.{Ending}
use Rattle.hotzone.specs.declared.worker.Halt.{Halt}
use Rattle.hotzone.specs.declared.worker.Halt.TheVariants.{GivenUp, Failed, InCommit}
use Rattle.hotzone.specs.declared.worker.Headers.{Headers}
use Rattle.hotzone.specs.declared.worker.NextCall.{NextCall}
use Rattle.hotzone.specs.declared.worker.NextCall.TheVariants.{Begin, ReadFirst, SaveFirst, Read}
use Rattle.hotzone.specs.declared.worker.NextCall.TheVariants.{Save, Keep, Open, ReadAgain, Write}
use Rattle.hotzone.specs.declared.worker.NextCall.TheVariants.{Settle, Move, Finish, End, Wipe, Rest}
use Rattle.hotzone.specs.declared.worker.NextCall.TheVariants.{Over}
use Rattle.hotzone.specs.declared.worker.Worker.{Worker}
use Rattle.luks_store.specs.Copying.Meanings.{meaning_of}
use Rattle.luks_store.specs.declared.header_copies.commit.Stage.{Stage}
use Rattle.luks_rules.specs.States.{IsSound as IsRuled}
use Rattle.luks_store.specs.Loads.{IsStored}
use Rattle.reenc_meta.specs.ConversionMaps.{IsMapAt}
use Rattle.reenc_meta.specs.Placements.{all_atoms}
use Rattle.segment_map.specs.declared.map.Map.{Map}
use Rattle.volume_machine.specs.Seals.{Seals}
use Rattle.volume_machine.specs.Sound.{MapFits}
use Rattle.volume_machine.specs.States.{State}
use Rattle.volume_machine.specs.Works.{Work}
use Rattle.hotzone.proofs.ZoneEvents.ConcludeLemmas.{new-at, the-shape, the-volume}
use Rattle.hotzone.proofs.ZoneEvents.PlanLemmas.{map-now}
use Rattle.hotzone.proofs.ZoneEvents.SameLemmas.{same-maps, same-numbers}
use Rattle.hotzone.proofs.ZoneEvents.TurnLemmas.{open-map, open-plan, open_progress, same-headers}
use Rattle.hotzone.specs.ZoneEvents.Holding.{MapsFollow}
use Rattle.hotzone.specs.ZoneEvents.Readings.{map_of}
use Rattle.hotzone.specs.ZoneEvents.Works.{work_by}

-- what the header means from which a work leads
abbrev pub meant : Work → List ℕ
meant work = (from_of work.zone work.phase).means

-- a halt leaves the header that its commit leads from
meant-failed : {C : Type 0} (seals : Seals) (layout : Layout) (w : Worker C) (next : NextCall)
    → meant (work_by seals layout w next None) ≡ meant (work_by seals layout w next (Some Failed))
unfolding work_by
meant-failed seals layout w Begin = refl
meant-failed seals layout w ReadFirst = refl
meant-failed seals layout w SaveFirst = refl
meant-failed seals layout w (Read done headers) = refl
meant-failed seals layout w (Save done headers) = refl
meant-failed seals layout w (Keep headers) = refl
meant-failed seals layout w (Open headers) = refl
meant-failed seals layout w (ReadAgain done headers) = refl
meant-failed seals layout w (Write done headers) = refl
meant-failed seals layout w (Settle headers) = refl
meant-failed seals layout w (Move headers) = refl
meant-failed seals layout w Finish = refl
meant-failed seals layout w (End ending) = refl
meant-failed seals layout w (Wipe done ending) = refl
meant-failed seals layout w (Rest ending) = refl
meant-failed seals layout w (Over ending) = refl

meant-broken : {C : Type 0} (seals : Seals) (layout : Layout) (w : Worker C) (next : NextCall)
    (stage : Stage)
    → meant (work_by seals layout w next None)
    ≡ meant (work_by seals layout w next (Some (InCommit stage)))
unfolding work_by
meant-broken seals layout w Begin stage = refl
meant-broken seals layout w ReadFirst stage = refl
meant-broken seals layout w SaveFirst stage = refl
meant-broken seals layout w (Read done headers) stage = refl
meant-broken seals layout w (Save done headers) stage = refl
meant-broken seals layout w (Keep headers) stage = refl
meant-broken seals layout w (Open headers) stage = refl
meant-broken seals layout w (ReadAgain done headers) stage = refl
meant-broken seals layout w (Write done headers) stage = refl
meant-broken seals layout w (Settle headers) stage = refl
meant-broken seals layout w (Move headers) stage = refl
meant-broken seals layout w Finish stage = refl
meant-broken seals layout w (End ending) stage = refl
meant-broken seals layout w (Wipe done ending) stage = refl
meant-broken seals layout w (Rest ending) stage = refl
meant-broken seals layout w (Over ending) stage = refl

-- two maps have the same blocks
abbrev pub HasBlocks : Map → Map → Type 0
HasBlocks one other = (other.atom ≡ one.atom) × (other.blocks ≡ one.blocks)

module _ {C : Type 0} (sector : C → ℕ) (w : Worker C) (working : IsWorking sector w)
    (stored : IsStored w.loaded) (ruled : IsRuled w.loaded.valid.meta w.loaded.valid.sizes) where
  abbrev now : List ℕ
  now = meaning_of w.loaded.copies.used.bytes

  -- ---- by the header before the zone
  pub map-before : w.map ≡ map_of w.loaded.valid.sizes now
  map-before =
      same-maps w.loaded.valid.sizes working.zone.now w.map (map_of w.loaded.valid.sizes now)
      working.zone.map_is (map-now sector w working stored)

  -- ---- by the header with the zone open
  -- a volume whose map is that of the header, whatever else it is
  abbrev pub by-header : State (Unit {0})
  by-header = record {
    map = map_of w.loaded.valid.sizes now;
    keys = tt;
    room = 0;
    entries = [];
    lanes = [];
    broken = false;
    work = None;
    disk = record {
      size = w.loaded.valid.sizes.atom;
      atoms = all_atoms w.loaded.valid.sizes;
      tail = 0;
      values = None;
      told = None;
      faults = 0;
    };
  }

  pub fits-before : MapFits (map_of w.loaded.valid.sizes now) (all_atoms w.loaded.valid.sizes)
  fits-before = subst (λ m. MapFits m (all_atoms w.loaded.valid.sizes)) map-before working.fits

  module _ (headers : Headers)
      (are : AreOf w.loaded (count_of w.site) headers.opened headers.moved) where
    open-is : IsMapAt w.loaded.valid.sizes
        (open_progress sector w by-header working stored ruled refl fits-before headers are)
        (map_of w.loaded.valid.sizes (header_by headers.opened).means)
    open-is = open-map sector w by-header working stored ruled refl fits-before headers are

    pub map-open : (map : Map) → IsOpened w map
        → map ≡ map_of w.loaded.valid.sizes (header_by headers.opened).means
    map-open map is =
        let mid = open-is in
        let at = working.zone.map_is in
        let plan = open-plan sector w by-header working stored ruled refl fits-before headers are in
        same-numbers map (map_of w.loaded.valid.sizes (header_by headers.opened).means)
        (is.atom ∙ at.atom ∙ sym mid.atom) (is.blocks ∙ at.blocks ∙ sym plan.0 ∙ sym mid.blocks)
        (is.boundary_is ∙ at.boundary ∙ sym plan.1 ∙ sym mid.boundary)
        (is.direction_is ∙ at.direction ∙ sym mid.direction)
        (is.zone_is ∙ sym plan.2 ∙ sym mid.zone)
        (is.old_place ∙ at.old_place ∙ sym mid.old_place)
        (is.new_place ∙ at.new_place ∙ sym mid.new_place)

    pub open-alike : HasBlocks w.map (map_of w.loaded.valid.sizes (header_by headers.opened).means)
    open-alike =
        let mid = open-is in
        let at = working.zone.map_is in
        let plan = open-plan sector w by-header working stored ruled refl fits-before headers are in
        (mid.atom ∙ sym at.atom, mid.blocks ∙ plan.0 ∙ sym at.blocks)

  -- ---- by the finished header
  pub done-alike : (ending : Ending) → HasEnding w.loaded ending
      → HasBlocks w.map (map_of w.loaded.valid.sizes (header_by ending.commit).means)
  done-alike ending has =
      let at = working.zone.map_is in
      let first : Ending = record ending { commit = has.0 } in
      let shape = the-shape sector w working stored first has.1 in
      let volume = the-volume sector w working stored first has.1 in
      subst (λ (h : Header (List ℕ)). HasBlocks w.map (map_of w.loaded.valid.sizes h.means))
      (same-headers has.0 ending.commit has.2)
      (shape.atom ∙ sym at.atom, shape.blocks ∙ volume.2.blocks ∙ sym at.blocks)

  pub map-done : (ending : Ending) → HasEnding w.loaded ending → (map : Map)
      → IsDoneWith w.map map
      → map ≡ map_of w.loaded.valid.sizes (header_by ending.commit).means
  map-done ending has map is =
      let at = working.zone.map_is in
      let first : Ending = record ending { commit = has.0 } in
      let shape = the-shape sector w working stored first has.1 in
      let volume = the-volume sector w working stored first has.1 in
      let place = new-at sector w working stored first has.1 in
      same-numbers map (map_of w.loaded.valid.sizes (header_by has.0).means)
      (is.atom ∙ at.atom ∙ sym shape.atom)
      (is.blocks ∙ at.blocks ∙ sym volume.2.blocks ∙ sym shape.blocks)
      (is.boundary_is ∙ at.blocks ∙ sym volume.2.blocks ∙ sym shape.boundary)
      (is.direction_is ∙ sym shape.direction) (is.zone_is ∙ sym shape.zone)
      (is.old_place ∙ at.new_place ∙ sym place ∙ sym shape.old_place)
      (is.new_place ∙ at.new_place ∙ sym place ∙ sym shape.new_place)
      ∙ ap (λ (h : Header (List ℕ)). map_of w.loaded.valid.sizes h.means)
      (same-headers has.0 ending.commit has.2)

  -- ---- by the call that comes next
  pub map-by : (seals : Seals) (layout : Layout) (next : NextCall) → Needs w next → (map : Map)
      → IsMapBy w next map
      → map ≡ map_of w.loaded.valid.sizes (meant (work_by seals layout w next None))
  unfolding work_by
  map-by seals layout Begin had map is = is ∙ map-before
  map-by seals layout ReadFirst had map is = is ∙ map-before
  map-by seals layout SaveFirst had map is = is ∙ map-before
  map-by seals layout (Read done headers) had map is = is ∙ map-before
  map-by seals layout (Save done headers) had map is = is ∙ map-before
  map-by seals layout (Keep headers) had map is = is ∙ map-before
  map-by seals layout (Open headers) had map is = is ∙ map-before
  map-by seals layout (ReadAgain done headers) had map is = map-open headers had.1.0 map is
  map-by seals layout (Write done headers) had map is = map-open headers had.1.0 map is
  map-by seals layout (Settle headers) had map is = map-open headers had.1.0 map is
  map-by seals layout (Move headers) had map is = map-open headers had.1 map is
  map-by seals layout Finish had map is = is ∙ map-before
  map-by seals layout (End ending) had map is = is ∙ map-before
  map-by seals layout (Wipe done ending) had map is = map-done ending had.1 map is
  map-by seals layout (Rest ending) had map is = map-done ending had map is
  map-by seals layout (Over ending) had map is = map-done ending had map is

  -- ---- however it was halted, it is a map of the same blocks
  before-alike : HasBlocks w.map (map_of w.loaded.valid.sizes now)
  before-alike = (ap (λ (m : Map). m.atom) (sym map-before), ap (λ (m : Map). m.blocks) (sym map-before))

  alike-by : (seals : Seals) (layout : Layout) (next : NextCall) → Needs w next
      → HasBlocks w.map (map_of w.loaded.valid.sizes (meant (work_by seals layout w next None)))
  unfolding work_by
  alike-by seals layout Begin had = before-alike
  alike-by seals layout ReadFirst had = before-alike
  alike-by seals layout SaveFirst had = before-alike
  alike-by seals layout (Read done headers) had = before-alike
  alike-by seals layout (Save done headers) had = before-alike
  alike-by seals layout (Keep headers) had = before-alike
  alike-by seals layout (Open headers) had = before-alike
  alike-by seals layout (ReadAgain done headers) had = open-alike headers had.1.0
  alike-by seals layout (Write done headers) had = open-alike headers had.1.0
  alike-by seals layout (Settle headers) had = open-alike headers had.1.0
  alike-by seals layout (Move headers) had = open-alike headers had.1
  alike-by seals layout Finish had = before-alike
  alike-by seals layout (End ending) had = before-alike
  alike-by seals layout (Wipe done ending) had = done-alike ending had.1
  alike-by seals layout (Rest ending) had = done-alike ending had
  alike-by seals layout (Over ending) had = done-alike ending had

  pub alike-now : (seals : Seals) (layout : Layout) (next : NextCall) (halted : Option Halt)
      → Needs w next
      → HasBlocks w.map (map_of w.loaded.valid.sizes (meant (work_by seals layout w next halted)))
  unfolding work_by
  alike-now seals layout next None had = alike-by seals layout next had
  alike-now seals layout next (Some GivenUp) had = before-alike
  alike-now seals layout next (Some Failed) had =
      subst (λ n. HasBlocks w.map (map_of w.loaded.valid.sizes n))
      (meant-failed seals layout w next) (alike-by seals layout next had)
  alike-now seals layout next (Some (InCommit stage)) had =
      subst (λ n. HasBlocks w.map (map_of w.loaded.valid.sizes n))
      (meant-broken seals layout w next stage) (alike-by seals layout next had)

pub maps-follow : {C : Type 0} (sector : C → ℕ) → MapsFollow sector
maps-follow sector seals layout w map kept runs is =
    map-by sector w kept.working kept.stored kept.ruled seals layout w.next kept.working.next map is
    ∙ ap (λ h. map_of w.loaded.valid.sizes (meant (work_by seals layout w w.next h))) (sym runs)
