-- An atom that is neither the volume's nor the conversion's is kept by each step of the worker, or is
-- in an area that is dropped.
use Rattle.std.proofs.Common.{Contains, List, Some, ap, arith, inl, inr, length, refl, subst, sym}
use Rattle.std.proofs.Common.{ℕ, ◌*◌, ◌+◌, ◌-◌, ◌<◌, ◌∙◌, ◌∷◌, ◌≡◌, ◌≢◌, ◌≤◌, ◌⊎◌, true, false}
use Rattle.std.proofs.lemmas.Bool.{cases_lt}
use Rattle.crash_laws.specs.HotZones.Zones.{datashift, journal, checksum, Resilience}
use Rattle.sector_disk.specs.DiskViews.Parts.{block_at}
use Rattle.sector_disk.specs.DiskViews.Views.{IsOutside}
use Rattle.segment_map.specs.declared.Side.{Side}
use Rattle.segment_map.specs.declared.map.Map.{Map}
use Rattle.volume_machine.specs.Pieces.{place_in}
use Rattle.volume_machine.specs.Seals.{Seals}
use Rattle.volume_machine.specs.States.{State}
use Rattle.volume_machine.specs.Works.{Work}
use Rattle.std.proofs.Math.Nat.{le_of_mul-le-mul_right}
use Rattle.crash_laws.specs.HeaderAreas.Areas.{Area}
use Rattle.crash_laws.specs.HeaderAreas.Commits.{begun}
use Rattle.crash_laws.specs.HeaderAreas.Headers.{Copy, Header, Layout, place_of}
use Rattle.crash_laws.specs.HotZones.Standing.{IsPhaseOf, new_start}
use Rattle.crash_laws.specs.HotZones.Zones.{Hotzone, Phase, shifting}
use Rattle.sector_disk.specs.Devices.{failed_call, succeeded}
use Rattle.volume_laws.proofs.Here.{some_atom}
use Rattle.volume_laws.proofs.HoldersKept.{ends_turned, opens_turned}
use Rattle.volume_laws.specs.Converting.{IsInOrder}
use Rattle.volume_machine.specs.Courses.{Turns}
use Rattle.volume_machine.specs.Readings.{Reading}
use Rattle.volume_machine.specs.WorkCalls as calls
use Rattle.volume_machine.specs.WorkCalls.{PutsCopy}
use Rattle.volume_machine.specs.WorkSteps.{WorkStep, Worked, begins, closing, concludes, ends}
use Rattle.volume_machine.specs.WorkSteps.{ends_zone, faults, is_hindered, is_unfinished}
use Rattle.volume_machine.specs.WorkSteps.{leaves_blocks, leaves_broken, misses_conclusion}
use Rattle.volume_machine.specs.WorkSteps.{misses_part, misses_wipe, opens_zone, queues, stays}
use Rattle.volume_machine.specs.WorkSteps.{steps, takes, wiped, wipes}
use Rattle.volume_machine.specs.Saved.{saved_atoms, saved_before}
use Rattle.volume_machine.specs.WorkSteps.{MayConclude, MissesWipe, Wipes}
use Rattle.volume_machine.specs.Works.{Part, Progress, converting, fetched, named, resting, wiping}
use Rattle.volume_laws.specs.WorkerRuns.Leaving.{IsDropped, IsElsewhere, KeepsAtom, SaysItEnds}
use Rattle.volume_laws.proofs.WorkerRuns.AtomCalls.{Spares, SparesCell, cell_twice, copy_fails}
use Rattle.volume_laws.proofs.WorkerRuns.AtomCalls.{spares_copy, spares_read, spares_same, spares_sync}
use Rattle.volume_laws.proofs.WorkerRuns.AtomCalls.{spares_write, sync_fails, write_fails}
use Rattle.volume_laws.proofs.WorkerRuns.RestStages.{IsGuarded, PartFits, Stays, closes, converts}
use Rattle.volume_laws.proofs.WorkerRuns.RestStages.{ended, no_zone_fits}
use Rattle.volume_laws.proofs.WorkerRuns.Stages.{moving_saves, wiping_converts}
use Rattle.volume_laws.proofs.WorkerRuns.StageSteps.{contains_first}
use Rattle.volume_laws.proofs.WorkerRuns.Wiping.{inside_or}

-- ---- an atom that is kept by a call, and one that is kept twice
pub by_call : {K : Type 0} {old new : State K} {place : ℕ}
    → Spares old.map.atom old.disk new.disk place → KeepsAtom old new place
by_call spares = record { bytes = λ whole. spares.bytes; cells = spares.cells }

pub by_fault : {K : Type 0} {old new : State K} {place : ℕ} → new.broken ≡ true
    → SparesCell old.disk.told new.disk.told place → KeepsAtom old new place
by_fault broke cells = record {
  bytes = λ whole. (let both : true ≡ false = sym broke ∙ whole in absurd (cc));
  cells = cells;
}

pub kept_twice : {K : Type 0} {old mid new : State K} {place : ℕ} → mid.map.atom ≡ old.map.atom
    → mid.disk.atoms ≡ old.disk.atoms → (new.broken ≡ false → mid.broken ≡ false)
    → KeepsAtom old mid place → KeepsAtom mid new place → KeepsAtom old new place
kept_twice {old = old} {mid = mid} {new = new} {place = place} atom atoms whole first later = record {
  bytes = λ now bytes told long.
      (let (middle, is, size, same) = first.bytes (whole now) bytes told long in
      let long_then : length middle ≡ mid.disk.atoms * mid.map.atom =
      size ∙ long ∙ rw (atom, atoms) refl in
      let (last, at, more, kept) = later.bytes now middle is long_then in (
        last,
        at,
        more ∙ size,
        subst (λ n. block_at n last place ≡ block_at n middle place) atom kept ∙ same,
      ));
  cells = λ told is.
      (let (middle, was, later_kept) = later.cells told is in
      let (before, began, first_kept) = first.cells middle was in
      (before, began, cell_twice first_kept later_kept));
}

-- ---- what the zone at hand may write
new_own : (resilience : Resilience) (zone : Hotzone (List ℕ)) → resilience ≢ datashift
    → new_start resilience zone ≡ zone.own.start
new_own journal zone stay = refl
new_own checksum zone stay = refl
new_own datashift zone stay = absurd (stay refl)

never_shifts : (resilience : Resilience) (n : ℕ) → resilience ≢ datashift
    → IsPhaseOf resilience (shifting n) → ⊥
never_shifts journal n stay phased = phased
never_shifts checksum n stay phased = phased
never_shifts datashift n stay phased = stay refl

outside_part : (start count n m place : ℕ) → n + m ≤ count → IsOutside start count place
    → IsOutside (start + n) m place
outside_part start count n m place within (inl before) = inl (omega (arith, before))
outside_part start count n m place within (inr behind) = inr (omega (arith, within, behind))

module _ {K : Type 0} {reading : Reading} {layout : Layout} {first : List ℕ} (old new : State K)
    (order : IsInOrder reading old) (stands : Stays reading layout first old) where
  guarded_by : (work : Work) → old.work ≡ Some work → Stays reading layout first old
      → (work.layout ≡ layout) × IsGuarded reading first old.map.atom work
  guarded_by work at (converts one is on lay keeps guards) =
      let same : one ≡ work = cc in (
        subst (λ w. w.layout ≡ layout) same lay,
        subst (IsGuarded reading first old.map.atom) same guards,
      )
  guarded_by work at (closes before last stage areas is says ends_so gone) =
      let same : work ≡ closing layout before last stage areas = cc in (
        ap (λ w. w.layout) same,
        no_zone_fits before last work (ap (λ w. w.zone) same) (ap (λ w. w.part) same),
      )
  guarded_by work at (ended last progress is done says gone) =
      let same : work ≡ resting layout last progress = cc in (
        ap (λ w. w.layout) same,
        no_zone_fits last last work (ap (λ w. w.zone) same) (ap (λ w. w.part) same),
      )

  guarded_at : (work : Work) → old.work ≡ Some work
      → (work.layout ≡ layout) × IsGuarded reading first old.map.atom work
  guarded_at work at = guarded_by work at stands

  some : 0 < old.map.atom
  some = some_atom old.map.atom order.sound.fits.known

  -- ---- places stay
  turned_place : {atoms start : ℕ} {side : Side} {map : Map} (work : Work)
      → Turns atoms work.range side start old.map map → old.work ≡ Some work
      → start ≡ work.zone.own.start → (b : ℕ) → b < old.map.blocks
      → place_in map b ≡ place_in old.map b
  turned_place work turns at start b below =
      let working = order.works work at in
      elim (cases_lt b work.range.start) [
        | inl before ↦ turns.same_places b below (inl before)
        | inr from ↦ elim (cases_lt b work.range.end) [
          | inl to ↦ turns.places b from to ∙ ap (λ n. n + (b - work.range.start)) start
              ∙ sym (working.places b from to)
          | inr beyond ↦ turns.same_places b below (inr beyond)
        ]
      ]

  pub place_stays : {seals : Seals} {worked : Worked} → WorkStep reading seals old new worked
      → (b : ℕ) → b < old.map.blocks → place_in new.map b ≡ place_in old.map b
  place_stays (takes grant it) b below = ap (λ m. place_in m b) it.admitted.goes.map
  place_stays (queues lane it) b below = ap (λ m. place_in m b) it.admitted.goes.map
  place_stays (stays lane it) b below = ap (λ s. place_in s.map b) it.same
  place_stays (begins it) b below = ap (λ m. place_in m b) it.goes.map_is
  place_stays (steps it) b below = ap (λ m. place_in m b) it.goes.map_is
  place_stays (opens_zone it) b below = ap (λ m. place_in m b) it.goes.map_is
      ∙ turned_place it.work (opens_turned order.courses it) it.was refl b below
  place_stays (ends_zone it) b below =
      let (place, guards) = guarded_at it.work it.was in
      ap (λ m. place_in m b) it.goes.map_is
      ∙ turned_place it.work (ends_turned order.courses it) it.was
      (new_own it.work.zone.resilience it.work.zone guards.stay) b below
  place_stays (leaves_blocks it) b below = ap (λ m. place_in m b) it.frees.map
  place_stays (concludes it) b below = ap (λ m. place_in m b) it.goes.map_is
  place_stays (wipes it) b below = ap (λ m. place_in m b) it.goes.map_is
  place_stays (wiped it) b below = ap (λ m. place_in m b) it.goes.map_is
  place_stays (ends it) b below = ap (λ s. place_in s.map b) it.same
  place_stays (misses_part it) b below = ap (λ m. place_in m b) it.gives_up.frees.map
  place_stays (is_hindered cause it) b below = ap (λ m. place_in m b) it.gives_up.frees.map
  place_stays (is_unfinished cause it) b below = ap (λ s. place_in s.map b) it.same
  place_stays (faults it) b below = ap (λ m. place_in m b) it.frees.map
  place_stays (misses_conclusion it) b below = ap (λ m. place_in m b) it.frees.map
  place_stays (misses_wipe it) b below = ap (λ m. place_in m b) it.frees.map
  place_stays (leaves_broken it) b below = ap (λ m. place_in m b) it.frees.map

  -- ---- a place that is elsewhere
  module _ (place : ℕ) (elsewhere : IsElsewhere reading layout first old place) where
    outside_own : (work : Work) → old.work ≡ Some work → (n m : ℕ)
        → n + m ≤ work.zone.own.count → IsOutside (work.zone.own.start + n) m place
    outside_own work at n m within =
        let working = order.works work at in
        let count = working.lies.count in
        let inside = working.lies.inside in
        elim (inside_or (work.zone.own.start + n) m place) [
          | inl (k, below, is) ↦
              let b = work.range.start + (n + k) in
              let to : b < work.range.end = omega (arith, count, within, below) in
              absurd (elsewhere.blocks b (omega (arith, to, inside))
              (working.places b (omega arith) to ∙ (omega (arith, is))))
          | inr outside ↦ outside
        ]

    outside_store : (work : Work) → IsGuarded reading first old.map.atom work → (n m : ℕ) → 0 < m
        → n + m ≤ work.zone.store.count → IsOutside (work.zone.store.start + n) m place
    outside_store work guards n m any within =
        let start = guards.store (omega (arith, any, within)) in
        let most = guards.within in
        subst (λ s. IsOutside (s + n) m place) (sym start)
        (outside_part (reading.store first).start (reading.store first).count n m place
        (omega (arith, within, most)) elsewhere.store)

    outside_copies : (work : Work) → work.layout ≡ layout → (copy : Copy)
        → IsOutside (place_of work.layout copy).start (place_of work.layout copy).count place
    outside_copies work lay copy =
        subst (λ l. IsOutside (place_of l copy).start (place_of l copy).count place) (sym lay)
        (elsewhere.copies copy)

    part_within : (n count total : ℕ) (text : List ℕ)
        → PartFits old.map.atom total (fetched n text) → length text ≡ count * old.map.atom
        → n + count ≤ total
    part_within n count total text fits long =
        let all : (n + count) * old.map.atom ≤ total * old.map.atom =
        (let least : n * old.map.atom + count * old.map.atom ≤ total * old.map.atom =
        subst (λ l. n * old.map.atom + l ≤ total * old.map.atom) long fits in
        let same : (n + count) * old.map.atom ≡ n * old.map.atom + count * old.map.atom =
        grind arith in subst (λ l. l ≤ total * old.map.atom) (sym same) least) in
        le_of_mul-le-mul_right all some

    -- ---- a step of the zone at hand, and one that fails
    module _ {seals : Seals} (work : Work) (at : old.work ≡ Some work)
        (opened moved : Header (List ℕ)) where
      atom_stays : {phase next : Phase} {part later : Part} → IsPhaseOf work.zone.resilience phase
          → PartFits old.map.atom work.zone.own.count part
          → calls.ZoneStep seals old.map.atom (named work opened moved) old.disk new.disk phase part
          next later → Spares old.map.atom old.disk new.disk place
      atom_stays phased fits (calls.reads phase first count text is counted any long call) =
          spares_read place call
      atom_stays phased fits (calls.saves first count text saved it any call) =
          let within = order.works work at in
          let (lay, guards) = guarded_at work at in
          spares_write place (saved_atoms work.zone.resilience old.map.atom count) call some
          it.is.size (let room = it.within in let on_disk = within.within.zone.store in
          omega (arith, room, on_disk))
          (outside_store work guards
          (saved_before work.zone.resilience old.map.atom first)
          (saved_atoms work.zone.resilience old.map.atom count) any it.within)
      atom_stays phased fits (calls.keeps part call) = spares_sync place call
      atom_stays phased fits (calls.opens stage part goes call) =
          let (lay, guards) = guarded_at work at in
          spares_copy old.disk new.disk place some work.layout opened (outside_copies work lay) stage
          (order.works work at).within.copies call
      atom_stays phased fits (calls.writes n count text next any is call) =
          let within = part_within n count work.zone.own.count text fits is.old_size in
          spares_write place count call some is.size
          (let on_disk = (order.works work at).within.zone.own in omega (arith, within, on_disk))
          (outside_own work at n count within)
      atom_stays phased fits (calls.settles part call) = spares_sync place call
      atom_stays phased fits (calls.moves stage part goes call) =
          let (lay, guards) = guarded_at work at in
          spares_copy old.disk new.disk place some work.layout moved (outside_copies work lay) stage
          (order.works work at).within.copies call
      atom_stays phased fits (calls.shifts n count text next any is within call) =
          absurd (never_shifts work.zone.resilience n (guarded_at work at).1.stay phased)
      atom_stays phased fits (calls.arrives part call) = spares_sync place call
      atom_stays phased fits (calls.turns stage part goes call) =
          let (lay, guards) = guarded_at work at in
          spares_copy old.disk new.disk place some work.layout moved (outside_copies work lay) stage
          (order.works work at).within.copies call

    cells_stay : {seals : Seals} (work : Work) (at : old.work ≡ Some work) {phase next : Phase}
        {part : Part} → IsPhaseOf work.zone.resilience phase
        → PartFits old.map.atom work.zone.own.count part
        → calls.StepFails seals old.map.atom work old.disk new.disk phase part next
        → SparesCell old.disk.told new.disk.told place
    cells_stay work at phased fits (calls.read_fails phase first text behind call) =
        (spares_read {atom = old.map.atom} place call).cells
    cells_stay work at phased fits (calls.save_fails first count text saved it any call) =
        write_fails place (saved_atoms work.zone.resilience old.map.atom count) call some it.is.size
        (outside_store work (guarded_at work at).1
        (saved_before work.zone.resilience old.map.atom first)
        (saved_atoms work.zone.resilience old.map.atom count) any it.within)
    cells_stay work at phased fits (calls.open_fails stage part call) =
        copy_fails old.disk new.disk place some work.layout work.zone.opened
        (outside_copies work (guarded_at work at).0) stage call
    cells_stay work at phased fits (calls.write_fails n count text next any is call) =
        write_fails place count call some is.size (outside_own work at n count
        (part_within n count work.zone.own.count text fits is.old_size))
    cells_stay work at phased fits (calls.move_fails stage part call) =
        copy_fails old.disk new.disk place some work.layout work.zone.moved
        (outside_copies work (guarded_at work at).0) stage call
    cells_stay work at phased fits (calls.shift_fails n count text next any is within call) =
        absurd (never_shifts work.zone.resilience n (guarded_at work at).1.stay phased)
    cells_stay work at phased fits (calls.turn_fails stage part call) =
        copy_fails old.disk new.disk place some work.layout work.zone.moved
        (outside_copies work (guarded_at work at).0) stage call
    cells_stay work at phased fits (calls.sync_fails phase part is call) = sync_fails place call

    -- ---- the last header's first write, and areas that are wiped
    laid_at : {l : Layout} {header : Header (List ℕ)} {progress : Progress}
        → old.work ≡ Some (resting l header progress) → l ≡ layout
    laid_at at = (guarded_at _ at).0

    concludes_by : {l : Layout} {header next : Header (List ℕ)} {areas : List Area}
        → MayConclude reading old l header next areas
        → PutsCopy old.map.atom l next begun old.disk new.disk succeeded
        → Spares old.map.atom old.disk new.disk place
    concludes_by {l = l} {next = next} may call =
        spares_copy old.disk new.disk place some l next
        (subst (λ n. (copy : Copy) → IsOutside (place_of n copy).start (place_of n copy).count place)
        (sym (laid_at may.was)) elsewhere.copies) begun
        (order.works _ may.was).within.copies call

    concludes_not : {l : Layout} {header next : Header (List ℕ)} {areas : List Area}
        → MayConclude reading old l header next areas
        → PutsCopy old.map.atom l next begun old.disk new.disk failed_call
        → SparesCell old.disk.told new.disk.told place
    concludes_not {l = l} {next = next} may call =
        copy_fails old.disk new.disk place some l next
        (subst (λ n. (copy : Copy) → IsOutside (place_of n copy).start (place_of n copy).count place)
        (sym (laid_at may.was)) elsewhere.copies) begun call

    -- an area that is to be wiped is one that is dropped
    dropped_in : {l : Layout} {header : Header (List ℕ)} {areas : List Area} (area : Area)
        → old.work ≡ Some (resting l header (wiping areas)) → Contains areas area
        → SaysItEnds reading first header.means
        × Contains (reading.keyslots first) area × (Contains (reading.keyslots header.means) area → ⊥)
    dropped_in {l} {header} {areas} area at has = by stands
      where
        by : Stays reading layout first old → SaysItEnds reading first header.means
            × Contains (reading.keyslots first) area
            × (Contains (reading.keyslots header.means) area → ⊥)
        by (converts one is on lay keeps guards) =
            let same : one ≡ resting l header (wiping areas) = cc in
            absurd (wiping_converts (sym (ap (λ w. w.progress) same) ∙ on))
        by (closes before last stage left is says ends_so gone) =
            let same : closing layout before last stage left ≡ resting l header (wiping areas) = cc in
            absurd (moving_saves (ap (λ w. w.phase) same))
        by (ended last progress is done says gone) =
            let same : resting layout last progress ≡ resting l header (wiping areas) = cc in
            let head : last ≡ header = ap (λ w. w.zone.before) same in
            let left : progress ≡ wiping areas = ap (λ w. w.progress) same in
            let out = gone area (rw left has) in (
              subst (λ h. SaysItEnds reading first h.means) head says,
              out.0,
              subst (λ h. Contains (reading.keyslots h.means) area → ⊥) head out.1,
            )

    is_dropped : {l : Layout} {header : Header (List ℕ)} (area : Area) (areas : List Area)
        (next : Progress) → old.work ≡ Some (resting l header (wiping (area ∷ areas)))
        → new.work ≡ Some (resting l header next) → next ≢ converting
        → (k : ℕ) × (k < area.count) × (place ≡ area.start + k)
        → IsDropped reading first new place
    is_dropped {l} {header} area areas next was is done inside =
        let (says, had, gone) = dropped_in area was (contains_first area areas) in record {
          layout = l;
          last = header;
          progress = next;
          stands = is;
          ended = done;
          says = says;
          area = area;
          had = had;
          gone = gone;
          inside = inside;
        }

    wipes_atom : Wipes old new → KeepsAtom old new place ⊎ IsDropped reading first new place
    wipes_atom it = elim (inside_or it.area.start it.area.count place) [
      | inl inside ↦ inr (is_dropped it.area it.areas (wiping it.areas) it.was it.goes.work
          (λ e. wiping_converts e) inside)
      | inr outside ↦ inl (by_call (spares_write place it.area.count it.call.call some it.call.size
          ((order.works _ it.was).spare it.area (contains_first it.area it.areas)).within outside))
    ]

    misses_atom : MissesWipe old new → KeepsAtom old new place ⊎ IsDropped reading first new place
    misses_atom it = elim (inside_or it.area.start it.area.count place) [
      | inl inside ↦ inr (is_dropped it.area it.areas (wiping (it.area ∷ it.areas)) it.was
          (it.frees.work ∙ it.was) (λ e. wiping_converts e) inside)
      | inr outside ↦ inl (by_fault it.frees.broken_is
          (write_fails place it.area.count it.call.call some it.call.size outside))
    ]

    -- ---- each step
    pub atom_step : {seals : Seals} {worked : Worked} → WorkStep reading seals old new worked
        → KeepsAtom old new place ⊎ IsDropped reading first new place
    atom_step (takes grant it) = inl (by_call (spares_same place it.admitted.rests))
    atom_step (queues lane it) = inl (by_call (spares_same place it.admitted.rests))
    atom_step (stays lane it) = inl (by_call (spares_same place (ap (λ s. s.disk) it.same)))
    atom_step (begins it) = inl (by_call (spares_sync place it.call))
    atom_step (steps it) =
        let (lay, guards) = guarded_at it.work it.was in
        inl (by_call (atom_stays it.work it.was it.opened it.moved
        (order.works it.work it.was).phased guards.part it.step))
    atom_step (opens_zone it) = inl (by_call (spares_sync place it.call))
    atom_step (ends_zone it) = inl (by_call (spares_sync place it.call))
    atom_step (leaves_blocks it) = inl (by_call (spares_same place it.rests))
    atom_step (concludes it) = inl (by_call (concludes_by it.may it.call))
    atom_step (wipes it) = wipes_atom it
    atom_step (wiped it) = inl (by_call (spares_sync place it.call))
    atom_step (ends it) = inl (by_call (spares_same place (ap (λ s. s.disk) it.same)))
    atom_step (misses_part it) = inl (by_call (spares_read place it.call))
    atom_step (is_hindered cause it) = inl (by_call (spares_same place it.rests))
    atom_step (is_unfinished cause it) =
        inl (by_call (spares_same place (ap (λ s. s.disk) it.same)))
    atom_step (faults it) = inl (by_fault it.frees.broken_is
        (cells_stay it.work it.was (order.works it.work it.was).phased
        (guarded_at it.work it.was).1.part it.fails))
    atom_step (misses_conclusion it) =
        inl (by_fault it.frees.broken_is (concludes_not it.may it.call))
    atom_step (misses_wipe it) = misses_atom it
    atom_step (leaves_broken it) = inl (by_call (spares_same place it.rests))
