-- How a conversion stands behind each step of its worker, whatever the step was answered: what its
-- headers say, and what the zone at hand may write.
use Rattle.std.proofs.Common.{Contains, List, Some, ap, arith, length, refl, subst, suc, sym, zero}
use Rattle.std.proofs.Common.{ℕ, ◌*◌, ◌+◌, ◌-◌, ◌<◌, ◌∙◌, ◌≡◌, ◌≢◌, ◌≤◌, mul-le-mul_right, Bool}
use Rattle.std.proofs.Common.{true, false, ◌==◌, if◌then◌else◌}
use Rattle.crash_laws.specs.HotZones.Zones.{datashift}
use Rattle.segment_map.specs.declared.Side.TheVariants.{New}
use Rattle.volume_machine.specs.Seals.{Seals}
use Rattle.volume_machine.specs.States.{State}
use Rattle.volume_machine.specs.Works.{Work}
use Rattle.std.proofs.Math.Nat.{min-le_left}
use Rattle.crash_laws.specs.HeaderAreas.Areas.{Area}
use Rattle.crash_laws.specs.HeaderAreas.Commits.{Stage, first_written}
use Rattle.crash_laws.specs.HeaderAreas.Headers.{Header, Layout}
use Rattle.crash_laws.specs.HotZones.Zones.{Phase, writing}
use Rattle.sector_disk.specs.Devices.{Device}
use Rattle.volume_laws.proofs.HoldersKept.{ends_turned, opens_turned}
use Rattle.volume_machine.specs.Courses.{Courses}
use Rattle.volume_machine.specs.Readings.{Reading}
use Rattle.volume_machine.specs.WorkCalls as calls
use Rattle.volume_machine.specs.WorkSteps.{WorkStep, Worked, begins, closing, concludes, ends}
use Rattle.volume_machine.specs.WorkSteps.{ends_zone, faults, is_hindered, is_unfinished}
use Rattle.volume_machine.specs.WorkSteps.{leaves_blocks, leaves_broken, misses_conclusion}
use Rattle.volume_machine.specs.WorkSteps.{misses_part, misses_wipe, opens_zone, queues, stays}
use Rattle.volume_machine.specs.WorkSteps.{steps, takes, wiped, wipes}
use Rattle.volume_machine.specs.WorkSteps.{Begins, EndsZone, Faults, GivesUp, MayConclude}
use Rattle.volume_machine.specs.WorkSteps.{OpensZone, StepsOn}
use Rattle.volume_machine.specs.Works.{Part, Progress, advanced, converting, fetched}
use Rattle.volume_machine.specs.Works.{empty_zone, named, resting, wanted, wiping}
use Rattle.volume_machine.specs.Working.{wiped_later}
use Rattle.volume_laws.specs.WorkerRuns.Leaving.{SaysAs, SaysItEnds}
use Rattle.volume_laws.proofs.WorkerRuns.HeadersKept.{AllKeep, begins_keeps, ends_keeps, faults_keep}
use Rattle.volume_laws.proofs.WorkerRuns.HeadersKept.{given_keeps, opens_keeps, steps_keep}
use Rattle.volume_laws.proofs.WorkerRuns.Stages.{complete_converts, wiping_converts}
use Rattle.volume_laws.proofs.WorkerRuns.RestEnds.{ClosedOn, closed_on, closed_so, closing_on, ended_on}

-- ---- the part on its way is the zone's
abbrev pub PartFits : ℕ → ℕ → Part → Type 0
PartFits atom total (wanted n) = Unit {0}
PartFits atom total (fetched n text) = n * atom + length text ≤ total * atom

-- Blocks stay in their places, and what is saved of the zone is saved in the area that the first
-- header says.
pub record IsGuarded (reading : Reading) (first : List ℕ) (atom : ℕ) (work : Work) : Type 0 where
  pub stay : work.zone.resilience ≢ datashift
  pub store : 0 < work.zone.store.count → work.zone.store.start ≡ (reading.store first).start
  pub within : work.zone.store.count ≤ (reading.store first).count
  pub part : PartFits atom work.zone.own.count work.part

-- these areas are keyslots' that the first header has and the last one hasn't
abbrev pub AreGone : Reading → List ℕ → List ℕ → List Area → Type 0
AreGone reading first last areas = (area : Area) → Contains areas area
    → Contains (reading.keyslots first) area × (Contains (reading.keyslots last) area → ⊥)

-- ---- blocks are left to convert; the last header is to be committed; no commit is left
pub data Stays {K : Type 0} (reading : Reading) (layout : Layout) (first : List ℕ) (now : State K)
    : Type 0 where
  converts : (work : Work) → now.work ≡ Some work → work.progress ≡ converting
      → work.layout ≡ layout → AllKeep reading first work
      → IsGuarded reading first now.map.atom work → Stays reading layout first now
  closes : (before last : Header (List ℕ)) (stage : Stage) (areas : List Area)
      → now.work ≡ Some (closing layout before last stage areas)
      → SaysAs reading first before.means → SaysItEnds reading first last.means
      → AreGone reading first last.means areas → Stays reading layout first now
  ended : (last : Header (List ℕ)) (progress : Progress)
      → now.work ≡ Some (resting layout last progress) → progress ≢ converting
      → SaysItEnds reading first last.means
      → AreGone reading first last.means (wiped_later progress) → Stays reading layout first now

-- ---- parts
part_first : (atom count first total : ℕ) (text : List ℕ) → count ≤ total - first → 0 < count
    → length text ≡ count * atom → PartFits atom total (fetched first text)
part_first atom count first total text below some long =
    let fits : (first + count) * atom ≤ total * atom =
    mul-le-mul_right atom (omega (arith, below, some)) in
    rw long (let same : first * atom + count * atom ≡ (first + count) * atom = grind arith in
    subst (λ n. n ≤ total * atom) (sym same) fits)

part_again : (atom total : ℕ) (old : List ℕ) (b : Bool) (first more : ℕ)
    → PartFits atom total (fetched 0 old)
    → PartFits atom total (if b then fetched 0 old else wanted more)
part_again atom total old true first more fits = fits
part_again atom total old false first more fits = tt

wanted_either : (atom total : ℕ) (b : Bool) (one other : ℕ)
    → PartFits atom total (if b then wanted one else wanted other)
wanted_either atom total true one other = tt
wanted_either atom total false one other = tt

saved_fits : (atom count first more total : ℕ) (text : List ℕ)
    → PartFits atom total (fetched first text)
    → PartFits atom total (calls.after_saving count first more text)
saved_fits atom count zero more total text fits =
    part_again atom total text (more == count) 0 more fits
saved_fits atom count (suc first) more total text fits =
    wanted_either atom total (suc first + more == count) 0 (suc first + more)

module _ {seals : Seals} {atom : ℕ} {work : Work} {old new : Device} where
  part_goes : {phase next : Phase} {part later : Part}
      → calls.ZoneStep seals atom work old new phase part next later
      → PartFits atom work.zone.own.count part → PartFits atom work.zone.own.count later
  part_goes (calls.reads phase first count text is counted some long call) fits =
      part_first atom count first work.zone.own.count text (rw counted (min-le_left _ _)) some long
  part_goes (calls.saves first count text saved it some call) fits =
      saved_fits atom work.zone.own.count first count work.zone.own.count text fits
  part_goes (calls.keeps part call) fits = fits
  part_goes (calls.opens stage part goes call) fits = fits
  part_goes (calls.writes n count text next some is call) fits = tt
  part_goes (calls.settles part call) fits = fits
  part_goes (calls.moves stage part goes call) fits = fits
  part_goes (calls.shifts n count text next some is within call) fits = tt
  part_goes (calls.arrives part call) fits = fits
  part_goes (calls.turns stage part goes call) fits = fits

-- ---- what is at rest
pub no_zone_fits : {reading : Reading} {first : List ℕ} {atom : ℕ} (before last : Header (List ℕ))
    (work : Work) → work.zone ≡ empty_zone before last → work.part ≡ wanted 0
    → IsGuarded reading first atom work
no_zone_fits before last work none part = rw (none, part) (record {
  stay = λ e. cc;
  store = λ some. absurd (omega (arith, some));
  within = omega arith;
  part = tt;
})

-- ---- blocks are left to convert
guarded_on : {reading : Reading} {first : List ℕ} {atom : ℕ} (work : Work) (opened moved : Header (List ℕ)) (phase : Phase) (part : Part)
    → PartFits atom work.zone.own.count part
    → IsGuarded reading first atom work
    → IsGuarded reading first atom (advanced (named work opened moved) phase part)
guarded_on work opened moved phase part fits guards =
    record { stay = guards.stay; store = guards.store; within = guards.within; part = fits }

begun_guarded : {K : Type 0} {reading : Reading} {first : List ℕ} (old new : State K)
    → reading.guard first ≢ datashift → (it : Begins reading old new)
    → AllKeep reading first (resting it.layout it.header converting)
    → IsGuarded reading first old.map.atom it.work
begun_guarded old new stay it keeps =
    let planned = it.planned in let says = keeps.from in record {
      stay = λ shifts. stay (sym says.guard ∙ sym planned.guard ∙ shifts);
      store = λ some. planned.store some ∙ ap (λ a. a.start) says.store;
      within = subst (λ a. it.work.zone.store.count ≤ a.count) says.store planned.store_within;
      part = rw planned.part tt;
    }

module _ {K : Type 0} {reading : Reading} {layout : Layout} {first : List ℕ} (old new : State K)
    (stay : reading.guard first ≢ datashift) where
  same_converts : (work : Work) → new.work ≡ Some work → new.map.atom ≡ old.map.atom
      → work.progress ≡ converting → work.layout ≡ layout → AllKeep reading first work
      → IsGuarded reading first old.map.atom work → Stays reading layout first new
  same_converts work is atom on lay keeps guards = converts work is on lay keeps
      (subst (λ n. IsGuarded reading first n work) (sym atom) guards)

  concludes_on : {l : Layout} {header next : Header (List ℕ)} {areas : List Area}
      → MayConclude reading old l header next areas → l ≡ layout
      → SaysAs reading first header.means
      → new.work ≡ Some (closing l header next first_written areas)
      → Stays reading layout first new
  concludes_on {header = header} {next = next} {areas = areas} may lay says is =
      closes header next first_written areas (is ∙ rw lay refl) says
      (record { rests = may.rests; sealing = may.sealing ∙ says.sealing New })
      (λ area has. let (had, gone) = (may.dropped area).0 has in
      (subst (λ slots. Contains slots area) says.keyslots had, gone))

  module _ (work : Work) (was : old.work ≡ Some work) (on : work.progress ≡ converting)
      (lay : work.layout ≡ layout) (keeps : AllKeep reading first work)
      (guards : IsGuarded reading first old.map.atom work) where
    the_work : {other : Work} → old.work ≡ Some other → work ≡ other
    the_work at = cc

    same_work : new.work ≡ old.work → new.map ≡ old.map → Stays reading layout first new
    same_work same map =
        same_converts work (same ∙ was) (ap (λ m. m.atom) map) on lay keeps guards

    at_rest : {l : Layout} {h : Header (List ℕ)} {progress : Progress}
        → old.work ≡ Some (resting l h progress)
        → (l ≡ layout) × AllKeep reading first (resting l h progress)
    at_rest at = let same = the_work at in
        (subst (λ w. w.layout ≡ layout) same lay, subst (AllKeep reading first) same keeps)

    ended_never : {l : Layout} {h : Header (List ℕ)} {progress : Progress}
        → progress ≢ converting → old.work ≡ Some (resting l h progress) → ⊥
    ended_never done at = done (sym (ap (λ w. w.progress) (the_work at)) ∙ on)

    begins_on : Begins reading old new → Stays reading layout first new
    begins_on it =
        let (place, all) = at_rest it.was in
        same_converts it.work it.goes.work (ap (λ m. m.atom) it.goes.map_is) it.planned.progress
        (it.planned.layout_is ∙ place) (begins_keeps old new it all) (begun_guarded old new stay it all)

    steps_on : {seals : Seals} → StepsOn reading seals old new → Stays reading layout first new
    steps_on it =
        let same = the_work it.was in
        same_converts (advanced (named it.work it.opened it.moved) it.phase it.part) it.goes.work
        (ap (λ m. m.atom) it.goes.map_is) (subst (λ w. w.progress ≡ converting) same on)
        (subst (λ w. w.layout ≡ layout) same lay)
        (steps_keep old new it (subst (AllKeep reading first) same keeps))
        (let held = subst (IsGuarded reading first old.map.atom) same guards in
        guarded_on it.work it.opened it.moved it.phase it.part (part_goes it.step held.part) held)

    opens_on : OpensZone reading old new → new.map.atom ≡ old.map.atom
        → Stays reading layout first new
    opens_on it atom =
        let same = the_work it.was in
        same_converts (advanced it.work (writing 0) it.work.part) it.goes.work atom
        (subst (λ w. w.progress ≡ converting) same on) (subst (λ w. w.layout ≡ layout) same lay)
        (opens_keeps old new it (subst (AllKeep reading first) same keeps))
        (let held = subst (IsGuarded reading first old.map.atom) same guards in
        record { stay = held.stay; store = held.store; within = held.within; part = held.part })

    ends_on : EndsZone reading old new → new.map.atom ≡ old.map.atom
        → Stays reading layout first new
    ends_on it atom =
        let same = the_work it.was in
        same_converts (resting it.work.layout it.work.zone.moved it.work.progress) it.goes.work atom
        (subst (λ w. w.progress ≡ converting) same on) (subst (λ w. w.layout ≡ layout) same lay)
        (ends_keeps old new it (subst (AllKeep reading first) same keeps))
        (no_zone_fits it.work.zone.moved it.work.zone.moved _ refl refl)

    given_on : (one : Work) → GivesUp old new one → Stays reading layout first new
    given_on one it =
        let same = the_work it.was in
        same_converts (resting one.layout one.zone.before one.progress) it.frees.work
        (ap (λ m. m.atom) it.frees.map) (subst (λ w. w.progress ≡ converting) same on)
        (subst (λ w. w.layout ≡ layout) same lay)
        (given_keeps old new one it (subst (AllKeep reading first) same keeps))
        (no_zone_fits one.zone.before one.zone.before _ refl refl)

    faults_on : {seals : Seals} → Faults seals old new → Stays reading layout first new
    faults_on it =
        let same = the_work it.was in
        same_converts (advanced it.work it.phase it.work.part) it.frees.work
        (ap (λ m. m.atom) it.frees.map) (subst (λ w. w.progress ≡ converting) same on)
        (subst (λ w. w.layout ≡ layout) same lay)
        (faults_keep old new it (subst (AllKeep reading first) same keeps))
        (let held = subst (IsGuarded reading first old.map.atom) same guards in
        record { stay = held.stay; store = held.store; within = held.within; part = held.part })

    pub converts_on : {seals : Seals} {worked : Worked} → Courses reading old
        → WorkStep reading seals old new worked → Stays reading layout first new
    converts_on courses (takes grant it) = same_work it.admitted.goes.work it.admitted.goes.map
    converts_on courses (queues lane it) = same_work it.admitted.goes.work it.admitted.goes.map
    converts_on courses (stays lane it) =
        same_work (ap (λ s. s.work) it.same) (ap (λ s. s.map) it.same)
    converts_on courses (begins it) = begins_on it
    converts_on courses (steps it) = steps_on it
    converts_on {seals = seals} courses (opens_zone it) =
        opens_on it (ap (λ m. m.atom) it.goes.map_is ∙ (opens_turned courses it).atom)
    converts_on {seals = seals} courses (ends_zone it) =
        ends_on it (ap (λ m. m.atom) it.goes.map_is ∙ (ends_turned courses it).atom)
    converts_on courses (leaves_blocks it) = same_work it.frees.work it.frees.map
    converts_on courses (concludes it) = let (place, all) = at_rest it.may.was in
        concludes_on it.may place all.from it.goes.work
    converts_on courses (wipes it) = absurd (ended_never (λ e. wiping_converts e) it.was)
    converts_on courses (wiped it) = absurd (ended_never (λ e. wiping_converts e) it.was)
    converts_on courses (ends it) = absurd (ended_never (λ e. complete_converts e) it.was)
    converts_on courses (misses_part it) = given_on it.work it.gives_up
    converts_on courses (is_hindered cause it) = given_on it.work it.gives_up
    converts_on courses (is_unfinished cause it) =
        same_work (ap (λ s. s.work) it.same) (ap (λ s. s.map) it.same)
    converts_on courses (faults it) = faults_on it
    converts_on courses (misses_conclusion it) = let (place, all) = at_rest it.may.was in
        concludes_on it.may place all.from it.frees.work
    converts_on courses (misses_wipe it) = absurd (ended_never (λ e. wiping_converts e) it.was)
    converts_on courses (leaves_broken it) = same_work it.frees.work it.frees.map

  -- ---- each step
  closed_stays : {before last : Header (List ℕ)} {areas : List Area}
      → SaysAs reading first before.means → SaysItEnds reading first last.means
      → AreGone reading first last.means areas → ClosedOn layout before last areas new
      → Stays reading layout first new
  closed_stays {before = before} {last = last} {areas = areas} says ends_so gone (closing_on stage is) =
      closes before last stage areas is says ends_so gone
  closed_stays {last = last} {areas = areas} says ends_so gone (closed_so is) =
      ended last (wiping areas) is (λ e. wiping_converts e) ends_so gone

  pub stays_on : {seals : Seals} {worked : Worked} → Courses reading old
      → Stays reading layout first old → WorkStep reading seals old new worked
      → Stays reading layout first new
  stays_on courses (converts work was on lay keeps guards) step =
      converts_on work was on lay keeps guards courses step
  stays_on courses (closes before last stage areas was says ends_so gone) step =
      closed_stays says ends_so gone (closed_on old new was step)
  stays_on courses (ended last progress was done says gone) step =
      let on = ended_on old new was done step in
      ended last on.next on.is on.ended says (λ area has. gone area (on.left area has))
