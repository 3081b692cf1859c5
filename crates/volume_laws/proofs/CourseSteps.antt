-- Each step of the worker keeps the conversion on its course: its map is the one of its header, and
-- the headers to come turn the blocks of the zone alone.
use Rattle.std.proofs.Common.{List, Some, ap, inl, inr, refl, subst, sym, ℕ, ◌∙◌, ◌≡◌, ◌⊎◌}
use Rattle.volume_machine.specs.Seals.{Seals}
use Rattle.volume_machine.specs.States.{State}
use Rattle.volume_machine.specs.Works.{Work}
use Rattle.crash_laws.specs.HeaderAreas.Commits.{first_written}
use Rattle.crash_laws.specs.HeaderAreas.Headers.{Header, IsHeader, IsLaidOut, Layout}
use Rattle.crash_laws.specs.HotZones.Calls.{IsFirst, IsLast}
use Rattle.crash_laws.specs.HotZones.Zones.{Hotzone, Phase, from_of, saving, opening, writing, mending}
use Rattle.crash_laws.specs.HotZones.Zones.{moving, shifting, turning}
use Rattle.volume_machine.specs.Courses.{Courses, IsOnCourse, IsToOpen, Leads, last_from}
use Rattle.volume_machine.specs.Readings.{Reading}
use Rattle.volume_machine.specs.WorkSteps.{Begins, EndsZone, Faults, GivesUp}
use Rattle.volume_machine.specs.WorkSteps.{OpensZone, StepsOn, WorkStep, Worked}
use Rattle.volume_machine.specs.WorkSteps.{begins, closing, concludes, ends, ends_zone, faults}
use Rattle.volume_machine.specs.WorkSteps.{is_hindered, is_unfinished, leaves_blocks, leaves_broken}
use Rattle.volume_machine.specs.WorkSteps.{misses_conclusion, misses_part, misses_wipe, opens_zone}
use Rattle.volume_machine.specs.WorkSteps.{queues, stays, steps, takes, wiped, wipes, MayConclude}
use Rattle.volume_machine.specs.Works.{Progress, advanced, named, resting}
use Rattle.volume_laws.proofs.CoursesKept.{course_further, course_of, course_same, either_to}
use Rattle.volume_laws.proofs.CoursesKept.{fault_first, fault_from, fault_last, fault_opens, fault_to}
use Rattle.volume_laws.proofs.CoursesKept.{first_from, given_from, leads_further, rest_course}
use Rattle.volume_laws.proofs.CoursesKept.{step_from, step_last, step_opens, turns_on}
use Rattle.volume_laws.proofs.NamedServed.{first_or_not}
use Rattle.volume_laws.proofs.TurnsServed.{last_behind, leads_of}

-- ---- a zone whose headers are named
pub named_from : (work : Work) (opened moved : Header (List ℕ))
    → ((IsFirst work.phase → ⊥) → (opened ≡ work.zone.opened) × (moved ≡ work.zone.moved))
    → from_of (named work opened moved).zone work.phase ≡ from_of work.zone work.phase
named_from work opened moved stay = elim (first_or_not work.phase) [
  | inl first ↦ first_from (named work opened moved).zone work.phase first
      ∙ sym (first_from work.zone work.phase first)
  | inr behind ↦ let (same_opened, same_moved) = stay behind in
      rw (same_opened, same_moved) refl
]

named_leads : {K : Type 0} {reading : Reading} {old : State K} (work : Work) (opened moved : Header (List ℕ)) (phase : Phase)
    → ((IsFirst work.phase → ⊥) → (opened ≡ work.zone.opened) × (moved ≡ work.zone.moved))
    → (IsFirst work.phase → (IsFirst phase → ⊥) → Leads reading old (named work opened moved))
    → (IsFirst phase → ⊥) → IsFirst work.phase ⊎ Leads reading old work
    → Leads reading old (named work opened moved)
named_leads work opened moved phase stay leads behind (inl first) = leads first behind
named_leads {reading = reading} {old = old} work opened moved phase stay leads behind (inr known) = elim (first_or_not work.phase) [
  | inl first ↦ leads first behind
  | inr later ↦ let (same_opened, same_moved) = stay later in
      let same : named work opened moved ≡ work = rw (same_opened, same_moved) refl in
      subst (Leads reading old) (sym same) known
]

module _ {K : Type 0} {reading : Reading} {old new : State K} (courses : Courses reading old) where
  -- ---- a zone begins
  begins_course : Begins reading old new → Courses reading new
  begins_course it =
      let rest = courses _ it.was in
      let planned = it.planned in
      let on = it.goes in
      let work = it.work in
      let from : from_of work.zone work.phase ≡ it.header =
      first_from work.zone work.phase planned.first ∙ planned.before in
      course_of work on.work (record {
        is = subst (IsHeader reading.reader) (sym from) rest.is;
        map = on.map_is ∙ rest.map ∙ ap (λ h. reading.map_of h.means) (sym from);
        laid = rw (on.map_is, it.call.atoms, planned.layout_is)
            (subst (λ h. IsLaidOut old.map.atom old.disk.atoms (reading.reader.size h.means)
            it.layout) (sym from) rest.laid);
        is_next = either_to (IsHeader reading.reader) work.zone work.phase
            (subst (IsHeader reading.reader) (sym planned.opened) rest.is)
            (subst (IsHeader reading.reader) (sym planned.moved) rest.is);
        next = inl planned.first;
      })

  -- ---- a step of it
  steps_course : {seals : Seals} → new.disk.atoms ≡ old.disk.atoms → StepsOn reading seals old new
      → Courses reading new
  steps_course atoms it =
      let work = it.work in
      let course = courses work it.was in
      let on = it.goes in
      let next = named work it.opened it.moved in
      let from = named_from work it.opened it.moved it.names.stay in
      course_of (advanced next it.phase it.part) on.work (course_further old new on.map_is atoms next it.phase
      it.part (step_from next.zone it.step) (either_to (IsHeader reading.reader) next.zone it.phase
      it.names.is.0 it.names.is.1)
      (elim (first_or_not it.phase) [
        | inl first ↦ inl first
        | inr behind ↦ inr (leads_further old new on.map_is atoms next it.phase it.part
            (step_last next.zone it.step) (step_opens it.step)
            (named_leads work it.opened it.moved it.phase it.names.stay it.names.leads behind
            course.next))
      ])
      (subst (IsHeader reading.reader) (sym from) course.is)
      (course.map ∙ ap (λ h. reading.map_of h.means) (sym from))
      (subst (λ h. IsLaidOut old.map.atom old.disk.atoms (reading.reader.size h.means) work.layout)
      (sym from) course.laid))

  -- ---- the last calls of its commits
  opens_course : OpensZone reading old new → Courses reading new
  opens_course it =
      let work = it.work in
      let course = courses work it.was in
      let on = it.goes in
      let leads = leads_of work course (λ first. subst IsFirst it.phase first) in
      let succeeds = (leads.opens (rw it.phase tt)).0 in
      let turned = (leads.opens (rw it.phase tt)).1 in
      let from : from_of work.zone work.phase ≡ work.zone.before = rw it.phase refl in
      let last : last_from work.zone work.phase ≡ work.zone.opened = rw it.phase refl in
      course_of (advanced work (writing 0) work.part) on.work (record {
        is = succeeds.is;
        map = on.map_is;
        laid = rw (on.map_is, turned.atom, it.call.atoms, succeeds.follows.1)
            (subst (λ h. IsLaidOut old.map.atom old.disk.atoms (reading.reader.size h.means)
            work.layout) from course.laid);
        is_next = leads.moves.0.is;
        next = inr (record {
          opens = λ to_open. absurd to_open;
          moves = (
            subst (λ h. Rattle.volume_machine.specs.Courses.Succeeds reading.reader h
                work.zone.moved) last leads.moves.0,
            rw (on.map_is, it.call.atoms) (turns_on turned leads.moves.1),
          );
        });
      })

  ends_course : EndsZone reading old new → Courses reading new
  ends_course it =
      let work = it.work in
      let course = courses work it.was in
      let on = it.goes in
      let leads = leads_of work course (last_behind work.phase it.last) in
      let succeeds = leads.moves.0 in let turned = leads.moves.1 in
      let from : last_from work.zone work.phase ≡ from_of work.zone work.phase =
      last_is work.zone work.phase it.last in
      course_of (resting work.layout work.zone.moved work.progress) on.work
      (rest_course work.layout work.zone.moved work.progress succeeds.is on.map_is
      (rw (on.map_is, turned.atom, it.call.atoms, succeeds.follows.1)
      (subst (λ h. IsLaidOut old.map.atom old.disk.atoms (reading.reader.size h.means) work.layout)
      (sym from) course.laid)))
    where
      last_is : (zone : Hotzone (List ℕ)) (phase : Phase) → IsLast phase
          → last_from zone phase ≡ from_of zone phase
      last_is zone (saving n) is = absurd is
      last_is zone (opening stage) is = absurd is
      last_is zone (writing n) is = absurd is
      last_is zone (mending n) is = absurd is
      last_is zone (moving stage) is = refl
      last_is zone (shifting n) is = absurd is
      last_is zone (turning stage) is = refl

  -- ---- the finish
  closing_course : {layout : Layout} {header next : Header (List ℕ)} {areas : List _}
      → MayConclude reading old layout header next areas → new.map ≡ old.map
      → new.disk.atoms ≡ old.disk.atoms
      → IsOnCourse reading new (closing layout header next first_written areas)
  closing_course may map atoms =
      let rest = courses _ may.was in record {
        is = rest.is;
        map = map ∙ rest.map;
        laid = rw (map, atoms) rest.laid;
        is_next = may.succeeds.is;
        next = inr (record {
          opens = λ to_open. absurd to_open;
          moves = (may.succeeds, rw (map, atoms) may.turns);
        });
      }

  -- ---- a zone that is given up, and steps that fail
  given_up_course : (work : Work) → new.disk.atoms ≡ old.disk.atoms → GivesUp old new work
      → Courses reading new
  given_up_course work atoms it =
      let course = courses work it.was in
      let from = given_from work.zone work.phase it.phase in
      course_of (resting work.layout work.zone.before work.progress) it.frees.work
      (rest_course work.layout work.zone.before work.progress
      (subst (IsHeader reading.reader) from course.is)
      (it.frees.map ∙ course.map ∙ ap (λ h. reading.map_of h.means) from)
      (rw (it.frees.map, atoms) (subst (λ h. IsLaidOut old.map.atom old.disk.atoms
      (reading.reader.size h.means) work.layout) from course.laid)))

  faults_course : {seals : Seals} → new.disk.atoms ≡ old.disk.atoms → Faults seals old new
      → Courses reading new
  faults_course atoms it =
      let work = it.work in
      let course = courses work it.was in
      course_of (advanced work it.phase work.part) it.frees.work (course_further old new it.frees.map atoms
      work it.phase work.part (fault_from work.zone it.fails)
      (subst (IsHeader reading.reader) (sym (fault_to work.zone it.fails)) course.is_next)
      (elim course.next [
        | inl first ↦ inl (fault_first it.fails first)
        | inr leads ↦ inr (leads_further old new it.frees.map atoms work it.phase work.part
            (fault_last work.zone it.fails) (fault_opens it.fails) leads)
      ])
      course.is course.map course.laid)

  -- between two zones, where the header stays
  rest_on : {layout : Layout} {header : Header (List ℕ)} {progress : Progress}
      → old.work ≡ Some (resting layout header progress) → new.map ≡ old.map
      → new.disk.atoms ≡ old.disk.atoms → (next : Progress)
      → IsOnCourse reading new (resting layout header next)
  rest_on {layout} {header} was map atoms next = let rest = courses _ was in
      rest_course layout header next rest.is (map ∙ rest.map) (rw (map, atoms) rest.laid)

  -- ---- each step
  pub work_course : {seals : Seals} {worked : Worked} → new.disk.atoms ≡ old.disk.atoms
      → WorkStep reading seals old new worked → Courses reading new
  work_course atoms (takes grant it) =
      course_same it.admitted.goes.map atoms it.admitted.goes.work courses
  work_course atoms (queues lane it) =
      course_same it.admitted.goes.map atoms it.admitted.goes.work courses
  work_course atoms (stays lane it) = subst (Courses reading) (sym it.same) courses
  work_course atoms (begins it) = begins_course it
  work_course atoms (steps it) = steps_course atoms it
  work_course atoms (opens_zone it) = opens_course it
  work_course atoms (ends_zone it) = ends_course it
  work_course atoms (leaves_blocks it) = course_same it.frees.map atoms it.frees.work courses
  work_course atoms (concludes it) =
      course_of (closing it.layout it.header it.next first_written it.areas) it.goes.work
      (closing_course it.may it.goes.map_is atoms)
  work_course atoms (wipes it) = course_of _ it.goes.work (rest_on it.was it.goes.map_is atoms _)
  work_course atoms (wiped it) = course_of _ it.goes.work (rest_on it.was it.goes.map_is atoms _)
  work_course atoms (ends it) = subst (Courses reading) (sym it.same) courses
  work_course atoms (misses_part it) = given_up_course it.work atoms it.gives_up
  work_course atoms (is_hindered cause it) = given_up_course it.work atoms it.gives_up
  work_course atoms (is_unfinished cause it) = subst (Courses reading) (sym it.same) courses
  work_course atoms (faults it) = faults_course atoms it
  work_course atoms (misses_conclusion it) =
      course_of (closing it.layout it.header it.next first_written it.areas) it.frees.work
      (closing_course it.may it.frees.map atoms)
  work_course atoms (misses_wipe it) = course_same it.frees.map atoms it.frees.work courses
  work_course atoms (leaves_broken it) = course_same it.frees.map atoms it.frees.work courses
