-- The headers of a conversion tell the same of its seals, and of the zone at hand what guards it:
-- kept by each deed.
use Rattle.std.proofs.Common.{List, Some, [], ap, arith, inl, inr, refl, subst, sym, ℕ, ◌<◌, ◌∙◌}
use Rattle.std.proofs.Common.{◌∷◌, ◌≡◌, ◌≤◌}
use Rattle.segment_map.specs.declared.Side.TheVariants.{New, Old}
use Rattle.volume_machine.specs.Seals.{Seals}
use Rattle.volume_machine.specs.States.{State}
use Rattle.crash_laws.specs.HeaderAreas.Commits.{begun, first_written}
use Rattle.crash_laws.specs.HeaderAreas.Headers.{Header, Layout}
use Rattle.crash_laws.specs.HotZones.Calls.{IsFirst}
use Rattle.crash_laws.specs.HotZones.Zones.{Phase, from_of, mending, moving, opening, saving}
use Rattle.crash_laws.specs.HotZones.Zones.{shifting, stage_of, to_of, turning, writing}
use Rattle.volume_machine.proofs.EventEffects.{event_effects}
use Rattle.volume_machine.specs.Courses.{Continues, IsToOpen, last_from}
use Rattle.volume_machine.specs.Deeds.{Act, AreDeeds, Deed, Does, client, state_after, worker}
use Rattle.volume_machine.specs.Readings.{Reading}
use Rattle.volume_machine.specs.WorkSteps.{Begins, EndsZone, Faults, GivesUp, MayConclude}
use Rattle.volume_machine.specs.WorkSteps.{OpensZone, StepsOn, WorkStep, Worked, begins, closing}
use Rattle.volume_machine.specs.WorkSteps.{concludes, ends, ends_zone, faults, is_hindered}
use Rattle.volume_machine.specs.WorkSteps.{is_unfinished, leaves_blocks, leaves_broken}
use Rattle.volume_machine.specs.WorkSteps.{misses_conclusion, misses_part, misses_wipe, opens_zone}
use Rattle.volume_machine.specs.WorkSteps.{queues, stays, steps, takes, wiped, wipes}
use Rattle.volume_machine.specs.Works.{Part, Progress, Work, advanced, complete, converting, named, resting, wiping}
use Rattle.volume_laws.specs.Telling.{Tells, TellsBeside}
use Rattle.volume_laws.proofs.CourseSteps.{named_from}
use Rattle.volume_laws.proofs.CoursesKept.{fault_first, fault_from, fault_opens, first_from}
use Rattle.volume_laws.proofs.CoursesKept.{given_from, step_from, step_opens}
use Rattle.volume_laws.proofs.NamedServed.{first_or_not}
use Rattle.volume_laws.proofs.TurnsServed.{last_behind}
use Rattle.volume_laws.proofs.ZoneBlocks.{either_header}

-- what each of the zone's headers tells
record AllTell (reading : Reading) (start : List ℕ) (work : Work) : Type 0 where
  from : Tells reading start work (from_of work.zone work.phase).means
  opened : (IsFirst work.phase → ⊥) → IsToOpen work.phase
      → Tells reading start work work.zone.opened.means
  moved : (IsFirst work.phase → ⊥) → Tells reading start work work.zone.moved.means

abbrev StateTells : {K : Type 0} → Reading → List ℕ → State K → Type 0
StateTells reading start state = (work : Work) → state.work ≡ Some work
    → AllTell reading start work

-- a header that goes on with the conversion tells the same
told_on : {reading : Reading} {start from to : List ℕ} (work : Work) → Continues reading from to
    → Tells reading start work from → Tells reading start work to
told_on work on tells = record {
  new = on.sealing New ∙ tells.new;
  old = λ converts. on.sealing Old ∙ tells.old converts;
  zone = λ some. (let zone = tells.zone some in record {
    converts = on.converts;
    guard = on.guard ∙ zone.guard;
    store = λ stored. zone.store stored ∙ ap (λ area. area.start) (sym on.store);
    store_within = subst (λ area. work.zone.store.count ≤ area.count) (sym on.store)
        zone.store_within;
  });
}

-- of the same zone, in another phase
told_of : {reading : Reading} {start header : List ℕ} (work next : Work)
    → next.progress ≡ work.progress → next.range ≡ work.range
    → next.zone.resilience ≡ work.zone.resilience → next.zone.store ≡ work.zone.store
    → Tells reading start work header → Tells reading start next header
told_of work next progress range resilience store tells = record {
  new = tells.new;
  old = λ on. tells.old (sym progress ∙ on);
  zone = λ some. (let zone = tells.zone (subst (λ r. r.start < r.end) range some) in record {
    converts = zone.converts;
    guard = zone.guard ∙ sym resilience;
    store = λ stored. ap (λ area. area.start) store
        ∙ zone.store (subst (λ area. 0 < area.count) store stored);
    store_within = rw store zone.store_within;
  });
}

further : {reading : Reading} {start header : List ℕ} (work : Work) (phase : Phase) (part : Part)
    → Tells reading start work header → Tells reading start (advanced work phase part) header
further work phase part = told_of work (advanced work phase part) refl refl refl refl

module _ {reading : Reading} {start : List ℕ} where
  -- between two zones
  rest_tells : (layout : Layout) (header : Header (List ℕ)) (progress : Progress) (work : Work)
      → (progress ≡ converting → work.progress ≡ converting) → Tells reading start work header.means
      → AllTell reading start (resting layout header progress)
  rest_tells layout header progress work converts tells = record {
    from = record {
      new = tells.new;
      old = λ on. tells.old (converts on);
      zone = λ some. absurd (omega (arith, some));
    };
    opened = λ behind. absurd (behind refl);
    moved = λ behind. absurd (behind refl);
  }

  module _ {K : Type 0} (old new : State K) (told : StateTells reading start old) where
    same_tells : new.work ≡ old.work → StateTells reading start new
    same_tells same work is = told work (sym same ∙ is)

    tells_of : (work : Work) → new.work ≡ Some work → AllTell reading start work
        → StateTells reading start new
    tells_of work at tells one is = let same : one ≡ work = cc in
        subst (AllTell reading start) (sym same) tells

    -- under the header of before, which is at rest
    rest_on : {layout : Layout} {header : Header (List ℕ)} {progress : Progress} (next : Progress)
        → (next ≡ converting → ⊥) → old.work ≡ Some (resting layout header progress)
        → AllTell reading start (resting layout header next)
    rest_on {layout} {header} {progress} next done was =
        rest_tells layout header next (resting layout header progress) (λ on. absurd (done on))
        (told (resting layout header progress) was).from

    begins_tells : (it : Begins reading old new) → AllTell reading start it.work
    begins_tells it =
        let work = it.work in let planned = it.planned in
        let before = (told _ it.was).from in
        let same : it.header.means ≡ (from_of work.zone work.phase).means =
        ap (λ h. h.means) (sym planned.before ∙ sym (first_from work.zone work.phase planned.first))
        in record {
          from = subst (Tells reading start work) same (record {
            new = before.new;
            old = λ on. before.old refl;
            zone = λ some. record {
              converts = planned.converts;
              guard = sym planned.guard;
              store = planned.store;
              store_within = planned.store_within;
            };
          });
          opened = λ behind. absurd (behind planned.first);
          moved = λ behind. absurd (behind planned.first);
        }

    closing_tells : {layout : Layout} {header next : Header (List ℕ)} {areas : List _}
        → MayConclude reading old layout header next areas
        → AllTell reading start (closing layout header next first_written areas)
    closing_tells may = let before = (told _ may.was).from in record {
      from = record {
        new = before.new;
        old = λ on. absurd (cc);
        zone = λ some. absurd (omega (arith, some));
      };
      opened = λ behind to_open. absurd to_open;
      moved = λ behind. record {
        new = may.sealing ∙ before.new;
        old = λ on. absurd (cc);
        zone = λ some. absurd (omega (arith, some));
      };
    }

    given_tells : (work : Work) → GivesUp old new work → StateTells reading start new
    given_tells work it = tells_of (resting work.layout work.zone.before work.progress)
        it.frees.work (rest_tells work.layout work.zone.before work.progress work (λ on. on)
        (subst (λ h. Tells reading start work h.means) (given_from work.zone work.phase it.phase)
        (told work it.was).from))

    opens_tells : (it : OpensZone reading old new)
        → AllTell reading start (advanced it.work (writing 0) it.work.part)
    opens_tells it =
        let tells = told it.work it.was in
        let behind : IsFirst it.work.phase → ⊥ = λ first. subst IsFirst it.phase first in
        record {
          from = further it.work (writing 0) it.work.part (tells.opened behind (rw it.phase tt));
          opened = λ _ to_open. absurd to_open;
          moved = λ _. further it.work (writing 0) it.work.part (tells.moved behind);
        }

    ends_tells : (it : EndsZone reading old new) → StateTells reading start new
    ends_tells it =
        let work = it.work in
        tells_of (resting work.layout work.zone.moved work.progress) it.goes.work
        (rest_tells work.layout work.zone.moved work.progress work (λ on. on)
        ((told work it.was).moved (last_behind work.phase it.last)))

    faults_tells : {seals : Seals} (it : Faults seals old new)
        → AllTell reading start (advanced it.work it.phase it.work.part)
    faults_tells it =
        let work = it.work in let tells = told work it.was in
        let behind : (IsFirst it.phase → ⊥) → IsFirst work.phase → ⊥ =
        λ so first. so (fault_first it.fails first) in record {
          from = further work it.phase work.part (subst (λ h. Tells reading start work h.means)
              (sym (fault_from work.zone it.fails)) tells.from);
          opened = λ so to_open. further work it.phase work.part
              (tells.opened (behind so) (fault_opens it.fails to_open));
          moved = λ so. further work it.phase work.part (tells.moved (behind so));
        }

    -- ---- a step of a zone: its first write names its headers
    named_opened : {seals : Seals} (it : StepsOn reading seals old new) → (IsFirst it.phase → ⊥)
        → IsToOpen it.work.phase → Tells reading start it.work it.opened.means
    named_opened it behind to_open = elim (first_or_not it.work.phase) [
      | inl first ↦ told_on it.work ((it.names.keeps first behind).opens to_open)
          (subst (λ h. Tells reading start it.work h.means)
          (first_from it.work.zone it.work.phase first) (told it.work it.was).from)
      | inr later ↦ subst (λ h. Tells reading start it.work h.means)
          (sym (it.names.stay later).0) ((told it.work it.was).opened later to_open)
    ]

    named_last : {seals : Seals} (it : StepsOn reading seals old new) → (IsFirst it.phase → ⊥)
        → IsFirst it.work.phase → Tells reading start it.work
        (last_from (named it.work it.opened it.moved).zone it.work.phase).means
    named_last it behind first = by it.work.phase refl first
      where
        before : Tells reading start it.work it.work.zone.before.means
        before = subst (λ h. Tells reading start it.work h.means)
            (first_from it.work.zone it.work.phase first) (told it.work it.was).from

        by : (phase : Phase) → it.work.phase ≡ phase → IsFirst phase
            → Tells reading start it.work
            (last_from (named it.work it.opened it.moved).zone phase).means
        by (saving n) is so = named_opened it behind (rw is tt)
        by (opening stage) is so = absurd so
        by (writing n) is so = absurd so
        by (mending n) is so = absurd so
        by (moving stage) is so = absurd so
        by (shifting n) is so = before
        by (turning stage) is so = absurd so

    named_moved : {seals : Seals} (it : StepsOn reading seals old new) → (IsFirst it.phase → ⊥)
        → Tells reading start it.work it.moved.means
    named_moved it behind = elim (first_or_not it.work.phase) [
      | inl first ↦ told_on it.work (it.names.keeps first behind).moves (named_last it behind first)
      | inr later ↦ subst (λ h. Tells reading start it.work h.means)
          (sym (it.names.stay later).1) ((told it.work it.was).moved later)
    ]

    steps_tell : {seals : Seals} (it : StepsOn reading seals old new)
        → AllTell reading start (advanced (named it.work it.opened it.moved) it.phase it.part)
    steps_tell it =
        let work = it.work in
        let next = named work it.opened it.moved in
        let after = advanced next it.phase it.part in
        let same : from_of next.zone it.phase ≡ from_of work.zone work.phase =
        step_from next.zone it.step ∙ named_from work it.opened it.moved it.names.stay in
        record {
          from = told_of work after refl refl refl refl (subst (λ h. Tells reading start work h.means)
              (sym same) (told work it.was).from);
          opened = λ behind to_open. told_of work after refl refl refl refl
              (named_opened it behind (step_opens it.step to_open));
          moved = λ behind. told_of work after refl refl refl refl (named_moved it behind);
        }

    -- ---- each step
    work_tells : {seals : Seals} {worked : Worked} → WorkStep reading seals old new worked
        → StateTells reading start new
    work_tells (takes grant it) = same_tells it.admitted.goes.work
    work_tells (queues lane it) = same_tells it.admitted.goes.work
    work_tells (stays lane it) = same_tells (ap (λ s. s.work) it.same)
    work_tells (begins it) = tells_of it.work it.goes.work (begins_tells it)
    work_tells (steps it) =
        tells_of (advanced (named it.work it.opened it.moved) it.phase it.part) it.goes.work
        (steps_tell it)
    work_tells (opens_zone it) =
        tells_of (advanced it.work (writing 0) it.work.part) it.goes.work (opens_tells it)
    work_tells (ends_zone it) = ends_tells it
    work_tells (leaves_blocks it) = same_tells it.frees.work
    work_tells (concludes it) = tells_of (closing it.layout it.header it.next first_written it.areas)
        it.goes.work (closing_tells it.may)
    work_tells (wipes it) = tells_of (resting it.layout it.header (wiping it.areas)) it.goes.work
        (rest_on (wiping it.areas) (λ on. cc) it.was)
    work_tells (wiped it) = tells_of (resting it.layout it.header complete) it.goes.work
        (rest_on complete (λ on. cc) it.was)
    work_tells (ends it) = same_tells (ap (λ s. s.work) it.same)
    work_tells (misses_part it) = given_tells it.work it.gives_up
    work_tells (is_hindered cause it) = given_tells it.work it.gives_up
    work_tells (is_unfinished cause it) = same_tells (ap (λ s. s.work) it.same)
    work_tells (faults it) = tells_of (advanced it.work it.phase it.work.part) it.frees.work
        (faults_tells it)
    work_tells (misses_conclusion it) =
        tells_of (closing it.layout it.header it.next first_written it.areas) it.frees.work
        (closing_tells it.may)
    work_tells (misses_wipe it) = same_tells it.frees.work
    work_tells (leaves_broken it) = same_tells it.frees.work

    deed_tells : (seals : Seals) (act : Act) → Does reading seals old act new
        → StateTells reading start new
    deed_tells seals (client event outcome) (meets, step) =
        same_tells (event_effects old new event outcome step).work
    deed_tells seals (worker worked) step = work_tells step

-- a run
deeds_tell : {K : Type 0} (reading : Reading) (seals : Seals) (start : List ℕ) (old : State K)
    (deeds : List (Deed K)) → StateTells reading start old → AreDeeds reading seals old deeds
    → StateTells reading start (state_after old deeds)
unfolding AreDeeds state_after
deeds_tell reading seals start old [] told are = told
deeds_tell reading seals start old (one ∷ rest) told (does, are) =
    deeds_tell reading seals start one.after rest
    (deed_tells old one.after told seals one.act does) are

-- the header that comes next, once something of it was written
next_tells : {reading : Reading} {start : List ℕ} (work : Work) → AllTell reading start work
    → (stage_of work.phase ≡ begun → ⊥) → Tells reading start work (to_of work.zone work.phase).means
next_tells {reading = reading} {start = start} work tells goes = by work.phase refl goes
  where
    by : (phase : Phase) → work.phase ≡ phase → (stage_of phase ≡ begun → ⊥)
        → Tells reading start work (to_of work.zone phase).means
    by (saving n) is so = absurd (so refl)
    by (opening stage) is so = tells.opened (λ first. subst IsFirst is first) (rw is tt)
    by (writing n) is so = absurd (so refl)
    by (mending n) is so = absurd (so refl)
    by (moving stage) is so = tells.moved (λ first. subst IsFirst is first)
    by (shifting n) is so = absurd (so refl)
    by (turning stage) is so = tells.moved (λ first. subst IsFirst is first)

pub tells_beside : {K : Type 0} (reading : Reading) (start : State K) (seals : Seals)
    → TellsBeside reading start seals
tells_beside reading start seals = λ layout header progress deeds at are work is one may.
    let rest = resting layout header progress in
    let begun_so : AllTell reading header.means rest = record {
      from = record {
        new = refl;
        old = λ on. refl;
        zone = λ some. absurd (omega (arith, some));
      };
      opened = λ behind. absurd (behind refl);
      moved = λ behind. absurd (behind refl);
    } in
    let tells = deeds_tell reading seals header.means start deeds (λ first at_first. let same : first ≡ rest = cc in
    subst (AllTell reading header.means) (sym same) begun_so) are work is in
    elim (either_header (stage_of work.phase) (from_of work.zone work.phase).means
    (to_of work.zone work.phase).means one may) [
      | inl same ↦ subst (Tells reading header.means work) (sym same) tells.from
      | inr (same, goes) ↦ subst (Tells reading header.means work) (sym same)
          (next_tells work tells goes)
    ]
