-- The texts that the copies' places are handed, along the worker's steps: each means the header that
-- the commit at hand leads from, an older one, or the next one.
use Rattle.std.proofs.Common.{List, Some, ap, inl, inr, refl, subst, sym, ℕ, ◌∙◌, ◌≡◌}
use Rattle.volume_machine.specs.Seals.{Seals}
use Rattle.volume_machine.specs.States.{State}
use Rattle.volume_machine.specs.Works.{Work}
use Rattle.crash_laws.proofs.HeaderAreas.TextsHanded.{dated_step}
use Rattle.crash_laws.specs.HeaderAreas.Commits.{begun, first_written}
use Rattle.crash_laws.specs.HeaderAreas.Commits.{IsDated, handed_by}
use Rattle.crash_laws.specs.HeaderAreas.Headers.{Handed, Header, Layout}
use Rattle.crash_laws.specs.HotZones.Calls.{IsFirst, IsLast}
use Rattle.crash_laws.specs.HotZones.Zones.{Phase, saving, opening, writing, mending, moving}
use Rattle.crash_laws.specs.HotZones.Zones.{shifting, turning}
use Rattle.volume_machine.specs.Courses.{Courses, Leads, Succeeds, last_from}
use Rattle.volume_machine.specs.Deeds.{worker}
use Rattle.volume_machine.specs.Readings.{Reading}
use Rattle.volume_machine.specs.WorkSteps.{EndsZone, Faults, GivesUp, IsGivable, MayConclude}
use Rattle.volume_machine.specs.WorkSteps.{OpensZone, StepsOn, WorkStep, Worked, begins, closing}
use Rattle.volume_machine.specs.WorkSteps.{concludes, ends, ends_zone, faults, is_hindered}
use Rattle.volume_machine.specs.WorkSteps.{is_unfinished, leaves_blocks, leaves_broken}
use Rattle.volume_machine.specs.WorkSteps.{misses_conclusion, misses_part, misses_wipe, opens_zone}
use Rattle.volume_machine.specs.WorkSteps.{queues, stays, steps, takes, wiped, wipes}
use Rattle.volume_machine.specs.Works.{Progress, advanced, named, resting}
use Rattle.volume_laws.specs.Handing.{handed_between, handed_in, handed_of}
use Rattle.volume_laws.specs.Imaging.{AreDated}
use Rattle.volume_laws.proofs.CallsDated.{DatedIn, any_dated, called_last, fault_dated, step_dated}
use Rattle.volume_laws.proofs.NamedServed.{first_or_not}
use Rattle.volume_laws.proofs.TurnsServed.{last_behind, leads_of}

-- ---- each step of the worker
module _ {K : Type 0} (reading : Reading) (old new : State K) (courses : Courses reading old)
    (handed : Handed) (dated : AreDated reading old handed) where
  -- the zone at hand then
  dated_of : (work : Work) → new.work ≡ Some work → {next : Handed}
      → DatedIn reading.reader work.zone work.phase next → AreDated reading new next
  dated_of work at {next} is one is_one = let same : one ≡ work = cc in
      subst (λ w. DatedIn reading.reader w.zone w.phase next) (sym same) is

  -- nothing was handed, and the zone at hand stays
  pub same_dated : new.work ≡ old.work → AreDated reading new handed
  same_dated work_is one is = dated one (sym work_is ∙ is)

  rest_dated : {layout : Layout} {header : Header (List ℕ)} {progress : Progress}
      (next : Work) → old.work ≡ Some (resting layout header progress) → IsFirst next.phase
      → next.zone.before ≡ header → DatedIn reading.reader next.zone next.phase handed
  rest_dated {layout} {header} {progress} next was first before =
      by next.phase first (dated _ was)
    where
      by : (phase : Phase) → IsFirst phase
          → IsDated reading.reader header header begun handed
          → DatedIn reading.reader next.zone phase handed
      by (saving n) is so = rw before (any_dated next.zone.opened so)
      by (opening stage) is so = absurd is
      by (writing n) is so = absurd is
      by (mending n) is so = absurd is
      by (moving stage) is so = absurd is
      by (shifting n) is so = rw before (any_dated next.zone.moved so)
      by (turning stage) is so = absurd is

  -- before a zone's first write its headers may be any
  named_dated : (work : Work) (opened moved : Header (List ℕ))
      → ((IsFirst work.phase → ⊥) → (opened ≡ work.zone.opened) × (moved ≡ work.zone.moved))
      → DatedIn reading.reader work.zone work.phase handed
      → DatedIn reading.reader (named work opened moved).zone work.phase handed
  named_dated work opened moved stay so = elim (first_or_not work.phase) [
    | inl first ↦ by work.phase first so
    | inr behind ↦ let (same_opened, same_moved) = stay behind in
        rw (same_opened, same_moved) so
  ]
    where
      by : (phase : Phase) → IsFirst phase → DatedIn reading.reader work.zone phase handed
          → DatedIn reading.reader (named work opened moved).zone phase handed
      by (saving n) is so = any_dated opened so
      by (opening stage) is so = absurd is
      by (writing n) is so = absurd is
      by (mending n) is so = absurd is
      by (moving stage) is so = absurd is
      by (shifting n) is so = any_dated moved so
      by (turning stage) is so = absurd is

  steps_dated : {seals : Seals} (it : StepsOn reading seals old new)
      → AreDated reading new (handed_in it.work.phase it.phase (named it.work it.opened it.moved).zone
      (named it.work it.opened it.moved).zone handed)
  steps_dated it =
      let work = it.work in
      let course = courses work it.was in
      let next = named work it.opened it.moved in
      let leads : (IsFirst work.phase → ⊥) → Leads reading old next = λ behind.
      let (same_opened, same_moved) = it.names.stay behind in
      let same : next ≡ work = rw (same_opened, same_moved) refl in
      subst (Leads reading old) (sym same) (leads_of work course behind) in
      dated_of (advanced next it.phase it.part) it.goes.work (step_dated reading.reader it.step
      (λ behind to_open. ((leads behind).opens to_open).0) (λ behind. (leads behind).moves.0)
      (named_dated work it.opened it.moved it.names.stay (dated work it.was)))

  opens_dated : (it : OpensZone reading old new) → AreDated reading new handed
  opens_dated it =
      let work = it.work in
      let leads = leads_of work (courses work it.was) (λ first. subst IsFirst it.phase first) in
      let succeeds = (leads.opens (rw it.phase tt)).0 in
      dated_of (advanced work (writing 0) work.part) it.goes.work
      (called_last reading.reader work.zone.before work.zone.opened succeeds.is succeeds.follows
      work.zone.moved (subst (λ p. DatedIn reading.reader work.zone p handed) it.phase
      (dated work it.was)))

  ends_dated : (it : EndsZone reading old new) → AreDated reading new handed
  ends_dated it =
      let work = it.work in
      let leads = leads_of work (courses work it.was) (last_behind work.phase it.last) in
      dated_of (resting work.layout work.zone.moved work.progress) it.goes.work
      (by work.phase it.last leads.moves.0 (dated work it.was))
    where
      by : (phase : Phase) → IsLast phase
          → Succeeds reading.reader (last_from it.work.zone phase) it.work.zone.moved
          → DatedIn reading.reader it.work.zone phase handed
          → IsDated reading.reader it.work.zone.moved it.work.zone.moved begun handed
      by (saving n) is succeeds so = absurd is
      by (opening stage) is succeeds so = absurd is
      by (writing n) is succeeds so = absurd is
      by (mending n) is succeeds so = absurd is
      by (moving stage) is succeeds so = called_last reading.reader it.work.zone.opened
          it.work.zone.moved succeeds.is succeeds.follows it.work.zone.moved
          (subst (λ s. IsDated reading.reader it.work.zone.opened it.work.zone.moved s handed) is so)
      by (shifting n) is succeeds so = absurd is
      by (turning stage) is succeeds so = called_last reading.reader it.work.zone.before
          it.work.zone.moved succeeds.is succeeds.follows it.work.zone.moved
          (subst (λ s. IsDated reading.reader it.work.zone.before it.work.zone.moved s handed) is so)

  -- the first write of the finish
  closing_dated : {layout : Layout} {header next : Header (List ℕ)} {areas : List _}
      → MayConclude reading old layout header next areas
      → IsDated reading.reader header next first_written (handed_by begun next handed)
  closing_dated {header = header} {next = next} may = dated_step reading.reader header next next begun
      handed may.succeeds.is may.succeeds.follows (any_dated next (dated _ may.was))

  given_dated : (work : Work) → GivesUp old new work → AreDated reading new handed
  given_dated work it = dated_of (resting work.layout work.zone.before work.progress) it.frees.work
      (by work.phase it.phase (dated work it.was))
    where
      by : (phase : Phase) → IsGivable phase → DatedIn reading.reader work.zone phase handed
          → IsDated reading.reader work.zone.before work.zone.before begun handed
      by (saving n) is so = any_dated work.zone.before so
      by (opening stage) is so = absurd is
      by (writing n) is so = absurd is
      by (mending n) is so = absurd is
      by (moving stage) is so = absurd is
      by (shifting n) is so = any_dated work.zone.before so
      by (turning stage) is so = absurd is

  faults_dated : {seals : Seals} (it : Faults seals old new)
      → AreDated reading new (handed_in it.work.phase it.phase it.work.zone it.work.zone handed)
  faults_dated it =
      let work = it.work in
      let course = courses work it.was in
      dated_of (advanced work it.phase work.part) it.frees.work (fault_dated reading.reader it.fails
      (λ behind to_open. ((leads_of work course behind).opens to_open).0)
      (λ behind. (leads_of work course behind).moves.0) (dated work it.was))

  -- what is handed between two states with zones at hand
  between : (work next : Work) → old.work ≡ Some work → new.work ≡ Some next
      → handed_between old.work new.work handed
      ≡ handed_in work.phase next.phase work.zone next.zone handed
  between work next is was = rw (is, was) refl

  dated_between : (work next : Work) → old.work ≡ Some work → new.work ≡ Some next
      → AreDated reading new (handed_in work.phase next.phase work.zone next.zone handed)
      → AreDated reading new (handed_between old.work new.work handed)
  dated_between work next is was so = subst (AreDated reading new) (sym (between work next is was)) so

  -- a zone that begins hands nothing
  rest_hands : (layout : Layout) (header : Header (List ℕ)) (progress : Progress) (work : Work)
      → IsFirst work.phase
      → handed_in (saving 0) work.phase (resting layout header progress).zone work.zone handed
      ≡ handed
  rest_hands layout header progress work = by work.phase
    where
      by : (phase : Phase) → IsFirst phase
          → handed_in (saving 0) phase (resting layout header progress).zone work.zone handed ≡ handed
      by (saving n) is = refl
      by (opening stage) is = absurd is
      by (writing n) is = absurd is
      by (mending n) is = absurd is
      by (moving stage) is = absurd is
      by (shifting n) is = refl
      by (turning stage) is = absurd is

  -- headers that are named are those that were handed
  handed_named : (work : Work) (opened moved : Header (List ℕ)) (next : Phase)
      → ((IsFirst work.phase → ⊥) → (opened ≡ work.zone.opened) × (moved ≡ work.zone.moved))
      → handed_in work.phase next work.zone (named work opened moved).zone handed
      ≡ handed_in work.phase next (named work opened moved).zone (named work opened moved).zone handed
  handed_named work opened moved next stay = elim (first_or_not work.phase) [
    | inl first ↦ by work.phase next first
    | inr behind ↦ let (same_opened, same_moved) = stay behind in
        rw (same_opened, same_moved) refl
  ]
    where
      by : (phase after : Phase) → IsFirst phase
          → handed_in phase after work.zone (named work opened moved).zone handed
          ≡ handed_in phase after (named work opened moved).zone (named work opened moved).zone handed
      by (saving n) (saving m) is = refl
      by (saving n) (opening stage) is = refl
      by (saving n) (writing m) is = refl
      by (saving n) (mending m) is = refl
      by (saving n) (moving stage) is = refl
      by (saving n) (shifting m) is = refl
      by (saving n) (turning stage) is = refl
      by (opening stage) after is = absurd is
      by (writing n) after is = absurd is
      by (mending n) after is = absurd is
      by (moving stage) after is = absurd is
      by (shifting n) after is = refl
      by (turning stage) after is = absurd is

  -- a zone that is given up hands nothing
  given_hands : (work : Work) → IsGivable work.phase
      → handed_in work.phase (saving 0) work.zone
      (resting work.layout work.zone.before work.progress).zone handed ≡ handed
  given_hands work = by work.phase
    where
      by : (phase : Phase) → IsGivable phase → handed_in phase (saving 0) work.zone
          (resting work.layout work.zone.before work.progress).zone handed ≡ handed
      by (saving n) is = refl
      by (opening stage) is = absurd is
      by (writing n) is = absurd is
      by (mending n) is = absurd is
      by (moving stage) is = absurd is
      by (shifting n) is = refl
      by (turning stage) is = absurd is

  -- the last call of a zone hands nothing
  last_hands : (work : Work) → IsLast work.phase
      → handed_in work.phase (saving 0) work.zone
      (resting work.layout work.zone.moved work.progress).zone handed ≡ handed
  last_hands work = by work.phase
    where
      by : (phase : Phase) → IsLast phase → handed_in phase (saving 0) work.zone
          (resting work.layout work.zone.moved work.progress).zone handed ≡ handed
      by (saving n) is = absurd is
      by (opening stage) is = absurd is
      by (writing n) is = absurd is
      by (mending n) is = absurd is
      by (moving stage) is = rw is refl
      by (shifting n) is = absurd is
      by (turning stage) is = rw is refl

  -- ---- each step of the worker
  pub work_dated : {seals : Seals} {worked : Worked} → WorkStep reading seals old new worked
      → AreDated reading new (handed_of old (worker worked) new handed)
  work_dated (takes grant it) = dated_between _ _ it.was (it.admitted.goes.work ∙ it.was)
      (same_dated it.admitted.goes.work)
  work_dated (queues lane it) = same_dated it.admitted.goes.work
  work_dated (stays lane it) = same_dated (ap (λ s. s.work) it.same)
  work_dated (begins it) = dated_between _ it.work it.was it.goes.work
      (rw (rest_hands _ _ _ it.work it.planned.first) (dated_of it.work it.goes.work
      (rest_dated it.work it.was it.planned.first it.planned.before)))
  work_dated (steps it) =
      let next = advanced (named it.work it.opened it.moved) it.phase it.part in
      dated_between it.work next it.was it.goes.work
      (rw (handed_named it.work it.opened it.moved it.phase it.names.stay) (steps_dated it))
  work_dated (opens_zone it) =
      dated_between it.work (advanced it.work (writing 0) it.work.part) it.was it.goes.work
      (rw it.phase (opens_dated it))
  work_dated (ends_zone it) =
      dated_between it.work (resting it.work.layout it.work.zone.moved it.work.progress) it.was
      it.goes.work (rw (last_hands it.work it.last) (ends_dated it))
  work_dated (leaves_blocks it) = dated_between _ _ it.was (it.frees.work ∙ it.was)
      (same_dated it.frees.work)
  work_dated (concludes it) = dated_between _ _ it.may.was it.goes.work
      (dated_of (closing it.layout it.header it.next first_written it.areas) it.goes.work
      (closing_dated it.may))
  work_dated (wipes it) = dated_between _ _ it.was it.goes.work
      (dated_of _ it.goes.work (dated _ it.was))
  work_dated (wiped it) = dated_between _ _ it.was it.goes.work
      (dated_of _ it.goes.work (dated _ it.was))
  work_dated (ends it) = same_dated (ap (λ s. s.work) it.same)
  work_dated (misses_part it) = dated_between it.work _ it.gives_up.was it.gives_up.frees.work
      (rw (given_hands it.work it.gives_up.phase) (given_dated it.work it.gives_up))
  work_dated (is_hindered cause it) = given_dated it.work it.gives_up
  work_dated (is_unfinished cause it) = same_dated (ap (λ s. s.work) it.same)
  work_dated (faults it) =
      dated_between it.work (advanced it.work it.phase it.work.part) it.was it.frees.work
      (faults_dated it)
  work_dated (misses_conclusion it) = dated_between _ _ it.may.was it.frees.work
      (dated_of (closing it.layout it.header it.next first_written it.areas) it.frees.work
      (closing_dated it.may))
  work_dated (misses_wipe it) = dated_between _ _ it.was (it.frees.work ∙ it.was)
      (same_dated it.frees.work)
  work_dated (leaves_broken it) = same_dated it.frees.work
