-- What holds of a volume with a header between two deeds is kept by each step of the worker, and by
-- each event of a client.
use Rattle.std.proofs.Common.{Bool, List, Option, Some, [], ap, arith, false, inl, inr, refl, subst}
use Rattle.std.proofs.Common.{suc, sym, ℕ, ◌∙◌, ◌∷◌, ◌≡◌, ◌≤◌}
use Rattle.segment_map.specs.declared.Side.TheVariants.{Zone}
use Rattle.volume_machine.specs.Events.{Event, Outcome}
use Rattle.volume_machine.specs.Pieces.{side_in}
use Rattle.volume_machine.specs.Seals.{Seals}
use Rattle.volume_machine.specs.Sound.{IsSound, AreApart}
use Rattle.volume_machine.specs.States.{IsGoverned, State, open_at}
use Rattle.volume_machine.specs.Steps.{Step, Meets}
use Rattle.volume_machine.specs.Working.{Works}
use Rattle.volume_machine.specs.Works.{Work}
use Rattle.volume_machine.proofs.EventEffects.{event_effects}
use Rattle.volume_machine.proofs.Soundness.{sound_admitted, sound_freed, sound_kept}
use Rattle.crash_laws.specs.HeaderAreas.Commits.{first_written}
use Rattle.crash_laws.specs.HeaderAreas.Headers.{Header, Layout}
use Rattle.volume_machine.specs.Courses.{Courses}
use Rattle.volume_machine.specs.Deeds.{Act, AreDeeds, Deed, Does, client, state_after, worker}
use Rattle.volume_machine.specs.Readings.{Reading}
use Rattle.volume_machine.specs.WorkSteps.{EndsZone, Faults, Frees, GivesUp, LeavesBlocks}
use Rattle.volume_machine.specs.WorkSteps.{LeavesBroken, MissesConclusion, MissesWipe, OpensZone}
use Rattle.volume_machine.specs.WorkSteps.{Proceeds, StepsOn, WorkStep, Worked, begins, closing}
use Rattle.volume_machine.specs.WorkSteps.{concludes, ends, ends_zone, faults, is_hindered}
use Rattle.volume_machine.specs.WorkSteps.{is_unfinished, leaves_blocks, leaves_broken}
use Rattle.volume_machine.specs.WorkSteps.{misses_conclusion, misses_part, misses_wipe, opens_zone}
use Rattle.volume_machine.specs.WorkSteps.{queues, stays, steps, takes, wiped, wipes}
use Rattle.volume_machine.specs.Working.{IsWorkers}
use Rattle.volume_machine.specs.Works.{Progress, advanced, converting, named, resting}
use Rattle.volume_machine.specs.declared.open.Open.{Open}
use Rattle.volume_laws.specs.Converting.{IsInOrder}
use Rattle.volume_laws.proofs.BeginsServed.{none_governed, works_begun}
use Rattle.volume_laws.proofs.CourseSteps.{work_course}
use Rattle.volume_laws.proofs.CoursesKept.{course_same}
use Rattle.volume_laws.proofs.FaultsServed.{fails_phased, fails_side}
use Rattle.volume_laws.proofs.FinishServed.{works_rest, works_taken}
use Rattle.volume_laws.proofs.FreesServed.{still_under_way, then_ends, works_freed}
use Rattle.volume_laws.proofs.GivesUpServed.{given_goes, given_side, works_given_up}
use Rattle.volume_laws.proofs.HoldersKept.{atoms_kept, ends_turned, fails_atoms, opens_turned}
use Rattle.volume_laws.proofs.HoldersKept.{step_atoms}
use Rattle.volume_laws.proofs.NamedServed.{with_work, working_named}
use Rattle.volume_laws.proofs.Reading.{writes_lock}
use Rattle.volume_laws.proofs.RunsServed.{works_after}
use Rattle.volume_laws.proofs.StepsServed.{step_phased, step_side}
use Rattle.volume_laws.proofs.TurnedMaps.{sound_turned}
use Rattle.volume_laws.proofs.TurnsServed.{governs_on, works_opened, zoned_by}
use Rattle.volume_laws.proofs.WorkAround.{IsIn, governed_on, sound_worked, works_advanced}
use Rattle.volume_laws.proofs.ZoneEnded.{works_ended}

-- ---- where the last lane's operation ends with the step
module _ {K : Type 0} {old new : State K} {is_broken : Bool} {after : Option Work}
    (frees : Frees old new is_broken after) where
  still_goes : (next : Work) → new.work ≡ Some next
      → Proceeds old (still_under_way old new) old.map next is_broken
  still_goes next at = record {
    map_is = frees.map;
    keys = frees.keys;
    room = frees.room;
    entries = refl;
    lanes = refl;
    broken_is = frees.broken_is;
    work = at;
  }

  freed_sound : ((o : Open) → open_at old.lanes frees.lane ≡ Some o → IsWorkers o)
      → IsSound (still_under_way old new) → IsSound new
  freed_sound workers sound = sound_freed sound (then_ends frees) refl
      (λ o at. writes_lock o.ask (workers o at).writes)

  freed_works : ((work : Work) → new.work ≡ Some work → new.broken ≡ false
      → work.range.end ≤ work.range.start) → Works (still_under_way old new) → Works new
  freed_works bare works = works_freed (then_ends frees) refl frees.last bare works

  -- and nothing else changed
  still_same : is_broken ≡ old.broken → after ≡ old.work → new.disk ≡ old.disk
      → still_under_way old new ≡ old
  still_same broken work rests =
      rw (frees.map, frees.keys, frees.room, frees.broken_is ∙ broken, frees.work ∙ work, rests) refl

-- the zone's blocks where none is at hand
at_rest : {K : Type 0} {old : State K} {layout : Layout} {header : Header (List ℕ)}
    {progress : Progress} → IsSound old → old.work ≡ Some (resting layout header progress) → (b : ℕ)
    → side_in old.map b ≡ Zone → ⊥
at_rest {old = old} sound was b zoned = none_governed old b was (sound.zoned b zoned)

module _ {K : Type 0} {reading : Reading} {old new : State K} (courses : Courses reading old)
    (sound : IsSound old) (works : Works old) where
  -- ---- steps of a zone
  steps_sound : {seals : Seals} (it : StepsOn reading seals old new) → IsSound new
  steps_sound it = sound_worked it.goes (step_atoms it.step)
      (λ b zoned. subst (λ w. IsIn w b) (sym it.goes.work)
      (subst (λ w. IsIn w b) it.was (sound.zoned b zoned))) sound

  named_works : {seals : Seals} (it : StepsOn reading seals old new)
      → Works (with_work old (named it.work it.opened it.moved))
  named_works it one is_one =
      let next = named it.work it.opened it.moved in
      let same : one ≡ next = cc in
      rw same (working_named it.opened it.moved it.work it.was (works it.work it.was))

  steps_works : {seals : Seals} (it : StepsOn reading seals old new) → Works new
  steps_works it =
      let next = named it.work it.opened it.moved in
      let on = it.goes in
      works_advanced {old = with_work old next} next refl (record {
        map_is = on.map_is;
        keys = on.keys;
        room = on.room;
        entries = on.entries;
        lanes = on.lanes;
        broken_is = on.broken_is;
        work = on.work;
      }) (step_atoms it.step) it.unbroken
      (step_phased it.work.zone.resilience it.step (works it.work it.was).phased)
      (step_side it.step) (named_works it)

  opens_sound : (it : OpensZone reading old new) → IsSound new
  opens_sound it =
      let turns = opens_turned courses it in
      sound_turned it.goes turns it.unbroken it.call.atoms
      (zoned_by (λ b. IsGoverned new b) turns
      (λ b is beyond. governs_on it turns b (sound.zoned b is))
      (λ b from to is. subst (λ w. IsIn w b) (sym it.goes.work) (from, to))) sound

  ends_sound : (it : EndsZone reading old new) → IsSound new
  ends_sound it =
      let turns = ends_turned courses it in
      sound_turned it.goes turns it.unbroken it.call.atoms
      (zoned_by (λ b. IsGoverned new b) turns
      (λ b is beyond. absurd (let (from, to) = subst (λ w. IsIn w b) it.was (sound.zoned b is) in
      elim beyond [ inl before ↦ omega (arith, before, from) | inr behind ↦ omega (arith, behind, to) ]))
      (λ b from to is. absurd (cc))) sound

  -- ---- steps that end the last lane's operation
  given_sound : (work : Work) → new.disk.atoms ≡ old.disk.atoms → GivesUp old new work → IsSound new
  given_sound work atoms up = freed_sound up.frees
      (λ o at. (works work up.was).worker up.frees.lane o up.frees.last at)
      (sound_worked (given_goes work up) atoms
      (λ b zoned. absurd (let (from, to) = subst (λ w. IsIn w b) up.was (sound.zoned b zoned) in
      let old_side = (works work up.was).sides b from to ∙ given_side work.phase up.phase in cc))
      sound)

  given_works : (work : Work) → new.disk.atoms ≡ old.disk.atoms → GivesUp old new work → Works new
  given_works work atoms up = freed_works up.frees
      (λ next is whole.
      let same : next ≡ resting work.layout work.zone.before work.progress =
      (let at = up.frees.work in cc) in rw same (omega arith)) (works_given_up work up atoms works)

  faults_sound : {seals : Seals} (it : Faults seals old new) → IsSound new
  faults_sound it =
      let on = still_goes it.frees (advanced it.work it.phase it.work.part) it.frees.work in
      freed_sound it.frees (λ o at. (works it.work it.was).worker it.frees.lane o it.frees.last at)
      (sound_worked on (fails_atoms it.fails)
      (λ b zoned. governed_on it.work it.was on b (sound.zoned b zoned)) sound)

  faults_works : {seals : Seals} (it : Faults seals old new) → Works new
  faults_works it =
      let on = still_goes it.frees (advanced it.work it.phase it.work.part) it.frees.work in
      freed_works it.frees (λ next is whole. absurd (let broke = it.frees.broken_is in cc))
      (works_advanced it.work it.was on (fails_atoms it.fails) it.unbroken
      (fails_phased it.work.zone.resilience it.fails (works it.work it.was).phased)
      (fails_side it.fails) works)

  conclusion_sound : (it : MissesConclusion reading old new) → IsSound new
  conclusion_sound it =
      let next = closing it.layout it.header it.next first_written it.areas in
      let on = still_goes it.frees next it.frees.work in
      freed_sound it.frees
      (λ o at. (works _ it.may.was).worker it.frees.lane o it.frees.last at)
      (sound_worked on it.call.call.atoms (λ b zoned. absurd (at_rest sound it.may.was b zoned)) sound)

  conclusion_works : (it : MissesConclusion reading old new) → Works new
  conclusion_works it =
      let next = closing it.layout it.header it.next first_written it.areas in
      freed_works it.frees (λ next is whole. absurd (let broke = it.frees.broken_is in cc))
      (works_rest it.may.was (still_goes it.frees next it.frees.work) it.next refl refl refl tt
      it.call.call.atoms it.may.spare works)

  wipe_sound : (it : MissesWipe old new) → IsSound new
  wipe_sound it =
      let on = still_goes it.frees _ (it.frees.work ∙ it.was) in
      freed_sound it.frees (λ o at. (works _ it.was).worker it.frees.lane o it.frees.last at)
      (sound_worked on it.call.call.atoms (λ b zoned. absurd (at_rest sound it.was b zoned)) sound)

  wipe_works : (it : MissesWipe old new) → Works new
  wipe_works it =
      freed_works it.frees (λ next is whole. absurd (let broke = it.frees.broken_is in cc))
      (works_rest it.was (still_goes it.frees _ (it.frees.work ∙ it.was)) it.header refl refl refl tt
      it.call.call.atoms (works _ it.was).spare works)

  leaves_sound : (it : LeavesBlocks old new) → IsSound new
  leaves_sound it =
      freed_sound it.frees (λ o at. (works _ it.was).worker it.frees.lane o it.frees.last at)
      (subst IsSound (sym (still_same it.frees (sym it.unbroken) refl it.rests)) sound)

  leaves_works : (it : LeavesBlocks old new) → Works new
  leaves_works it = freed_works it.frees
      (λ work is whole. let same : work ≡ resting it.layout it.header converting =
      (let rest = it.frees.work ∙ it.was in cc) in rw same (omega arith))
      (subst Works (sym (still_same it.frees (sym it.unbroken) refl it.rests)) works)

  broken_sound : (it : LeavesBroken old new) → IsSound new
  broken_sound it =
      freed_sound it.frees (λ o at. (works it.work it.was).worker it.frees.lane o it.frees.last at)
      (subst IsSound (sym (still_same it.frees (sym it.broken) refl it.rests)) sound)

  broken_works : (it : LeavesBroken old new) → Works new
  broken_works it =
      freed_works it.frees (λ next is whole. absurd (let broke = it.frees.broken_is in cc))
      (subst Works (sym (still_same it.frees (sym it.broken) refl it.rests)) works)

  -- ---- each step
  work_sound : {seals : Seals} {worked : Worked} → WorkStep reading seals old new worked → IsSound new
  work_sound (takes grant it) =
      sound_admitted new it.lane sound it.session it.ask _ it.free it.proper it.admitted
  work_sound (queues lane it) =
      sound_admitted new it.lane sound it.session it.ask _ it.free it.proper it.admitted
  work_sound (stays lane it) = subst IsSound (sym it.same) sound
  work_sound (begins it) =
      sound_worked it.goes it.call.atoms (λ b zoned. absurd (at_rest sound it.was b zoned)) sound
  work_sound (steps it) = steps_sound it
  work_sound (opens_zone it) = opens_sound it
  work_sound (ends_zone it) = ends_sound it
  work_sound (leaves_blocks it) = leaves_sound it
  work_sound (concludes it) = sound_worked it.goes it.call.call.atoms
      (λ b zoned. absurd (at_rest sound it.may.was b zoned)) sound
  work_sound (wipes it) =
      sound_worked it.goes it.call.call.atoms (λ b zoned. absurd (at_rest sound it.was b zoned)) sound
  work_sound (wiped it) =
      sound_worked it.goes it.call.atoms (λ b zoned. absurd (at_rest sound it.was b zoned)) sound
  work_sound (ends it) = subst IsSound (sym it.same) sound
  work_sound (misses_part it) = given_sound it.work it.call.atoms it.gives_up
  work_sound (is_hindered cause it) = given_sound it.work (ap (λ d. d.atoms) it.rests) it.gives_up
  work_sound (is_unfinished cause it) = subst IsSound (sym it.same) sound
  work_sound (faults it) = faults_sound it
  work_sound (misses_conclusion it) = conclusion_sound it
  work_sound (misses_wipe it) = wipe_sound it
  work_sound (leaves_broken it) = broken_sound it

  work_works : {seals : Seals} {worked : Worked} → WorkStep reading seals old new worked → Works new
  work_works (takes grant it) = works_taken it works
  work_works (queues lane it) = works_taken it works
  work_works (stays lane it) = subst Works (sym it.same) works
  work_works (begins it) = works_begun it it.call.atoms works
  work_works (steps it) = steps_works it
  work_works (opens_zone it) = works_opened it (opens_turned courses it) it.call.atoms works
  work_works (ends_zone it) = works_ended it (ends_turned courses it) it.call.atoms works
  work_works (leaves_blocks it) = leaves_works it
  work_works (concludes it) = works_rest it.may.was it.goes it.next refl refl refl tt
      it.call.call.atoms it.may.spare works
  work_works (wipes it) = works_rest it.was it.goes it.header refl refl refl tt it.call.call.atoms
      (λ area (k, below, is). (works _ it.was).spare area (suc k, omega (arith, below), is)) works
  work_works (wiped it) = works_rest it.was it.goes it.header refl refl refl tt it.call.atoms
      (λ area (k, below, is). absurd (omega (arith, below))) works
  work_works (ends it) = subst Works (sym it.same) works
  work_works (misses_part it) = given_works it.work it.call.atoms it.gives_up
  work_works (is_hindered cause it) = given_works it.work (ap (λ d. d.atoms) it.rests) it.gives_up
  work_works (is_unfinished cause it) = subst Works (sym it.same) works
  work_works (faults it) = faults_works it
  work_works (misses_conclusion it) = conclusion_works it
  work_works (misses_wipe it) = wipe_works it
  work_works (leaves_broken it) = broken_works it

  -- each block has a place of its own
  work_apart : {seals : Seals} {worked : Worked} → AreApart old.map → WorkStep reading seals old new worked
      → AreApart new.map
  work_apart apart (takes grant it) = subst AreApart (sym it.admitted.goes.map) apart
  work_apart apart (queues lane it) = subst AreApart (sym it.admitted.goes.map) apart
  work_apart apart (stays lane it) = subst (λ s. AreApart s.map) (sym it.same) apart
  work_apart apart (begins it) = subst AreApart (sym it.goes.map_is) apart
  work_apart apart (steps it) = subst AreApart (sym it.goes.map_is) apart
  work_apart apart (opens_zone it) =
      subst AreApart (sym it.goes.map_is) (opens_turned courses it).apart
  work_apart apart (ends_zone it) =
      subst AreApart (sym it.goes.map_is) (ends_turned courses it).apart
  work_apart apart (leaves_blocks it) = subst AreApart (sym it.frees.map) apart
  work_apart apart (concludes it) = subst AreApart (sym it.goes.map_is) apart
  work_apart apart (wipes it) = subst AreApart (sym it.goes.map_is) apart
  work_apart apart (wiped it) = subst AreApart (sym it.goes.map_is) apart
  work_apart apart (ends it) = subst (λ s. AreApart s.map) (sym it.same) apart
  work_apart apart (misses_part it) = subst AreApart (sym it.gives_up.frees.map) apart
  work_apart apart (is_hindered cause it) = subst AreApart (sym it.gives_up.frees.map) apart
  work_apart apart (is_unfinished cause it) = subst (λ s. AreApart s.map) (sym it.same) apart
  work_apart apart (faults it) = subst AreApart (sym it.frees.map) apart
  work_apart apart (misses_conclusion it) = subst AreApart (sym it.frees.map) apart
  work_apart apart (misses_wipe it) = subst AreApart (sym it.frees.map) apart
  work_apart apart (leaves_broken it) = subst AreApart (sym it.frees.map) apart

-- ---- the laws
pub step_in_order : {K : Type 0} (reading : Reading) (seals : Seals) (old new : State K)
    (worked : Worked) → IsInOrder reading old → WorkStep reading seals old new worked
    → IsInOrder reading new
step_in_order reading seals old new worked is step = record {
  sound = work_sound is.courses is.sound is.works step;
  works = work_works is.courses is.sound is.works step;
  courses = work_course is.courses (atoms_kept step) step;
  apart = work_apart is.courses is.sound is.works is.apart step;
}

pub event_in_order : {K : Type 0} (reading : Reading) (old new : State K) (event : Event)
    (outcome : Outcome) → IsInOrder reading old → Meets old event → Step old event outcome new
    → IsInOrder reading new
event_in_order reading old new event outcome is meets step =
    let goes = event_effects old new event outcome step in record {
      sound = sound_kept old new event outcome is.sound meets step;
      works = works_after old new event outcome meets step is.works;
      courses = course_same goes.map goes.disk.atoms goes.work is.courses;
      apart = subst AreApart (sym goes.map) is.apart;
    }

does_in_order : {K : Type 0} (reading : Reading) (seals : Seals) (old new : State K) (act : Act)
    → IsInOrder reading old → Does reading seals old act new → IsInOrder reading new
does_in_order reading seals old new (client event outcome) is (meets, step) =
    event_in_order reading old new event outcome is meets step
does_in_order reading seals old new (worker worked) is step =
    step_in_order reading seals old new worked is step

pub deeds_in_order : {K : Type 0} (reading : Reading) (seals : Seals) (start : State K)
    (deeds : List (Deed K)) → IsInOrder reading start → AreDeeds reading seals start deeds
    → IsInOrder reading (state_after start deeds)
unfolding AreDeeds state_after
deeds_in_order reading seals start [] is are = is
deeds_in_order reading seals start (one ∷ rest) is (does, are) =
    deeds_in_order reading seals one.after rest
    (does_in_order reading seals start one.after one.act is does) are
