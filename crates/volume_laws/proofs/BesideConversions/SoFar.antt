-- Where a conversion beside clients stands.
use Rattle.std.proofs.Common.{List, Option, Some, [], ap, arith, false, inl, inr, refl, subst, sym}
use Rattle.std.proofs.Common.{ℕ, ◌<◌, ◌∙◌, ◌∷◌, ◌≡◌, ◌⊎◌}
use Rattle.segment_map.specs.declared.Side.TheVariants.{New}
use Rattle.volume_machine.specs.Pieces.{side_in}
use Rattle.volume_machine.specs.Seals.{Seals}
use Rattle.volume_machine.specs.States.{State}
use Rattle.volume_machine.specs.Works.{Work}
use Rattle.crash_laws.specs.HeaderAreas.Areas.{Area}
use Rattle.crash_laws.specs.HeaderAreas.Commits.{Stage, failed_stage, first_written, next_stage, second_written}
use Rattle.crash_laws.specs.HeaderAreas.Headers.{Header, Layout}
use Rattle.crash_laws.specs.HotZones.Calls.{IsFirst, IsLast}
use Rattle.crash_laws.specs.HotZones.Zones.{Phase, moving, opening, saving, writing}
use Rattle.sector_disk.specs.Devices.{Device}
use Rattle.volume_laws.specs.Converting.{IsInOrder}
use Rattle.volume_laws.proofs.HoldersKept.{ends_turned}
use Rattle.volume_machine.specs.Courses.{IsAtRest}
use Rattle.volume_machine.specs.Readings.{Reading}
use Rattle.volume_machine.specs.WorkCalls as calls
use Rattle.volume_machine.specs.WorkSteps.{AreAllOn, Begins, Concludes, EndsZone, Faults, Frees}
use Rattle.volume_machine.specs.WorkSteps.{GivesUp, IsWiped, MissesConclusion, OpensZone, StepsOn}
use Rattle.volume_machine.specs.WorkSteps.{WorkStep, Worked, Wipes, begins, closing, concludes, ends}
use Rattle.volume_machine.specs.WorkSteps.{ends_zone, faults, is_hindered, is_unfinished}
use Rattle.volume_machine.specs.WorkSteps.{leaves_blocks, leaves_broken, misses_conclusion}
use Rattle.volume_machine.specs.WorkSteps.{misses_part, misses_wipe, opens_zone, queues, stays, steps}
use Rattle.volume_machine.specs.WorkSteps.{takes, wiped, wipes}
use Rattle.volume_machine.specs.Works.{Part, advanced, complete, converting, named, resting, wanted}
use Rattle.volume_machine.specs.Works.{wiping}

-- every block is new, and by this header nothing is converted
pub record AllNew {K : Type 0} (reading : Reading) (state : State K) (last : Header (List ℕ))
    : Type 0 where
  pub converted : AreAllOn state.map New
  pub rests : reading.converts last.means ≡ false

-- blocks are left to convert; the last header is to be committed; areas are to be wiped; all is done
pub data SoFar {K : Type 0} (reading : Reading) (layout : Layout) (state : State K) : Type 0 where
  converts : (work : Work) → state.work ≡ Some work → work.progress ≡ converting
      → work.layout ≡ layout → SoFar reading layout state
  closes : (before last : Header (List ℕ)) (stage : Stage) (areas : List Area)
      → state.work ≡ Some (closing layout before last stage areas) → AllNew reading state last
      → SoFar reading layout state
  wipes_on : (last : Header (List ℕ)) (left : List Area)
      → state.work ≡ Some (resting layout last (wiping left)) → AllNew reading state last
      → SoFar reading layout state
  is_over : (last : Header (List ℕ)) → state.work ≡ Some (resting layout last complete)
      → AllNew reading state last → SoFar reading layout state

-- ---- what is not the same
wiping_converts : {areas : List Area} → wiping areas ≡ converting → ⊥
wiping_converts e = cc

complete_converts : complete ≡ converting → ⊥
complete_converts e = cc

complete_wipes : {areas : List Area} → complete ≡ wiping areas → ⊥
complete_wipes e = cc

same_some : {a b : Work} → Some a ≡ Some b → a ≡ b
same_some e = cc

-- the same work, by two equations
one_work : {work : Option Work} {a b : Work} → work ≡ Some a → work ≡ Some b → a ≡ b
one_work is other = same_some (sym is ∙ other)

still_new : {K : Type 0} {reading : Reading} {old new : State K} {last : Header (List ℕ)}
    → new.map ≡ old.map → AllNew reading old last → AllNew reading new last
still_new map all = record {
  converted = subst (λ m. AreAllOn m New) (sym map) all.converted;
  rests = all.rests;
}

module _ {K : Type 0} {reading : Reading} {layout : Layout} {old new : State K} where
  -- the work and the map stay
  pub same_so_far : new.work ≡ old.work → new.map ≡ old.map → SoFar reading layout old
      → SoFar reading layout new
  same_so_far work map (converts own at is lay) = converts own (work ∙ at) is lay
  same_so_far work map (closes before last stage areas at all) =
      closes before last stage areas (work ∙ at) (still_new map all)
  same_so_far work map (wipes_on last left at all) =
      wipes_on last left (work ∙ at) (still_new map all)
  same_so_far work map (is_over last at all) = is_over last (work ∙ at) (still_new map all)

-- ---- what a work says of where it stands
record IsClosing {K : Type 0} (reading : Reading) (layout : Layout) (old : State K) (work : Work)
    : Type 0 where
  before : Header (List ℕ)
  last : Header (List ℕ)
  stage : Stage
  areas : List Area
  is : work ≡ closing layout before last stage areas
  all : AllNew reading old last

record IsWipingAt {K : Type 0} (reading : Reading) (layout : Layout) (old : State K)
    (place : Layout) (header : Header (List ℕ)) : Type 0 where
  lay : place ≡ layout
  all : AllNew reading old header

module _ {K : Type 0} {reading : Reading} {layout : Layout} {old : State K} where
  converting_at : SoFar reading layout old → (work : Work) → old.work ≡ Some work
      → work.progress ≡ converting → work.layout ≡ layout
  converting_at (converts own at is lay) work here on = ap (λ w. w.layout) (one_work here at) ∙ lay
  converting_at (closes before last stage areas at all) work here on =
      absurd (wiping_converts (sym (ap (λ w. w.progress) (one_work here at)) ∙ on))
  converting_at (wipes_on last left at all) work here on =
      absurd (wiping_converts (sym (ap (λ w. w.progress) (one_work here at)) ∙ on))
  converting_at (is_over last at all) work here on =
      absurd (complete_converts (sym (ap (λ w. w.progress) (one_work here at)) ∙ on))

  at_hand_at : SoFar reading layout old → (work : Work) → old.work ≡ Some work
      → (IsAtRest work → ⊥) → (work.progress ≡ converting) ⊎ IsClosing reading layout old work
  at_hand_at (converts own at is lay) work here busy =
      inl (ap (λ w. w.progress) (one_work here at) ∙ is)
  at_hand_at (closes before last stage areas at all) work here busy = inr (record {
    before = before;
    last = last;
    stage = stage;
    areas = areas;
    is = one_work here at;
    all = all;
  })
  at_hand_at (wipes_on last left at all) work here busy =
      absurd (busy (subst IsAtRest (sym (one_work here at)) refl))
  at_hand_at (is_over last at all) work here busy =
      absurd (busy (subst IsAtRest (sym (one_work here at)) refl))

  wiping_at : SoFar reading layout old → (place : Layout) (header : Header (List ℕ))
      (areas : List Area) → old.work ≡ Some (resting place header (wiping areas))
      → IsWipingAt reading layout old place header
  wiping_at (converts own at is lay) place header areas here =
      absurd (wiping_converts (ap (λ w. w.progress) (one_work here at) ∙ is))
  wiping_at (closes before last stage others at all) place header areas here =
      absurd (let same = ap (λ w. w.phase) (one_work here at) in cc)
  wiping_at (wipes_on last left at all) place header areas here =
      let same = one_work here at in
      let header_is : header ≡ last = ap (λ w. w.zone.before) same in record {
        lay = ap (λ w. w.layout) same;
        all = subst (λ h. AllNew reading old h) (sym header_is) all;
      }
  wiping_at (is_over last at all) place header areas here =
      absurd (complete_wipes (sym (ap (λ w. w.progress) (one_work here at))))

  pub over_at : SoFar reading layout old → (place : Layout) (header : Header (List ℕ))
      → old.work ≡ Some (resting place header complete)
      → (place ≡ layout) × AllNew reading old header
  over_at (converts own at is lay) place header here =
      absurd (complete_converts (ap (λ w. w.progress) (one_work here at) ∙ is))
  over_at (closes before last stage others at all) place header here =
      absurd (complete_wipes (ap (λ w. w.progress) (one_work here at)))
  over_at (wipes_on last left at all) place header here =
      absurd (complete_wipes (ap (λ w. w.progress) (one_work here at)))
  over_at (is_over last at all) place header here =
      let same = one_work here at in
      let header_is : header ≡ last = ap (λ w. w.zone.before) same in (
        ap (λ w. w.layout) same,
        subst (λ h. AllNew reading old h) (sym header_is) all,
      )

-- ---- a step of the commit of the last header
record IsNextStage (phase : Phase) (part next : Part) : Type 0 where
  stage : Stage
  is : phase ≡ moving stage
  same : next ≡ part

closing_step : {seals : Seals} {atom : ℕ} {work : Work} {old new : Device} {phase next : Phase}
    {part next_part : Part} (stage : Stage) → phase ≡ moving stage
    → calls.ZoneStep seals atom work old new phase part next next_part
    → IsNextStage next part next_part
closing_step {atom = atom} {work = work} stage at (calls.reads phase first count text is counted any long call) =
    absurd (subst (λ p. calls.IsNext atom work p first) at is)
closing_step stage at (calls.saves first count text saved it any call) = absurd (cc)
closing_step stage at (calls.keeps part call) = absurd (cc)
closing_step stage at (calls.opens other part goes call) = absurd (cc)
closing_step stage at (calls.writes n count text next any is call) = absurd (cc)
closing_step stage at (calls.settles part call) = absurd (cc)
closing_step stage at (calls.moves other part goes call) =
    record { stage = next_stage other; is = refl; same = refl }
closing_step stage at (calls.shifts n count text next any is within call) = absurd (cc)
closing_step stage at (calls.arrives part call) = absurd (cc)
closing_step stage at (calls.turns other part goes call) = absurd (cc)

closing_fails : {seals : Seals} {atom : ℕ} {work : Work} {old new : Device} {phase next : Phase}
    {part : Part} (stage : Stage) → phase ≡ moving stage
    → calls.StepFails seals atom work old new phase part next → (later : Stage) × (next ≡ moving later)
closing_fails stage at (calls.read_fails phase first text behind call) =
    absurd (subst calls.IsBehindFirst at behind)
closing_fails stage at (calls.save_fails first count text saved it any call) = absurd (cc)
closing_fails stage at (calls.open_fails other part call) = absurd (cc)
closing_fails stage at (calls.write_fails n count text next any is call) = absurd (cc)
closing_fails stage at (calls.move_fails other part call) = (failed_stage other, refl)
closing_fails stage at (calls.shift_fails n count text next any is within call) = absurd (cc)
closing_fails stage at (calls.turn_fails other part call) = absurd (cc)
closing_fails stage at (calls.sync_fails phase part next call) = (stage, at)

resting_fails : {seals : Seals} {atom : ℕ} {work : Work} {old new : Device} {phase next : Phase}
    {part : Part} → phase ≡ saving 0 → part ≡ wanted 0
    → calls.StepFails seals atom work old new phase part next → next ≡ saving 0
resting_fails at of (calls.read_fails phase first text behind call) =
    absurd (subst calls.IsBehindFirst at behind)
resting_fails at of (calls.save_fails first count text saved it any call) = absurd (cc)
resting_fails at of (calls.open_fails other part call) = absurd (cc)
resting_fails at of (calls.write_fails n count text next any is call) = absurd (cc)
resting_fails at of (calls.move_fails other part call) = absurd (cc)
resting_fails at of (calls.shift_fails n count text next any is within call) = absurd (cc)
resting_fails at of (calls.turn_fails other part call) = absurd (cc)
resting_fails at of (calls.sync_fails phase part next call) = at

same_closing : {work : Work} {opened moved before last : Header (List ℕ)} {phase : Phase}
    {part : Part} {layout : Layout} {stage later : Stage} {areas : List Area}
    → work ≡ closing layout before last stage areas → opened ≡ before → moved ≡ last
    → phase ≡ moving later → part ≡ wanted 0
    → advanced (named work opened moved) phase part ≡ closing layout before last later areas
same_closing is opens moves at of = rw (is, opens, moves, at, of) refl

-- ---- each step
module _ {K : Type 0} {reading : Reading} {layout : Layout} {old new : State K}
    (order : IsInOrder reading old) (so_far : SoFar reading layout old) where
  begins_so : Begins reading old new → SoFar reading layout new
  begins_so it = converts it.work it.goes.work it.planned.progress
      (it.planned.layout_is ∙ converting_at so_far _ it.was refl)

  closes_on : {seals : Seals} (it : StepsOn reading seals old new)
      → IsClosing reading layout old it.work
      → SoFar reading layout new
  closes_on it so =
      let at : it.work.phase ≡ moving so.stage = ap (λ w. w.phase) so.is in
      let next = closing_step so.stage at it.step in
      let stay = it.names.stay (λ at_first. subst IsFirst at at_first) in
      let opened : it.opened ≡ so.before = stay.0 ∙ ap (λ w. w.zone.opened) so.is in
      let moved : it.moved ≡ so.last = stay.1 ∙ ap (λ w. w.zone.moved) so.is in
      let part : it.part ≡ wanted 0 = next.same ∙ ap (λ w. w.part) so.is in
      let now = same_closing so.is opened moved next.is part in
      closes so.before so.last next.stage so.areas (it.goes.work ∙ ap (λ w. Some w) now)
      (still_new it.goes.map_is so.all)

  steps_so : {seals : Seals} → StepsOn reading seals old new → SoFar reading layout new
  steps_so it = elim (at_hand_at so_far it.work it.was it.at_hand) [
    | inl on ↦ converts (advanced (named it.work it.opened it.moved) it.phase it.part) it.goes.work
        on (converting_at so_far it.work it.was on)
    | inr so ↦ closes_on it so
  ]

  opens_so : OpensZone reading old new → SoFar reading layout new
  opens_so it =
      let busy : IsAtRest it.work → ⊥ = (λ rest.
      let same : saving 0 ≡ opening second_written = sym (ap (λ w. w.phase) rest) ∙ it.phase in cc) in
      elim (at_hand_at so_far it.work it.was busy) [
        | inl on ↦ converts (advanced it.work (writing 0) it.work.part) it.goes.work on
            (converting_at so_far it.work it.was on)
        | inr so ↦ absurd (let same : moving so.stage ≡ opening second_written =
            sym (ap (λ w. w.phase) so.is) ∙ it.phase in cc)
      ]

  finish_so : (it : EndsZone reading old new)
      → IsClosing reading layout old it.work
      → SoFar reading layout new
  finish_so it so =
      let work = it.work in
      let turned = ends_turned order.courses it in
      let lay : work.layout ≡ layout = ap (λ w. w.layout) so.is in
      let moved : work.zone.moved ≡ so.last = ap (λ w. w.zone.moved) so.is in
      let left : work.progress ≡ wiping so.areas = ap (λ w. w.progress) so.is in
      let now : new.work ≡ Some (resting layout so.last (wiping so.areas)) =
      it.goes.work ∙ rw (lay, moved, left) refl in
      wipes_on so.last so.areas now (record {
        converted = λ b below.
            (let inside = subst (λ n. b < n) (ap (λ m. m.blocks) it.goes.map_is ∙ turned.blocks) below
            in ap (λ m. side_in m b) it.goes.map_is
            ∙ turned.same_sides b inside (rw so.is (inr (omega arith)))
            ∙ so.all.converted b inside);
        rests = so.all.rests;
      })

  ends_so : EndsZone reading old new → SoFar reading layout new
  ends_so it =
      let busy : IsAtRest it.work → ⊥ =
      (λ rest. subst IsLast (ap (λ w. w.phase) rest) it.last) in
      elim (at_hand_at so_far it.work it.was busy) [
        | inl on ↦ converts (resting it.work.layout it.work.zone.moved it.work.progress)
            it.goes.work on (converting_at so_far it.work it.was on)
        | inr so ↦ finish_so it so
      ]

  concludes_so : Concludes reading old new → SoFar reading layout new
  concludes_so it =
      let lay = converting_at so_far _ it.may.was refl in
      closes it.header it.next first_written it.areas (it.goes.work ∙ rw lay refl)
      (record {
        converted = subst (λ m. AreAllOn m New) (sym it.goes.map_is) it.may.converted;
        rests = it.may.rests;
      })

  misses_so : MissesConclusion reading old new → SoFar reading layout new
  misses_so it =
      let lay = converting_at so_far _ it.may.was refl in
      closes it.header it.next first_written it.areas (it.frees.work ∙ rw lay refl)
      (record {
        converted = subst (λ m. AreAllOn m New) (sym it.frees.map) it.may.converted;
        rests = it.may.rests;
      })

  wipes_so : Wipes old new → SoFar reading layout new
  wipes_so it =
      let on = wiping_at so_far it.layout it.header (it.area ∷ it.areas) it.was in
      wipes_on it.header it.areas (it.goes.work ∙ rw on.lay refl) (still_new it.goes.map_is on.all)

  wiped_so : IsWiped old new → SoFar reading layout new
  wiped_so it =
      let on = wiping_at so_far it.layout it.header [] it.was in
      is_over it.header (it.goes.work ∙ rw on.lay refl) (still_new it.goes.map_is on.all)

  gives_so : (work : Work) → GivesUp old new work → SoFar reading layout new
  gives_so work up =
      let busy : IsAtRest work → ⊥ = (λ rest.
      let some = subst (λ w. w.range.start < w.range.end) rest up.some in omega (arith, some)) in
      elim (at_hand_at so_far work up.was busy) [
        | inl on ↦ converts (resting work.layout work.zone.before work.progress) up.frees.work on
            (converting_at so_far work up.was on)
        | inr so ↦ absurd (let some = subst (λ w. w.range.start < w.range.end) so.is up.some in
            omega (arith, some))
      ]

  frees_same : {is_broken : _} → Frees old new is_broken old.work → SoFar reading layout new
  frees_same frees = same_so_far frees.work frees.map so_far

-- a call that failed
closing-on : (layout : Layout) (before last : Header (List ℕ)) (stage later : Stage)
    (areas : List Area) (work : Work) (phase : Phase)
    → work ≡ closing layout before last stage areas → phase ≡ moving later
    → advanced work phase work.part ≡ closing layout before last later areas
closing-on layout before last stage later areas work phase same next = rw (same, next) refl

resting-on : (at_rest : Work) (work : Work) (phase : Phase) → work ≡ at_rest
    → phase ≡ at_rest.phase → advanced work phase work.part ≡ at_rest
resting-on at_rest work phase same next = rw (same, next) refl

faults_so : {K : Type 0} {reading : Reading} {layout : Layout} {seals : Seals} {old new : State K}
    → SoFar reading layout old → Faults seals old new → SoFar reading layout new
faults_so (converts own at is lay) it =
    let same = one_work it.was at in
    converts (advanced it.work it.phase it.work.part) it.frees.work
    (ap (λ w. w.progress) same ∙ is) (ap (λ w. w.layout) same ∙ lay)
faults_so {layout = layout} (closes before last stage areas at all) it =
    let same = one_work it.was at in
    let (later, next) = closing_fails stage (ap (λ w. w.phase) same) it.fails in
    let now = closing-on layout before last stage later areas it.work it.phase same next in
    closes before last later areas (it.frees.work ∙ ap (λ w. Some w) now)
    (still_new it.frees.map all)
faults_so {layout = layout} (wipes_on last left at all) it =
    let same = one_work it.was at in
    let next = resting_fails (ap (λ w. w.phase) same) (ap (λ w. w.part) same) it.fails in
    let now = resting-on (resting layout last (wiping left)) it.work it.phase same next in
    wipes_on last left (it.frees.work ∙ ap (λ w. Some w) now) (still_new it.frees.map all)
faults_so {layout = layout} (is_over last at all) it =
    let same = one_work it.was at in
    let next = resting_fails (ap (λ w. w.phase) same) (ap (λ w. w.part) same) it.fails in
    let now = resting-on (resting layout last complete) it.work it.phase same next in
    is_over last (it.frees.work ∙ ap (λ w. Some w) now) (still_new it.frees.map all)

module _ {K : Type 0} {reading : Reading} {layout : Layout} {seals : Seals} {old new : State K}
    (order : IsInOrder reading old) (so_far : SoFar reading layout old) where
  pub work_so_far : {worked : Worked} → WorkStep reading seals old new worked
      → SoFar reading layout new
  work_so_far (takes grant it) = same_so_far it.admitted.goes.work it.admitted.goes.map so_far
  work_so_far (queues lane it) = same_so_far it.admitted.goes.work it.admitted.goes.map so_far
  work_so_far (stays lane it) = subst (λ s. SoFar reading layout s) (sym it.same) so_far
  work_so_far (begins it) = begins_so order so_far it
  work_so_far (steps it) = steps_so order so_far it
  work_so_far (opens_zone it) = opens_so order so_far it
  work_so_far (ends_zone it) = ends_so order so_far it
  work_so_far (leaves_blocks it) = frees_same order so_far it.frees
  work_so_far (concludes it) = concludes_so order so_far it
  work_so_far (wipes it) = wipes_so order so_far it
  work_so_far (wiped it) = wiped_so order so_far it
  work_so_far (ends it) = subst (λ s. SoFar reading layout s) (sym it.same) so_far
  work_so_far (misses_part it) = gives_so order so_far it.work it.gives_up
  work_so_far (is_hindered cause it) = gives_so order so_far it.work it.gives_up
  work_so_far (is_unfinished cause it) = subst (λ s. SoFar reading layout s) (sym it.same) so_far
  work_so_far (faults it) = faults_so so_far it
  work_so_far (misses_conclusion it) = misses_so order so_far it
  work_so_far (misses_wipe it) = frees_same order so_far it.frees
  work_so_far (leaves_broken it) = frees_same order so_far it.frees
