-- What steps of the worker leave once the last header is being committed, and once it stands.
use Rattle.std.proofs.Common.{Contains, List, Some, [], ap, arith, refl, subst, suc, sym, ℕ, ◌<◌}
use Rattle.std.proofs.Common.{◌∙◌, ◌∷◌, ◌≡◌, ◌≢◌}
use Rattle.volume_machine.specs.Seals.{Seals}
use Rattle.volume_machine.specs.States.{State}
use Rattle.volume_machine.specs.Works.{Work}
use Rattle.crash_laws.specs.HeaderAreas.Areas.{Area}
use Rattle.crash_laws.specs.HeaderAreas.Commits.{Stage, failed_stage}
use Rattle.crash_laws.specs.HeaderAreas.Headers.{Header, Layout}
use Rattle.crash_laws.specs.HotZones.Zones.{Phase, moving, saving}
use Rattle.crash_laws.specs.HotZones.Calls.{IsFirst, IsLast}
use Rattle.sector_disk.specs.Devices.{Device}
use Rattle.volume_machine.specs.Readings.{Reading}
use Rattle.volume_machine.specs.WorkCalls as calls
use Rattle.volume_machine.specs.WorkSteps.{WorkStep, Worked, begins, closing, concludes, ends}
use Rattle.volume_machine.specs.WorkSteps.{ends_zone, faults, is_hindered, is_unfinished}
use Rattle.volume_machine.specs.WorkSteps.{leaves_blocks, leaves_broken, misses_conclusion}
use Rattle.volume_machine.specs.WorkSteps.{misses_part, misses_wipe, opens_zone, queues, stays}
use Rattle.volume_machine.specs.WorkSteps.{steps, takes, wiped, wipes}
use Rattle.volume_machine.specs.WorkSteps.{Faults, GivesUp}
use Rattle.volume_machine.specs.WorkSteps.{StepsOn}
use Rattle.volume_machine.specs.Works.{Part, Progress, advanced, complete, converting}
use Rattle.volume_machine.specs.Works.{no_blocks, resting, wanted, wiping}
use Rattle.volume_machine.specs.Working.{wiped_later}
use Rattle.volume_laws.proofs.WorkerRuns.Stages.{complete_converts, moving_saves, wiping_converts}
use Rattle.volume_laws.proofs.WorkerRuns.StageSteps.{closing_step, none_contained, same_closing}

contains_behind : (first : Area) (areas : List Area) (area : Area) → Contains areas area
    → Contains (first ∷ areas) area
contains_behind first areas area (k, below, is) = (suc k, omega (arith, below), is)

-- ---- what is at rest
-- a fault of the worker leaves a work that is at rest as it is
rest_fails : {seals : Seals} {atom : ℕ} {work : Work} {old new : Device} {phase next : Phase}
    {part : Part} → phase ≡ saving 0 → calls.StepFails seals atom work old new phase part next
    → next ≡ saving 0
rest_fails is (calls.read_fails phase first text behind call) = is
rest_fails is (calls.save_fails first count text saved it some call) = is
rest_fails is (calls.open_fails stage part call) = cc
rest_fails is (calls.write_fails n count text next some it call) = is
rest_fails is (calls.move_fails stage part call) = cc
rest_fails is (calls.shift_fails n count text next some it within call) = is
rest_fails is (calls.turn_fails stage part call) = cc
rest_fails is (calls.sync_fails phase part it call) = is

-- and one of the last commit leaves that at hand
closing_fails : {seals : Seals} {atom : ℕ} {work : Work} {old new : Device} {phase next : Phase}
    {part : Part} (stage : Stage) → phase ≡ moving stage
    → calls.StepFails seals atom work old new phase part next → (other : Stage) × (next ≡ moving other)
closing_fails stage is (calls.read_fails phase first text behind call) =
    absurd (subst calls.IsBehindFirst is behind)
closing_fails stage is (calls.save_fails first count text saved it some call) = absurd (cc)
closing_fails stage is (calls.open_fails other part call) = absurd (cc)
closing_fails stage is (calls.write_fails n count text next some it call) = absurd (cc)
closing_fails stage is (calls.move_fails other part call) = (failed_stage other, refl)
closing_fails stage is (calls.shift_fails n count text next some it within call) = absurd (cc)
closing_fails stage is (calls.turn_fails other part call) = absurd (cc)
closing_fails {work = work} stage is (calls.sync_fails phase part it call) =
    absurd (subst (calls.IsToSync work) is it)

-- ---- of one work it isn't another
progress_of : {layout other : Layout} {header one : Header (List ℕ)} {progress next : Progress}
    → resting layout header progress ≡ resting other one next → progress ≡ next
progress_of same = ap (λ w. w.progress) same

closing_rests : {layout other : Layout} {before last header : Header (List ℕ)} {stage : Stage}
    {areas : List Area} {progress : Progress}
    → closing layout before last stage areas ≡ resting other header progress → ⊥
closing_rests same = moving_saves (ap (λ w. w.phase) same)

-- a zone without blocks is never given up
none_given : {K : Type 0} {old new : State K} (work : Work) → work.range ≡ no_blocks
    → GivesUp old new work → ⊥
none_given work none it =
    let some = subst (λ r. r.start < r.end) none it.some in omega (arith, some)

-- ---- no commit is left
pub record EndedOn {K : Type 0} (layout : Layout) (last : Header (List ℕ)) (progress : Progress)
    (new : State K) : Type 0 where
  pub next : Progress
  pub is : new.work ≡ Some (resting layout last next)
  pub ended : next ≢ converting
  pub left : (area : Area) → Contains (wiped_later next) area → Contains (wiped_later progress) area

module _ {K : Type 0} (old new : State K) {layout : Layout} {last : Header (List ℕ)}
    {progress : Progress} (was : old.work ≡ Some (resting layout last progress))
    (done : progress ≢ converting) where
  was_one : {work : Work} → old.work ≡ Some work → work ≡ resting layout last progress
  was_one at = cc

  same_ended : new.work ≡ old.work → EndedOn layout last progress new
  same_ended same = record { next = progress; is = same ∙ was; ended = done; left = λ area has. has }

  unconverted : {l : Layout} {h : Header (List ℕ)} → old.work ≡ Some (resting l h converting) → ⊥
  unconverted at = done (sym (ap (λ w. w.progress) (was_one at)))

  fault_ended : {seals : Seals} → Faults seals old new → EndedOn layout last progress new
  fault_ended it =
      let is = was_one it.was in
      let phase = rest_fails (ap (λ w. w.phase) is) it.fails in
      let part : it.work.part ≡ wanted 0 = ap (λ w. w.part) is in
      same_ended (it.frees.work ∙ rw (phase, part, is) refl ∙ sym was)

  unwiped : (l : Layout) (h : Header (List ℕ)) (areas next : List Area)
      → old.work ≡ Some (resting l h (wiping areas))
      → ((area : Area) → Contains next area → Contains areas area)
      → new.work ≡ Some (resting l h (wiping next)) → EndedOn layout last progress new
  unwiped l h areas next at less is =
      let same = was_one at in
      let lay : l ≡ layout = ap (λ w. w.layout) same in
      let head : h ≡ last = ap (λ w. w.zone.before) same in
      let left : wiping areas ≡ progress = ap (λ w. w.progress) same in record {
        next = wiping next;
        is = is ∙ rw (lay, head) refl;
        ended = λ e. wiping_converts e;
        left = λ area has. subst (λ p. Contains (wiped_later p) area) left (less area has);
      }

  unwiped_all : (l : Layout) (h : Header (List ℕ)) → old.work ≡ Some (resting l h (wiping []))
      → new.work ≡ Some (resting l h complete) → EndedOn layout last progress new
  unwiped_all l h at is =
      let same = was_one at in
      let lay : l ≡ layout = ap (λ w. w.layout) same in
      let head : h ≡ last = ap (λ w. w.zone.before) same in record {
        next = complete;
        is = is ∙ rw (lay, head) refl;
        ended = λ e. complete_converts e;
        left = λ area has. absurd (none_contained area has);
      }

  pub ended_on : {reading : Reading} {seals : Seals} {worked : Worked}
      → WorkStep reading seals old new worked → EndedOn layout last progress new
  ended_on (takes grant it) = absurd (unconverted it.was)
  ended_on (queues lane it) = absurd (unconverted it.was)
  ended_on (stays lane it) = absurd (unconverted it.was)
  ended_on (begins it) = absurd (unconverted it.was)
  ended_on (steps it) = absurd (it.at_hand (rw (was_one it.was) refl))
  ended_on (opens_zone it) =
      let phase = it.phase in let is = ap (λ w. w.phase) (was_one it.was) in absurd (cc)
  ended_on (ends_zone it) = absurd (subst IsLast (ap (λ w. w.phase) (was_one it.was)) it.last)
  ended_on (leaves_blocks it) = absurd (unconverted it.was)
  ended_on (concludes it) = absurd (unconverted it.may.was)
  ended_on (wipes it) = unwiped it.layout it.header (it.area ∷ it.areas) it.areas it.was
      (λ area has. contains_behind it.area it.areas area has) it.goes.work
  ended_on (wiped it) = unwiped_all it.layout it.header it.was it.goes.work
  ended_on (ends it) = same_ended (ap (λ s. s.work) it.same)
  ended_on (misses_part it) = absurd (none_given it.work
      (ap (λ w. w.range) (was_one it.gives_up.was)) it.gives_up)
  ended_on (is_hindered cause it) = absurd (none_given it.work
      (ap (λ w. w.range) (was_one it.gives_up.was)) it.gives_up)
  ended_on (is_unfinished cause it) = absurd (unconverted it.was)
  ended_on (faults it) = fault_ended it
  ended_on (misses_conclusion it) = absurd (unconverted it.may.was)
  ended_on (misses_wipe it) = same_ended it.frees.work
  ended_on (leaves_broken it) = same_ended it.frees.work

-- ---- the last header is being committed
closing_so : {layout : Layout} {before last : Header (List ℕ)} {stage : Stage} {areas : List Area}
    (work : Work) (phase : Phase) (other : Stage) → work ≡ closing layout before last stage areas
    → phase ≡ moving other
    → advanced work phase work.part ≡ closing layout before last other areas
closing_so work phase other is at = rw (at, is) refl

pub data ClosedOn {K : Type 0} (layout : Layout) (before last : Header (List ℕ))
    (areas : List Area) (new : State K) : Type 0 where
  closing_on : (stage : Stage) → new.work ≡ Some (closing layout before last stage areas)
      → ClosedOn layout before last areas new
  closed_so : new.work ≡ Some (resting layout last (wiping areas))
      → ClosedOn layout before last areas new

module _ {K : Type 0} (old new : State K) {layout : Layout} {before last : Header (List ℕ)}
    {stage : Stage} {areas : List Area}
    (was : old.work ≡ Some (closing layout before last stage areas)) where
  was_closing : {work : Work} → old.work ≡ Some work
      → work ≡ closing layout before last stage areas
  was_closing at = cc

  not_rest : {l : Layout} {h : Header (List ℕ)} {progress : Progress}
      → old.work ≡ Some (resting l h progress) → ⊥
  not_rest at = closing_rests (sym (was_closing at))

  same_closed : new.work ≡ old.work → ClosedOn layout before last areas new
  same_closed same = closing_on stage (same ∙ was)

  steps_closed : {reading : Reading} {seals : Seals} → StepsOn reading seals old new
      → ClosedOn layout before last areas new
  steps_closed it =
      let is = was_closing it.was in
      let at : it.work.phase ≡ moving stage = ap (λ w. w.phase) is in
      let next = closing_step stage at it.step in
      let stay = it.names.stay (λ first. subst IsFirst at first) in
      closing_on next.stage (it.goes.work ∙ ap (λ w. Some w)
      (same_closing is (stay.0 ∙ ap (λ w. w.zone.opened) is) (stay.1 ∙ ap (λ w. w.zone.moved) is)
      next.is (next.same ∙ ap (λ w. w.part) is)))

  faults_closed : {seals : Seals} → Faults seals old new → ClosedOn layout before last areas new
  faults_closed it =
      let is = was_closing it.was in
      let (other, phase) = closing_fails stage (ap (λ w. w.phase) is) it.fails in
      closing_on other (it.frees.work
      ∙ ap (λ w. Some w) (closing_so it.work it.phase other is phase))

  pub closed_on : {reading : Reading} {seals : Seals} {worked : Worked}
      → WorkStep reading seals old new worked → ClosedOn layout before last areas new
  closed_on (takes grant it) = absurd (not_rest it.was)
  closed_on (queues lane it) = absurd (not_rest it.was)
  closed_on (stays lane it) = absurd (not_rest it.was)
  closed_on (begins it) = absurd (not_rest it.was)
  closed_on (steps it) = steps_closed it
  closed_on (opens_zone it) =
      let phase = it.phase in let is = ap (λ w. w.phase) (was_closing it.was) in absurd (cc)
  closed_on (ends_zone it) = closed_so (it.goes.work ∙ rw (was_closing it.was) refl)
  closed_on (leaves_blocks it) = absurd (not_rest it.was)
  closed_on (concludes it) = absurd (not_rest it.may.was)
  closed_on (wipes it) = absurd (not_rest it.was)
  closed_on (wiped it) = absurd (not_rest it.was)
  closed_on (ends it) = absurd (not_rest it.was)
  closed_on (misses_part it) = absurd (none_given it.work
      (ap (λ w. w.range) (was_closing it.gives_up.was)) it.gives_up)
  closed_on (is_hindered cause it) = absurd (none_given it.work
      (ap (λ w. w.range) (was_closing it.gives_up.was)) it.gives_up)
  closed_on (is_unfinished cause it) = absurd (not_rest it.was)
  closed_on (faults it) = faults_closed it
  closed_on (misses_conclusion it) = absurd (not_rest it.may.was)
  closed_on (misses_wipe it) = absurd (not_rest it.was)
  closed_on (leaves_broken it) = same_closed it.frees.work
