-- While blocks are left to convert, each header of the zone at hand says what the first one said.
use Rattle.std.proofs.Common.{List, ap, inl, inr, refl, subst, sym, ℕ, ◌∙◌, ◌≡◌}
use Rattle.volume_machine.specs.Seals.{Seals}
use Rattle.volume_machine.specs.States.{State}
use Rattle.crash_laws.specs.HeaderAreas.Headers.{Header, Layout}
use Rattle.crash_laws.specs.HotZones.Calls.{IsFirst}
use Rattle.crash_laws.specs.HotZones.Zones.{Phase, from_of, mending, moving, opening, saving, shifting}
use Rattle.crash_laws.specs.HotZones.Zones.{turning, writing}
use Rattle.volume_machine.specs.Courses.{Continues, IsToOpen, last_from}
use Rattle.volume_machine.specs.Readings.{Reading}
use Rattle.volume_machine.specs.WorkSteps.{Begins, EndsZone, Faults, GivesUp, OpensZone, StepsOn}
use Rattle.volume_machine.specs.Works.{Progress, Work, advanced, converting, named, resting}
use Rattle.volume_laws.proofs.CourseSteps.{named_from}
use Rattle.volume_laws.proofs.CoursesKept.{fault_first, fault_from, fault_opens, first_from}
use Rattle.volume_laws.proofs.CoursesKept.{given_from, step_from, step_opens}
use Rattle.volume_laws.proofs.NamedServed.{first_or_not}
use Rattle.volume_laws.proofs.TurnsServed.{last_behind}
use Rattle.volume_laws.specs.WorkerRuns.Leaving.{SaysAs}

-- the header that the commit at hand leads from; and those that come next, once they are named
pub record AllKeep (reading : Reading) (first : List ℕ) (work : Work) : Type 0 where
  pub from : SaysAs reading first (from_of work.zone work.phase).means
  pub opened : (IsFirst work.phase → ⊥) → IsToOpen work.phase
      → SaysAs reading first work.zone.opened.means
  pub moved : (IsFirst work.phase → ⊥) → SaysAs reading first work.zone.moved.means

pub says_itself : {reading : Reading} {first : List ℕ} → SaysAs reading first first
says_itself = record { sealing = λ side. refl; guard = refl; store = refl; keyslots = refl }

kept_on : {reading : Reading} {first from to : List ℕ} → Continues reading from to
    → SaysAs reading first from → SaysAs reading first to
kept_on on keeps = record {
  sealing = λ side. on.sealing side ∙ keeps.sealing side;
  guard = on.guard ∙ keeps.guard;
  store = on.store ∙ keeps.store;
  keyslots = on.keyslots ∙ keeps.keyslots;
}

module _ {reading : Reading} {first : List ℕ} where
  -- between two zones
  pub rest_keeps : (layout : Layout) (header : Header (List ℕ)) (progress : Progress)
      → SaysAs reading first header.means → AllKeep reading first (resting layout header progress)
  rest_keeps layout header progress keeps = record {
    from = keeps;
    opened = λ behind. absurd (behind refl);
    moved = λ behind. absurd (behind refl);
  }

  module _ {K : Type 0} (old new : State K) where
    pub begins_keeps : (it : Begins reading old new)
        → AllKeep reading first (resting it.layout it.header converting)
        → AllKeep reading first it.work
    begins_keeps it keeps =
        let work = it.work in let planned = it.planned in
        let same : it.header.means ≡ (from_of work.zone work.phase).means =
        ap (λ h. h.means) (sym planned.before ∙ sym (first_from work.zone work.phase planned.first))
        in record {
          from = subst (SaysAs reading first) same keeps.from;
          opened = λ behind. absurd (behind planned.first);
          moved = λ behind. absurd (behind planned.first);
        }

    pub opens_keeps : (it : OpensZone reading old new) → AllKeep reading first it.work
        → AllKeep reading first (advanced it.work (writing 0) it.work.part)
    opens_keeps it keeps =
        let behind : IsFirst it.work.phase → ⊥ = λ at. subst IsFirst it.phase at in
        record {
          from = keeps.opened behind (rw it.phase tt);
          opened = λ _ to_open. absurd to_open;
          moved = λ _. keeps.moved behind;
        }

    pub ends_keeps : (it : EndsZone reading old new) → AllKeep reading first it.work
        → AllKeep reading first
        (resting it.work.layout it.work.zone.moved it.work.progress)
    ends_keeps it keeps =
        let work = it.work in
        rest_keeps work.layout work.zone.moved work.progress
        (keeps.moved (last_behind work.phase it.last))

    -- ---- a step of a zone: its first write names its headers
    module _ {seals : Seals} (it : StepsOn reading seals old new)
        (keeps : AllKeep reading first it.work) where
      named_opened : (IsFirst it.phase → ⊥) → IsToOpen it.work.phase
          → SaysAs reading first it.opened.means
      named_opened behind to_open = elim (first_or_not it.work.phase) [
        | inl at ↦ kept_on ((it.names.keeps at behind).opens to_open)
            (subst (λ h. SaysAs reading first h.means) (first_from it.work.zone it.work.phase at)
            keeps.from)
        | inr later ↦ subst (λ h. SaysAs reading first h.means) (sym (it.names.stay later).0)
            (keeps.opened later to_open)
      ]

      named_last : (IsFirst it.phase → ⊥) → IsFirst it.work.phase
          → SaysAs reading first
          (last_from (named it.work it.opened it.moved).zone it.work.phase).means
      named_last behind at = by it.work.phase refl at
        where
          before : SaysAs reading first it.work.zone.before.means
          before = subst (λ h. SaysAs reading first h.means)
              (first_from it.work.zone it.work.phase at) keeps.from

          by : (phase : Phase) → it.work.phase ≡ phase → IsFirst phase
              → SaysAs reading first
              (last_from (named it.work it.opened it.moved).zone phase).means
          by (saving n) is so = named_opened behind (rw is tt)
          by (opening stage) is so = absurd so
          by (writing n) is so = absurd so
          by (mending n) is so = absurd so
          by (moving stage) is so = absurd so
          by (shifting n) is so = before
          by (turning stage) is so = absurd so

      named_moved : (IsFirst it.phase → ⊥) → SaysAs reading first it.moved.means
      named_moved behind = elim (first_or_not it.work.phase) [
        | inl at ↦ kept_on (it.names.keeps at behind).moves (named_last behind at)
        | inr later ↦ subst (λ h. SaysAs reading first h.means) (sym (it.names.stay later).1)
            (keeps.moved later)
      ]

      pub steps_keep : AllKeep reading first
          (advanced (named it.work it.opened it.moved) it.phase it.part)
      steps_keep =
          let work = it.work in
          let next = named work it.opened it.moved in
          let same : from_of next.zone it.phase ≡ from_of work.zone work.phase =
          step_from next.zone it.step ∙ named_from work it.opened it.moved it.names.stay in
          record {
            from = subst (λ h. SaysAs reading first h.means) (sym same) keeps.from;
            opened = λ behind to_open. named_opened behind (step_opens it.step to_open);
            moved = λ behind. named_moved behind;
          }

    -- ---- a call of it that fails, and a zone that is given up
    pub faults_keep : {seals : Seals} (it : Faults seals old new) → AllKeep reading first it.work
        → AllKeep reading first (advanced it.work it.phase it.work.part)
    faults_keep it keeps =
        let work = it.work in
        let behind : (IsFirst it.phase → ⊥) → IsFirst work.phase → ⊥ =
        λ so at. so (fault_first it.fails at) in record {
          from = subst (λ h. SaysAs reading first h.means) (sym (fault_from work.zone it.fails))
              keeps.from;
          opened = λ so to_open. keeps.opened (behind so) (fault_opens it.fails to_open);
          moved = λ so. keeps.moved (behind so);
        }

    pub given_keeps : (work : Work) → GivesUp old new work → AllKeep reading first work
        → AllKeep reading first (resting work.layout work.zone.before work.progress)
    given_keeps work it keeps = rest_keeps work.layout work.zone.before work.progress
        (subst (λ h. SaysAs reading first h.means) (given_from work.zone work.phase it.phase)
        keeps.from)
