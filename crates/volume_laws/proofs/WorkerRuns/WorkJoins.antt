-- Steps of a worker, one after the other, are one run.
use Rattle.std.proofs.Common.{List, [], ap, ap₂, refl, subst, sym, ◌++◌, ◌∙◌, ◌∷◌, ◌≡◌}
use Rattle.volume_machine.specs.Seals.{Seals}
use Rattle.volume_machine.specs.States.{State}
use Rattle.std.proofs.lemmas.List.{map-append}
use Rattle.reenc_worker.specs.declared.ends.WorkAnswer.{WorkAnswer}
use Rattle.volume_machine.specs.Deeds.{AreDeeds, Deed, state_after, worker}
use Rattle.volume_machine.specs.Readings.{Reading}
use Rattle.volume_machine.specs.WorkSteps.{WorkStep, Worked}
use Rattle.volume_laws.specs.WorkerRuns.Steps.{HasWorked, told_by}

state_after-append : {K : Type 0} (old : State K) (xs ys : List (Deed K))
    → state_after old (xs ++ ys) ≡ state_after (state_after old xs) ys
unfolding state_after
state_after-append old [] ys = refl
state_after-append old (one ∷ xs) ys = state_after-append one.after xs ys

deeds-joined : {K : Type 0} (reading : Reading) (seals : Seals) (old : State K)
    (xs ys : List (Deed K)) → AreDeeds reading seals old xs
    → AreDeeds reading seals (state_after old xs) ys → AreDeeds reading seals old (xs ++ ys)
unfolding AreDeeds state_after
deeds-joined reading seals old [] ys first rest = rest
deeds-joined reading seals old (one ∷ xs) ys (does, first) rest =
    (does, deeds-joined reading seals one.after xs ys first rest)

pub worked_none : {K : Type 0} (reading : Reading) (seals : Seals) (state : State K)
    → HasWorked reading seals state state []
unfolding AreDeeds state_after
worked_none reading seals state =
    record { works = []; deeds = []; are = tt; last = refl; acts = refl; answered = refl }

pub worked_one : {K : Type 0} (reading : Reading) (seals : Seals) (old new : State K)
    (worked : Worked) → WorkStep reading seals old new worked
    → HasWorked reading seals old new (told_by worked ∷ [])
unfolding AreDeeds state_after
worked_one reading seals old new worked step = record {
  works = worked ∷ [];
  deeds = record { act = worker worked; after = new } ∷ [];
  are = (step, tt);
  last = refl;
  acts = refl;
  answered = refl;
}

pub worked_joined : {K : Type 0} (reading : Reading) (seals : Seals) (old middle new : State K)
    (xs ys : List WorkAnswer) → HasWorked reading seals old middle xs
    → HasWorked reading seals middle new ys → HasWorked reading seals old new (xs ++ ys)
worked_joined reading seals old middle new xs ys first rest = record {
  works = first.works ++ rest.works;
  deeds = first.deeds ++ rest.deeds;
  are = deeds-joined reading seals old first.deeds rest.deeds first.are
      (subst (λ s. AreDeeds reading seals s rest.deeds) (sym first.last) rest.are);
  last = state_after-append old first.deeds rest.deeds
      ∙ ap (λ s. state_after s rest.deeds) first.last ∙ rest.last;
  acts = map-append _ first.deeds rest.deeds ∙ ap₂ (λ a b. a ++ b) first.acts rest.acts
      ∙ sym (map-append worker first.works rest.works);
  answered = map-append told_by first.works rest.works
      ∙ ap₂ (λ a b. a ++ b) first.answered rest.answered;
}
