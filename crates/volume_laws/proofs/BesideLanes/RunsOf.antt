-- Deeds that begin without a conversion's work, or among which is no step of the worker, are a run of
-- events.
use Rattle.std.proofs.Common.{List, None, [], ap, refl, subst, sym, ℕ, ◌++◌, ◌∙◌, ◌∷◌, ◌≡◌}
use Rattle.volume_machine.specs.Edges.{InPlain}
use Rattle.volume_machine.specs.Events.{Event, Outcome}
use Rattle.volume_machine.specs.Runs.{Happening, IsRun, last_of}
use Rattle.volume_machine.specs.Seals.{Seals}
use Rattle.volume_machine.specs.States.{State}
use Rattle.volume_machine.proofs.EventEffects.{event_effects}
use Rattle.volume_machine.specs.Deeds.{Act, AreDeeds, Deed, client, plain_by, state_after, worker}
use Rattle.volume_machine.specs.Readings.{Reading}
use Rattle.volume_laws.specs.Lanes.{answered_under, call_of, own_calls}
use Rattle.volume_laws.specs.BesideLanes.Lanes.{AreMade, Makes, answered_at, answered_on, calls_over}
use Rattle.volume_laws.specs.BesideLanes.Lanes.{deed_of, deeds_of, work_in, works_over}
use Rattle.volume_laws.specs.BesideLanes.Runs.{IsRunOf}
use Rattle.volume_laws.proofs.BesideLanes.Beside.{work-some}

-- ---- a run, as deeds
module _ {K : Type 0} where
  run-is : (reading : Reading) (seals : Seals) (start : State K) (run : List (Happening K))
      → AreDeeds reading seals start (deeds_of run) → IsRun start run
  unfolding AreDeeds IsRun deeds_of
  run-is reading seals start [] are = tt
  run-is reading seals start (one ∷ run) ((meets, step), are) =
      (meets, step, run-is reading seals one.after run are)

  run-last : (start : State K) (run : List (Happening K))
      → last_of start run ≡ state_after start (deeds_of run)
  unfolding last_of state_after deeds_of
  run-last start [] = refl
  run-last start (one ∷ run) = run-last one.after run

  run-calls : (lane : ℕ) (run : List (Happening K))
      → own_calls lane run ≡ calls_over lane (deeds_of run)
  unfolding own_calls calls_over deeds_of
  run-calls lane [] = refl
  run-calls lane (one ∷ run) = ap (λ calls. call_of lane one ++ calls) (run-calls lane run)

  run-answers : (lane : ℕ) (seals : Seals) (start : State K) (plain : ℕ → InPlain)
      (run : List (Happening K))
      → answered_under lane seals start plain run ≡ answered_on lane seals start plain (deeds_of run)
  unfolding answered_under answered_on deeds_of
  run-answers lane seals start plain [] = refl
  run-answers lane seals start plain (one ∷ run) =
      ap (λ rest. answered_at lane start (client one.event one.outcome) plain ++ rest)
      (run-answers lane seals one.after (plain_by seals start (client one.event one.outcome) plain)
      run)

-- ---- no step of the worker
record IsEvents {K : Type 0} (deeds : List (Deed K)) : Type 0 where
  run : List (Happening K)
  is : deeds ≡ deeds_of run

record IsEvent {K : Type 0} (old : State K) (act : Act) (new : State K) : Type 0 where
  event : Event
  outcome : Outcome
  is : act ≡ client event outcome
  rests : new.work ≡ old.work

one-event : {K : Type 0} (reading : Reading) (seals : Seals) (old new : State K) (act : Act)
    → old.work ≡ None → Makes reading seals old act new → IsEvent old act new
one-event reading seals old new (client event outcome) none step = record {
  event = event;
  outcome = outcome;
  is = refl;
  rests = (event_effects old new event outcome step).work;
}
one-event reading seals old new (worker worked) none step =
    absurd (let some = work-some step in cc)

all-events : {K : Type 0} (reading : Reading) (seals : Seals) (start : State K)
    (deeds : List (Deed K)) → start.work ≡ None → AreMade reading seals start deeds → IsEvents deeds
unfolding AreMade deeds_of
all-events reading seals start [] none made = record { run = []; is = refl }
all-events {K} reading seals start (one ∷ rest) none (makes, made) =
    let first = one-event reading seals start one.after one.act none makes in
    let others = all-events reading seals one.after rest (first.rests ∙ none) made in
    let happening : Happening K =
    record { event = first.event; outcome = first.outcome; after = one.after } in
    record {
      run = happening ∷ others.run;
      is = ap (λ (act : Act). record { act = act; after = one.after } ∷ rest) first.is
          ∙ ap (λ (deeds : List (Deed K)). deed_of happening ∷ deeds) others.is;
    }

run-of : {K : Type 0} (seals : Seals) (start : State K) (run : List (Happening K))
    → IsRunOf start seals (deeds_of run) run
run-of seals start run = record {
  deeds_are = refl;
  is = λ reading are. run-is reading seals start run are;
  last = run-last start run;
  calls = λ lane. run-calls lane run;
  answers = λ lane plain. run-answers lane seals start plain run;
}

pub runs-of : {K : Type 0} (reading : Reading) (seals : Seals) (start : State K)
    (deeds : List (Deed K)) → start.work ≡ None → AreMade reading seals start deeds
    → (run : List (Happening K)) × IsRunOf start seals deeds run
runs-of reading seals start deeds none made =
    let all = all-events reading seals start deeds none made in (
      all.run,
      subst (λ all_deeds. IsRunOf start seals all_deeds all.run) (sym all.is)
          (run-of seals start all.run),
    )

-- ---- the worker makes no step, though there may be work
quiet-event : {K : Type 0} (one : Deed K) (act : Act) (rest : List (Deed K)) → one.act ≡ act
    → work_in act ++ works_over rest ≡ [] → (works_over rest ≡ [] → IsEvents rest)
    → IsEvents (one ∷ rest)
unfolding deeds_of
quiet-event {K} one (client event outcome) rest is none again =
    let others = again none in
    let happening : Happening K =
    record { event = event; outcome = outcome; after = one.after } in
    record {
      run = happening ∷ others.run;
      is = ap (λ (act : Act). record { act = act; after = one.after } ∷ rest) is
          ∙ ap (λ (deeds : List (Deed K)). deed_of happening ∷ deeds) others.is;
    }
quiet-event one (worker worked) rest is none again = absurd (cc)

quiet-events : {K : Type 0} (deeds : List (Deed K)) → works_over deeds ≡ [] → IsEvents deeds
unfolding works_over deeds_of
quiet-events [] none = record { run = []; is = refl }
quiet-events (one ∷ rest) none =
    quiet-event one one.act rest refl none (λ more. quiet-events rest more)

pub quiet-runs : {K : Type 0} (seals : Seals) (start : State K) (deeds : List (Deed K))
    → works_over deeds ≡ [] → (run : List (Happening K)) × IsRunOf start seals deeds run
quiet-runs seals start deeds none =
    let all = quiet-events deeds none in (
      all.run,
      subst (λ all_deeds. IsRunOf start seals all_deeds all.run) (sym all.is)
          (run-of seals start all.run),
    )
