-- Deeds among which is no step of the worker, as the run of events that they are, and the history that
-- tells them.
use Rattle.std.proofs.Common.{◌≡◌, ◌∙◌, ℕ, suc, List, [], ◌∷◌, ◌++◌, length, map, ap, refl, subst, sym}
use Rattle.volume_laws.specs.BesideLanes.Executing.{ExecutesBeside}
use Rattle.volume_laws.specs.BesideLanes.Lanes.{deed_of, deeds_of}
use Rattle.volume_laws.specs.BesideLanes.Runs.{IsRunOf}
use Rattle.recovery_laws.specs.Served.Clients.{happening_without_work}
use Rattle.shared_volume.specs.Histories.{IsDeedOf, Tells}
use Rattle.shared_volume.specs.declared.asking.SharedEvent.{SharedEvent}
use Rattle.shared_volume.specs.declared.asking.SharedEvent.TheVariants as Events
use Rattle.shared_volume.specs.declared.asking.SharedOutcome.{SharedOutcome}
use Rattle.shared_volume.specs.declared.asking.SharedOutcome.TheVariants as Outcomes
use Rattle.volume_cell.specs.declared.history.Entry.{Entry}
use Rattle.volume_laws.specs.Executing.{Executes}
use Rattle.volume_machine.specs.Answers.{Answered, AreTagged, Tagged}
use Rattle.volume_machine.specs.Deeds.{Deed, answered_over}
use Rattle.volume_machine.specs.Edges.{InPlain}
use Rattle.volume_machine.specs.Readings.{Reading}
use Rattle.volume_machine.specs.Runs.{Happening, answered_by, answered_in, plain_after}
use Rattle.volume_machine.specs.Seals.{Seals}
use Rattle.volume_machine.specs.States.{State}

-- ---- the same answers and as many entries
answers-same : {K : Type 0} (seals : Seals) (old : State K) (plain : ℕ → InPlain)
    (run : List (Happening K))
    → answered_over seals old plain (deeds_of run) ≡ answered_in seals old plain run
unfolding answered_over answered_in deeds_of
answers-same seals old plain [] = refl
answers-same seals old plain (one ∷ rest) =
    ap (λ (more : List Answered). answered_by old one.event one.outcome plain ++ more)
    (answers-same seals one.after (plain_after seals old one.event one.outcome plain) rest)

length-same : {K : Type 0} (run : List (Happening K)) → length (deeds_of run) ≡ length run
unfolding deeds_of
length-same [] = refl
length-same (one ∷ rest) = ap suc (length-same rest)

-- ---- the same history
same-deed : {K : Type 0} (lanes : ℕ) (event : SharedEvent) (outcome : SharedOutcome)
    (one : Happening K) → IsDeedOf lanes event outcome (deed_of one)
    → IsDeedOf lanes event outcome (deed_of (happening_without_work one))
same-deed lanes (Events.Client asked) (Outcomes.Client answer) one is =
    record { client_is = is.client_is; act = is.act; answers = is.answers }
same-deed lanes (Events.Client asked) (Outcomes.Worker made) one is = absurd is
same-deed lanes (Events.Worker lane) (Outcomes.Client answer) one is = absurd is
same-deed lanes (Events.Worker lane) (Outcomes.Worker made) one is = absurd (let act = is.act in cc)

-- it tells the run whether its states have what a conversion takes or not
pub tells-without : {K : Type 0} (lanes : ℕ) (history : List (Entry SharedEvent SharedOutcome))
    (run : List (Happening K)) → Tells lanes history (deeds_of run)
    → Tells lanes history (deeds_of (map happening_without_work run))
unfolding Tells deeds_of
tells-without lanes [] [] tells = tells
tells-without lanes [] (one ∷ run) tells = absurd tells
tells-without lanes (entry ∷ history) [] tells = absurd tells
tells-without lanes (entry ∷ history) (one ∷ run) (is, tells) = (
  record { lane = is.lane; deed = same-deed lanes entry.event entry.outcome one is.deed },
  tells-without lanes history run tells,
)

-- the run that executed what the deeds executed
pub record IsQuiet {K : Type 0} (seals : Seals) (start final : State K) (deeds : List (Deed K))
    (operations : List Tagged) : Type 0 where
  pub run : List (Happening K)
  pub did : Executes seals start final run operations
  pub count : length run ≡ length deeds
  pub deeds_are : deeds ≡ deeds_of run

pub quiet : {K : Type 0} (reading : Reading) (seals : Seals) (start final : State K)
    (deeds : List (Deed K)) (operations : List Tagged) (run : List (Happening K))
    → IsRunOf start seals deeds run → ExecutesBeside reading seals start final deeds operations
    → IsQuiet seals start final deeds operations
quiet {K} reading seals start final deeds operations run is did = record {
  run = run;
  did = record {
    is = is.is reading did.are;
    last = is.last ∙ did.last;
    answers = λ plain. subst (λ (answered : List Answered). AreTagged answered operations)
        (ap (λ (d : List (Deed K)). answered_over seals start plain d) is.deeds_are
        ∙ answers-same seals start plain run) (did.answers plain);
  };
  count = sym (length-same run) ∙ ap length (sym is.deeds_are);
  deeds_are = is.deeds_are;
}
