-- Executions beside a conversion, one after the other.
use Rattle.std.proofs.Common.{List, [], ap, append_assoc, sym, ℕ, ◌++◌, ◌∙◌, ◌∷◌, ◌≡◌, refl}
use Rattle.volume_machine.specs.Answers.{Answered, Tagged, AreExchanges, AreTagged, untagged}
use Rattle.volume_machine.specs.Edges.{InPlain}
use Rattle.volume_machine.specs.Runs.{no_plain}
use Rattle.volume_machine.specs.Seals.{Seals}
use Rattle.volume_machine.specs.States.{State}
use Rattle.volume_machine.specs.Deeds.{AreDeeds, Deed, answered_of, answered_over, plain_by}
use Rattle.volume_machine.specs.Deeds.{plain_over, state_after}
use Rattle.volume_machine.specs.Readings.{Reading}
use Rattle.volume_laws.proofs.Executions.{tagged-exchanges}
use Rattle.volume_laws.specs.BesideLanes.Executing.{ExecutesBeside}

deeds-joined : {K : Type 0} (reading : Reading) (seals : Seals) (old : State K)
    (xs ys : List (Deed K)) → AreDeeds reading seals old xs
    → AreDeeds reading seals (state_after old xs) ys → AreDeeds reading seals old (xs ++ ys)
unfolding AreDeeds state_after
deeds-joined reading seals old [] ys first rest = rest
deeds-joined reading seals old (x ∷ xs) ys (does, first) rest =
    (does, deeds-joined reading seals x.after xs ys first rest)

after-joined : {K : Type 0} (old : State K) (xs ys : List (Deed K))
    → state_after old (xs ++ ys) ≡ state_after (state_after old xs) ys
unfolding state_after
after-joined old [] ys = refl
after-joined old (x ∷ xs) ys = after-joined x.after xs ys

over-joined : {K : Type 0} (seals : Seals) (old : State K) (plain : ℕ → InPlain)
    (xs ys : List (Deed K)) → answered_over seals old plain (xs ++ ys)
    ≡ answered_over seals old plain xs
    ++ answered_over seals (state_after old xs) (plain_over seals old plain xs) ys
unfolding answered_over state_after plain_over
over-joined seals old plain [] ys = refl
over-joined seals old plain (x ∷ xs) ys =
    rw (over-joined seals x.after (plain_by seals old x.act plain) xs ys)
    (sym (append_assoc (answered_of old x.act plain) _ _))

tagged-joined : (xs ys : List Answered) (first rest : List Tagged) → AreTagged xs first
    → AreTagged ys rest → AreTagged (xs ++ ys) (first ++ rest)
unfolding AreTagged
tagged-joined [] ys [] rest are_first are_rest = are_rest
tagged-joined [] ys (tagged ∷ first) rest are_first are_rest = absurd are_first
tagged-joined (x ∷ xs) ys [] rest are_first are_rest = absurd are_first
tagged-joined (x ∷ xs) ys (tagged ∷ first) rest (is, session, are_first) are_rest =
    (is, session, tagged-joined xs ys first rest are_first are_rest)

pub executes_none : {K : Type 0} (reading : Reading) (seals : Seals) (state : State K)
    → ExecutesBeside reading seals state state [] []
unfolding AreDeeds state_after answered_over AreTagged
executes_none reading seals state = record { are = tt; last = refl; answers = λ plain. tt }

pub executes_joined : {K : Type 0} (reading : Reading) (seals : Seals) (old middle new : State K)
    (xs ys : List (Deed K)) (first rest : List Tagged)
    → ExecutesBeside reading seals old middle xs first
    → ExecutesBeside reading seals middle new ys rest
    → ExecutesBeside reading seals old new (xs ++ ys) (first ++ rest)
executes_joined reading seals old middle new xs ys first rest one other = record {
  are = deeds-joined reading seals old xs ys one.are (rw one.last other.are);
  last = after-joined old xs ys ∙ ap (λ s. state_after s ys) one.last ∙ other.last;
  answers = λ plain. rw (over-joined seals old plain xs ys) (tagged-joined
      (answered_over seals old plain xs)
      (answered_over seals (state_after old xs) (plain_over seals old plain xs) ys) first rest
      (one.answers plain) (rw one.last (other.answers (plain_over seals old plain xs))));
}

pub executes_untagged : {K : Type 0} (reading : Reading) (seals : Seals) (old new : State K)
    (deeds : List (Deed K)) (history : List Tagged)
    → ExecutesBeside reading seals old new deeds history
    → AreExchanges (answered_over seals old no_plain deeds) (untagged history)
executes_untagged reading seals old new deeds history is =
    tagged-exchanges (answered_over seals old no_plain deeds) history (is.answers no_plain)
