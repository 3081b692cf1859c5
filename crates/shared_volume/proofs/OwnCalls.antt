-- Own calls of a lane, one behind the other.
use Rattle.std.proofs.Common.{◌≡◌, ℕ, List, [], ◌∷◌, ◌++◌, refl, sym, ap, ◌∙◌, subst}
use Rattle.std.proofs.Common.{append_assoc, append-nil}
use Rattle.lane_plan.specs.Calls.{event_of, outcome_of}
use Rattle.lane_plan.specs.declared.calls.Call as Plans
use Rattle.lane_plan.specs.declared.calls.Answer.{Answer}
use Rattle.shared_volume.specs.Histories.{alone_by, own_calls}
use Rattle.shared_volume.proofs.Entries.{own-append}
use Rattle.shared_volume.specs.Lanes.{HasAnswered, answered_call}
use Rattle.shared_volume.specs.declared.asking.SharedEvent.{SharedEvent}
use Rattle.shared_volume.specs.declared.asking.SharedOutcome.{SharedOutcome}
use Rattle.volume_cell.specs.declared.history.Call.{Call}
use Rattle.volume_machine.specs.Alone as Own
use Rattle.volume_machine.specs.Alone.{Alone, alone_after, alone_of, answered_alone, answers_of}
use Rattle.volume_machine.specs.Alone.{idle_lane}
use Rattle.volume_machine.specs.Answers.{Answered, AreTagged, Tagged}
use Rattle.volume_machine.specs.Seals.{Seals}
use Rattle.volume_machine.specs.States.{State}

module _ (atom : ℕ) (seals : Seals) where
  alone-joined : (alone : Alone) (xs ys : List Own.Call)
      → alone_of atom seals alone (xs ++ ys)
      ≡ alone_of atom seals (alone_of atom seals alone xs) ys
  unfolding alone_of
  alone-joined alone [] ys = refl
  alone-joined alone (x ∷ xs) ys =
      alone-joined (alone_after atom seals alone x.event x.outcome) xs ys

  answers-joined : (alone : Alone) (xs ys : List Own.Call)
      → answers_of atom seals alone (xs ++ ys)
      ≡ answers_of atom seals alone xs ++ answers_of atom seals (alone_of atom seals alone xs) ys
  unfolding alone_of answers_of
  answers-joined alone [] ys = refl
  answers-joined alone (x ∷ xs) ys =
      let next = alone_after atom seals alone x.event x.outcome in
      rw (answers-joined next xs ys) (sym (append_assoc (answered_alone atom alone x.event x.outcome)
      (answers_of atom seals next xs) (answers_of atom seals (alone_of atom seals next xs) ys)))

tagged-joined : (xs ys : List Answered) (first rest : List Tagged) → AreTagged xs first
    → AreTagged ys rest → AreTagged (xs ++ ys) (first ++ rest)
unfolding AreTagged
tagged-joined [] ys [] rest are_first are_rest = are_rest
tagged-joined [] ys (tagged ∷ first) rest are_first are_rest = absurd are_first
tagged-joined (x ∷ xs) ys [] rest are_first are_rest = absurd are_first
tagged-joined (x ∷ xs) ys (tagged ∷ first) rest (is, session, are_first) are_rest =
    (is, session, tagged-joined xs ys first rest are_first are_rest)

module _ {K : Type 0} (seals : Seals) (start : State K) where
  -- the lane after one more call, and after many
  pub alone-more : (calls : List (Call SharedEvent SharedOutcome)) (number : ℕ)
      (called : Plans.Call) (answer : Answer)
      → alone_by seals start (calls ++ answered_call number called answer ∷ [])
      ≡ alone_after start.map.atom seals (alone_by seals start calls) (event_of number called)
      (outcome_of answer)
  unfolding alone_of own_calls
  alone-more calls number called answer =
      ap (λ (cs : List Own.Call). alone_of start.map.atom seals idle_lane cs)
      (own-append calls (answered_call number called answer ∷ []))
      ∙ alone-joined start.map.atom seals idle_lane (own_calls calls)
      (own_calls (answered_call number called answer ∷ []))

  alone-many : (calls more : List (Call SharedEvent SharedOutcome))
      → alone_by seals start (calls ++ more)
      ≡ alone_of start.map.atom seals (alone_by seals start calls) (own_calls more)
  alone-many calls more =
      ap (λ (cs : List Own.Call). alone_of start.map.atom seals idle_lane cs)
      (own-append calls more)
      ∙ alone-joined start.map.atom seals idle_lane (own_calls calls) (own_calls more)

  -- where no call was made nothing was answered
  pub answered-none : (calls : List (Call SharedEvent SharedOutcome))
      → HasAnswered seals start calls calls []
  unfolding answers_of AreTagged own_calls
  answered-none calls = record { more = []; is = sym (append-nil calls); answered = tt }

  -- first some and then others
  pub answered-joined : (old mid new : List (Call SharedEvent SharedOutcome)) (first rest : List Tagged)
      → HasAnswered seals start old mid first → HasAnswered seals start mid new rest
      → HasAnswered seals start old new (first ++ rest)
  answered-joined old mid new first rest one two =
      let all : own_calls (one.more ++ two.more)
      ≡ own_calls one.more ++ own_calls two.more =
      own-append one.more two.more in
      let behind : alone_by seals start mid
      ≡ alone_of start.map.atom seals (alone_by seals start old) (own_calls one.more) =
      ap (alone_by seals start) one.is ∙ alone-many old one.more in
      let answers : answers_of start.map.atom seals (alone_by seals start old)
      (own_calls (one.more ++ two.more))
      ≡ answers_of start.map.atom seals (alone_by seals start old) (own_calls one.more)
      ++ answers_of start.map.atom seals (alone_by seals start mid) (own_calls two.more) =
      ap (answers_of start.map.atom seals (alone_by seals start old)) all
      ∙ (answers-joined start.map.atom seals (alone_by seals start old) (own_calls one.more)
      (own_calls two.more)
      ∙ ap (λ (a : Alone). answers_of start.map.atom seals (alone_by seals start old)
      (own_calls one.more) ++ answers_of start.map.atom seals a (own_calls two.more))
      (sym behind)) in
      record {
        more = one.more ++ two.more;
        is = two.is ∙ (ap (λ l. l ++ two.more) one.is ∙ append_assoc old one.more two.more);
        answered = subst (λ (l : List Answered). AreTagged l (first ++ rest)) (sym answers)
            (tagged-joined _ _ first rest one.answered two.answered);
      }

  -- one call, by what it answered
  pub answered-one : (calls : List (Call SharedEvent SharedOutcome)) (number : ℕ)
      (called : Plans.Call) (answer : Answer) (history : List Tagged)
      → AreTagged (answered_alone start.map.atom (alone_by seals start calls) (event_of number called)
      (outcome_of answer)) history
      → HasAnswered seals start calls (calls ++ answered_call number called answer ∷ []) history
  unfolding answers_of own_calls
  answered-one calls number called answer history are = record {
    more = answered_call number called answer ∷ [];
    is = refl;
    answered = subst (λ (l : List Answered). AreTagged l history)
        (sym (append-nil (answered_alone start.map.atom (alone_by seals start calls) (event_of number called)
        (outcome_of answer)))) are;
  }
