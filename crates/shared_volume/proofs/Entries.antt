-- Entries of a history, and the deeds that they tell.
use Rattle.std.proofs.Common.{◌≡◌, ◌≢◌, ℕ, suc, inl, inr, Bool, true, false, List, [], ◌∷◌}
use Rattle.std.proofs.Common.{◌++◌, append_assoc, nat_eq, refl, sym, ap, ◌∙◌, arith}
use Rattle.std.proofs.lemmas.Slice.Eq.{bytes_eq-Decides}
use Rattle.lane_plan.specs.Calls.{event_of}
use Rattle.lane_plan.specs.declared.calls.Call as Plans
use Rattle.lane_plan.specs.declared.calls.Call.TheVariants as Calls
use Rattle.volume_laws.specs.BesideLanes.Lanes.{call_in, calls_over, work_in, works_over}
use Rattle.shared_volume.specs.Histories.{IsDeedOf, IsEntryOf, Tells, event_by, lane_by, own_by}
use Rattle.shared_volume.specs.Histories.{own_calls}
use Rattle.shared_volume.specs.Serving.{work_by, works_in}
use Rattle.shared_volume.specs.declared.asking.SharedEvent.{SharedEvent}
use Rattle.shared_volume.specs.declared.asking.SharedEvent.TheVariants as Events
use Rattle.shared_volume.specs.declared.asking.SharedOutcome.{SharedOutcome}
use Rattle.shared_volume.specs.declared.asking.SharedOutcome.TheVariants as Outcomes
use Rattle.volume_cell.specs.declared.history.Call.{Call}
use Rattle.volume_cell.specs.declared.history.Entry.{Entry}
use Rattle.volume_cell.specs.Histories.{is_same, call_of, calls_of, entry as entry_with}
use Rattle.volume_machine.proofs.Locking.{either, same_or_not}
use Rattle.volume_machine.specs.Alone as Own
use Rattle.volume_machine.specs.Deeds.{Deed}
use Rattle.volume_machine.specs.Events.{lane_of}
use Rattle.volume_machine.specs.WorkSteps.{Worked}

-- ---- lists of calls, one behind the other
pub own-append : (xs ys : List (Call SharedEvent SharedOutcome))
    → own_calls (xs ++ ys) ≡ own_calls xs ++ own_calls ys
unfolding own_calls
own-append [] ys = refl
own-append (one ∷ xs) ys =
    ap (λ (l : List Own.Call). own_by one.event one.outcome ++ l) (own-append xs ys)
    ∙ sym (append_assoc (own_by one.event one.outcome) (own_calls xs) (own_calls ys))

pub works-append : (xs ys : List (Call SharedEvent SharedOutcome))
    → works_in (xs ++ ys) ≡ works_in xs ++ works_in ys
unfolding works_in
works-append [] ys = refl
works-append (one ∷ xs) ys =
    ap (λ (l : List Worked). work_by one.event one.outcome ++ l) (works-append xs ys)
    ∙ sym (append_assoc (work_by one.event one.outcome) (works_in xs) (works_in ys))

-- ---- names of lanes
-- a call's event is of its lane
pub lane-of : (lane : ℕ) (called : Plans.Call) → lane_of (event_of lane called) ≡ lane
lane-of lane (Calls.Admit session ask) = refl
lane-of lane Calls.Ask = refl
lane-of lane (Calls.Read buffer len) = refl
lane-of lane (Calls.Write prepared) = refl
lane-of lane Calls.Settle = refl
lane-of lane Calls.Finish = refl

same-lane : (lane : ℕ) → is_same (lane ∷ []) (lane ∷ []) ≡ true
same-lane lane = (bytes_eq-Decides (lane ∷ []) (lane ∷ [])).1 refl

other-lane : (lane other : ℕ) → lane ≢ other → is_same (lane ∷ []) (other ∷ []) ≡ false
other-lane lane other differ = decide (is_same (lane ∷ []) (other ∷ [])) refl
  where
    decide : (b : Bool) → is_same (lane ∷ []) (other ∷ []) ≡ b
        → is_same (lane ∷ []) (other ∷ []) ≡ false
    decide true is =
        let same = (bytes_eq-Decides (lane ∷ []) (other ∷ [])).0 is in absurd (differ (cc))
    decide false is = is

not-own : (own lane : ℕ) → own ≢ lane → nat_eq own lane ≡ false
not-own own lane differ = grind arith

-- ---- the calls of an entry under a lane's name are those of its deed on the lane
call-by : {K : Type 0} (lanes lane : ℕ) (name : List ℕ) (event : SharedEvent)
    (outcome : SharedOutcome) (one : Deed K) → name ≡ lane_by event ∷ []
    → IsDeedOf lanes event outcome one
    → own_calls (call_of (lane ∷ []) (entry_with name event outcome)) ≡ call_in lane one.act
unfolding own_calls
call-by lanes lane name (Events.Client asked) (Outcomes.Client answer) one named deed =
    let own : lane_of (event_by asked) ≡ asked.lane = lane-of asked.lane asked.call in
    elim (same_or_not asked.lane lane) [
      | inl here ↦
          let same : is_same (lane ∷ []) name ≡ true = rw (named, here) (same-lane lane) in
          let at : nat_eq (lane_of (event_by asked)) lane ≡ true = rw (own, here) (grind arith) in
          rw (same, deed.act, at) refl
      | inr differ ↦
          let other : is_same (lane ∷ []) name ≡ false =
          rw named (other-lane lane asked.lane (λ same. differ (sym same))) in
          let at : nat_eq (lane_of (event_by asked)) lane ≡ false =
          rw own (not-own asked.lane lane differ) in
          rw (other, deed.act, at) refl
    ]
call-by lanes lane name (Events.Worker number) (Outcomes.Worker made) one named deed =
    elim (either (is_same (lane ∷ []) name)) [
      | inl same ↦ rw (same, deed.act) refl
      | inr other ↦ rw (other, deed.act) refl
    ]
call-by lanes lane name (Events.Client asked) (Outcomes.Worker made) one named deed = absurd deed
call-by lanes lane name (Events.Worker number) (Outcomes.Client answer) one named deed = absurd deed

-- so the calls under a lane's name are the lane's own calls in the deeds
pub own-calls : {K : Type 0} (lanes : ℕ) (history : List (Entry SharedEvent SharedOutcome))
    (deeds : List (Deed K)) (lane : ℕ) → Tells lanes history deeds
    → own_calls (calls_of (lane ∷ []) history) ≡ calls_over lane deeds
unfolding Tells calls_of calls_over own_calls
own-calls lanes [] [] lane tells = refl
own-calls lanes [] (one ∷ deeds) lane tells = absurd tells
own-calls lanes (entry ∷ history) [] lane tells = absurd tells
own-calls lanes (entry ∷ history) (one ∷ deeds) lane (is, tells) =
    own-append (call_of (lane ∷ []) entry) (calls_of (lane ∷ []) history)
    ∙ (ap (λ (l : List Own.Call). l ++ own_calls (calls_of (lane ∷ []) history))
    (call-by lanes lane entry.name entry.event entry.outcome one is.lane is.deed)
    ∙ ap (λ (l : List Own.Call). call_in lane one.act ++ l)
    (own-calls lanes history deeds lane tells))

-- ---- the steps of the worker are those of the calls under the last lane's name
work-of : {K : Type 0} (lanes lane : ℕ) (name : List ℕ) (event : SharedEvent)
    (outcome : SharedOutcome) (one : Deed K) → suc lane ≡ lanes → name ≡ lane_by event ∷ []
    → IsDeedOf lanes event outcome one
    → work_in one.act ≡ works_in (call_of (lane ∷ []) (entry_with name event outcome))
unfolding works_in
work-of lanes lane name (Events.Client asked) (Outcomes.Client answer) one last named deed =
    elim (either (is_same (lane ∷ []) name)) [
      | inl same ↦ rw (same, deed.act) refl
      | inr other ↦ rw (other, deed.act) refl
    ]
work-of lanes lane name (Events.Worker number) (Outcomes.Worker made) one last named deed =
    let its = deed.last in
    let same : number ≡ lane = omega (arith, its, last) in
    let is : is_same (lane ∷ []) name ≡ true = rw (named, same) (same-lane lane) in
    rw (is, deed.act) refl
work-of lanes lane name (Events.Client asked) (Outcomes.Worker made) one last named deed =
    absurd deed
work-of lanes lane name (Events.Worker number) (Outcomes.Client answer) one last named deed =
    absurd deed

pub works-of : {K : Type 0} (lanes : ℕ) (history : List (Entry SharedEvent SharedOutcome))
    (deeds : List (Deed K)) (lane : ℕ) → suc lane ≡ lanes → Tells lanes history deeds
    → works_over deeds ≡ works_in (calls_of (lane ∷ []) history)
unfolding Tells calls_of works_over works_in
works-of lanes [] [] lane last tells = refl
works-of lanes [] (one ∷ deeds) lane last tells = absurd tells
works-of lanes (entry ∷ history) [] lane last tells = absurd tells
works-of lanes (entry ∷ history) (one ∷ deeds) lane last (is, tells) =
    ap (λ (l : List Worked). l ++ works_over deeds)
    (work-of lanes lane entry.name entry.event entry.outcome one last is.lane is.deed)
    ∙ (ap (λ (l : List Worked). works_in (call_of (lane ∷ []) entry) ++ l)
    (works-of lanes history deeds lane last tells)
    ∙ sym (works-append (call_of (lane ∷ []) entry) (calls_of (lane ∷ []) history)))

-- one more entry, and one more deed
pub tells-more : {K : Type 0} (lanes : ℕ) (history : List (Entry SharedEvent SharedOutcome))
    (deeds : List (Deed K)) (entry : Entry SharedEvent SharedOutcome) (one : Deed K)
    → Tells lanes history deeds → IsEntryOf lanes entry one
    → Tells lanes (history ++ entry ∷ []) (deeds ++ one ∷ [])
unfolding Tells
tells-more lanes [] [] entry one tells is = (is, tt)
tells-more lanes [] (other ∷ deeds) entry one tells is = absurd tells
tells-more lanes (first ∷ history) [] entry one tells is = absurd tells
tells-more lanes (first ∷ history) (other ∷ deeds) entry one (begins, tells) is =
    (begins, tells-more lanes history deeds entry one tells is)
