-- When operations fail and volumes break, and the count of faults behind it.
use Rattle.std.proofs.Common.{Bool, List, None, Option, Some, [], ap, arith, false, inl, inr}
use Rattle.std.proofs.Common.{nat_eq, refl, sym, true, ℕ, ◌||◌, ◌∙◌, ◌∷◌, ◌≡◌, ◌≤◌}
use Rattle.std.proofs.lemmas.Bool.{cases_Bool as either}
use Rattle.base_terms.specs.Causes.{Rose}
use Rattle.volume_machine.specs.Alone.{after_edge, after_got, after_put, after_sync, open_after}
use Rattle.volume_machine.specs.Asks.{has_lock}
use Rattle.volume_machine.specs.Beginnings.{IsFresh}
use Rattle.volume_machine.specs.Effects.{breaks, is_fault}
use Rattle.volume_machine.specs.Events.{Event, Outcome, admits, asks, broken, device, done, got}
use Rattle.volume_machine.specs.Events.{fetches, held, lane_of, reads, settles, waits, writes}
use Rattle.volume_machine.specs.Runs.{Happening, IsRun, last_of}
use Rattle.volume_machine.specs.States.{State, begun, open_at}
use Rattle.volume_machine.specs.Steps.{Meets, after_settle, Can, Step}
use Rattle.std.proofs.Math.Bool.{or-false, or-true}
use Rattle.volume_machine.specs.declared.open.Open.{Open}
use Rattle.volume_machine.proofs.EventEffects.{event_effects}
use Rattle.volume_laws.specs.Executing.{BreaksByFaults}
use Rattle.volume_laws.specs.Promises.{GoesByEvents, breaks_in, fails, fails_in, has_failed_by}
use Rattle.volume_laws.specs.Promises.{is_failure}

-- an operation after an outcome
got_fails : (atom : ℕ) (outcome : Outcome) (o : Open) →
    (after_got atom outcome o).failed ≡ (o.failed || is_failure outcome)
got_fails atom (got sealed) o = sym (or-false o.failed)
got_fails atom device o = sym (or-true o.failed)
got_fails atom broken o = sym (or-true o.failed)
got_fails atom _ o = sym (or-false o.failed)

edge_fails : (outcome : Outcome) (o : Open) →
    (after_edge outcome o).failed ≡ (o.failed || is_failure outcome)
edge_fails (got sealed) o = sym (or-false o.failed)
edge_fails device o = sym (or-true o.failed)
edge_fails broken o = sym (or-true o.failed)
edge_fails _ o = sym (or-false o.failed)

put_fails : (atom : ℕ) (sealed : List ℕ) (outcome : Outcome) (o : Open) →
    (after_put atom sealed outcome o).failed ≡ (o.failed || is_failure outcome)
put_fails atom sealed done o = sym (or-false o.failed)
put_fails atom sealed device o = sym (or-true o.failed)
put_fails atom sealed broken o = sym (or-true o.failed)
put_fails atom sealed _ o = sym (or-false o.failed)

sync_fails : (outcome : Outcome) (o : Open) →
    (after_sync outcome o).failed ≡ (o.failed || is_failure outcome)
sync_fails done o = sym (or-false o.failed)
sync_fails device o = sym (or-true o.failed)
sync_fails broken o = sym (or-true o.failed)
sync_fails _ o = sym (or-false o.failed)

pub settled_is : (q now p : Open) → after_settle q now ≡ Some p → p ≡ now
settled_is q now p is = elim (either (has_lock q.ask)) [
  | inl has ↦ let e : after_settle q now ≡ Some now = rw has refl in cc
  | inr free ↦ absurd (let e : after_settle q now ≡ None = rw free refl in cc)
]

-- the lane of the event
own_fails : {K : Type 0} (old : State K) (event : Event) (outcome : Outcome) (now : Option Open)
    (before : Bool) → open_at old.lanes (lane_of event) ≡ now → Meets old event → ((p : Open)
    → now ≡ Some p → p.failed ≡ before) → (o : Open) → open_after old.map.atom event outcome now
    ≡ Some o → o.failed ≡ has_failed_by event outcome before
unfolding Can
own_fails old (admits lane session ask) (held grant) now before at meets was o is =
    ap (λ x. x.failed) (let e : o ≡ begun old.map.atom session ask = cc in e)
own_fails old (admits lane session ask) (waits other) now before at meets was o is =
    ap (λ x. x.failed) (let e : o ≡ begun old.map.atom session ask = cc in e)
own_fails old (admits lane session ask) _ now before at meets was o is =
    absurd (let none = meets.can in cc)
own_fails old (asks lane) outcome now before at meets was o is = was o is
own_fails old (reads lane len) outcome (Some q) before at meets was o is =
    let e : o ≡ after_got old.map.atom outcome q = cc in ap (λ x. x.failed) e
    ∙ got_fails old.map.atom outcome q ∙ ap (λ b. b || is_failure outcome) (was q refl)
own_fails old (fetches lane which) outcome (Some q) before at meets was o is =
    let e : o ≡ after_edge outcome q = cc in ap (λ x. x.failed) e
    ∙ edge_fails outcome q ∙ ap (λ b. b || is_failure outcome) (was q refl)
own_fails old (writes lane sealed) outcome (Some q) before at meets was o is =
    let e : o ≡ after_put old.map.atom sealed outcome q = cc in ap (λ x. x.failed) e
    ∙ put_fails old.map.atom sealed outcome q ∙ ap (λ b. b || is_failure outcome) (was q refl)
own_fails old (settles lane) outcome (Some q) before at meets was o is =
    ap (λ x. x.failed) (settled_is q (after_sync outcome q) o is) ∙ sync_fails outcome q
    ∙ ap (λ b. b || is_failure outcome) (was q refl)
own_fails old _ outcome now before at meets was o is = absurd (cc)

event_fails : {K : Type 0} (old new : State K) (lane : ℕ) (event : Event) (outcome : Outcome)
    (before : Bool) → Meets old event → Step old event outcome new →
    ((p : Open) → open_at old.lanes lane ≡ Some p → p.failed ≡ before) → (o : Open) →
    open_at new.lanes lane ≡ Some o → o.failed ≡ fails lane event outcome before
event_fails old new lane event outcome before meets step was o is =
    let goes = event_effects old new event outcome step in
    elim (either (nat_eq (lane_of event) lane)) [
      | inl own ↦
          let e : lane_of event ≡ lane = grind (arith, own) in
          own_fails old event outcome _ before refl meets (λ p at. was p (rw (← e) at)) o
          (sym goes.lane_is.own ∙ ap (λ n. open_at new.lanes n) e ∙ is) ∙ sym (rw own refl)
      | inr other ↦ was o (sym (goes.lane_is.others lane (λ same. grind (arith, same, other))) ∙ is)
          ∙ sym (rw other refl)
    ]

run_fails : {K : Type 0} (old : State K) (lane : ℕ) (before : Bool) (run : List (Happening K)) →
    IsRun old run → ((p : Open) → open_at old.lanes lane ≡ Some p → p.failed ≡ before) →
    (o : Open) → open_at (last_of old run).lanes lane ≡ Some o → o.failed ≡ fails_in lane before run
unfolding IsRun last_of fails_in
run_fails old lane before [] is was o at = was o at
run_fails old lane before (one ∷ rest) (meets, step, is) was o at =
    run_fails one.after lane (fails lane one.event one.outcome before) rest is
    (event_fails old one.after lane one.event one.outcome before meets step was) o at

-- the volume as a whole
record WholeRun {K : Type 0} (old : State K) (before : Bool)
    (run : List (Happening K)) : Type 0 where
  broken_is : (last_of old run).broken ≡ breaks_in before run
  map_is : (last_of old run).map ≡ old.map
  keys_are : (last_of old run).keys ≡ old.keys
  work_is : (last_of old run).work ≡ old.work

whole_run : {K : Type 0} (old : State K) (before : Bool) (run : List (Happening K)) →
    old.broken ≡ before → IsRun old run → WholeRun old before run
unfolding IsRun last_of breaks_in
whole_run old before [] was is =
    record { broken_is = was; map_is = refl; keys_are = refl; work_is = refl }
whole_run old before (one ∷ rest) was (meets, step, is) =
    let goes = event_effects old one.after one.event one.outcome step in
    let rest_is = whole_run one.after (before || breaks one.event one.outcome) rest (goes.broken_is
    ∙ ap (λ b. b || breaks one.event one.outcome) was) is in
    record {
      broken_is = rest_is.broken_is;
      map_is = rest_is.map_is ∙ goes.map;
      keys_are = rest_is.keys_are ∙ goes.keys;
      work_is = rest_is.work_is ∙ goes.work;
    }

pub goes_by_events : {K : Type 0} (start : State K) (run : List (Happening K)) → IsFresh start →
    IsRun start run → GoesByEvents start run
goes_by_events start run fresh is =
    let whole = whole_run start start.broken run refl is in record {
      fails = λ lane. run_fails start lane false run is
          (λ p at. absurd (let none = fresh.lanes lane in cc));
      breaks = whole.broken_is;
      map = whole.map_is;
      keys = whole.keys_are;
      work = whole.work_is;
    }

-- the count of faults doesn't fall
pub faults_run : {K : Type 0} (start : State K) (run : List (Happening K)) → IsRun start run
    → start.disk.faults ≤ (last_of start run).disk.faults
unfolding IsRun last_of
faults_run start [] is = omega arith
faults_run start (one ∷ rest) (meets, step, is) =
    let first = (event_effects start one.after one.event one.outcome step).disk.later in
    omega (arith, faults_run one.after rest is)

-- a write or a sync that failed is a fault
breaks_is_fault : (event : Event) (outcome : Outcome) → breaks event outcome ≡ true
    → is_fault outcome ≡ true
breaks_is_fault (writes lane bytes) outcome is = is
breaks_is_fault (settles lane) outcome is = is
breaks_is_fault _ outcome is = absurd (cc)

-- a count that rose in a part of a run rose in the whole
rose_within : (before here later now : ℕ) → before ≤ here → Rose here later → later ≤ now
    → Rose before now
rose_within before here later now first (inl rose) behind = inl (omega arith)
rose_within before here later now first (inr last) behind = inr (omega arith)

rose_run : {K : Type 0} (start : State K) (run : List (Happening K)) → start.broken ≡ false
    → IsRun start run → (last_of start run).broken ≡ true →
    Rose start.disk.faults (last_of start run).disk.faults
unfolding IsRun last_of
rose_run start [] whole is broke = absurd (cc)
rose_run start (one ∷ rest) whole (meets, step, is) broke =
    let first = (event_effects start one.after one.event one.outcome step).disk.later in
    let behind = faults_run one.after rest is in
    let goes = event_effects start one.after one.event one.outcome step in
    let breaks_so : one.after.broken ≡ breaks one.event one.outcome =
    goes.broken_is ∙ ap (λ b. b || breaks one.event one.outcome) whole in
    elim (either (breaks one.event one.outcome)) [
      | inl fault ↦ rose_within start.disk.faults
          start.disk.faults one.after.disk.faults (last_of one.after rest).disk.faults
          (omega arith) (goes.disk.rose (breaks_is_fault one.event one.outcome fault)) behind
      | inr still ↦ rose_within start.disk.faults one.after.disk.faults
          (last_of one.after rest).disk.faults (last_of one.after rest).disk.faults
          first (rose_run one.after rest (breaks_so ∙ still) is broke) (omega arith)
    ]

pub breaks_by_faults : {K : Type 0} (start : State K) (run : List (Happening K)) → IsFresh start
    → IsRun start run → BreaksByFaults start run
breaks_by_faults start run fresh is = rose_run start run fresh.unbroken is
