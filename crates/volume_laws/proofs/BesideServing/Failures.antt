-- When operations of clients fail and volumes break in a history of deeds, and the count of faults behind
-- it.
use Rattle.std.proofs.Common.{Bool, List, None, Option, Some, [], ap, arith, false, inl, inr}
use Rattle.std.proofs.Common.{nat_eq, refl, subst, sym, true, ℕ, ◌||◌, ◌++◌, ◌∙◌, ◌∷◌, ◌≡◌, ◌≢◌}
use Rattle.std.proofs.Common.{◌≤◌, ◌⊎◌, ◌<◌, suc}
use Rattle.std.proofs.lemmas.Bool.{cases_Bool as either}
use Rattle.base_terms.specs.Causes.{Rose}
use Rattle.volume_machine.specs.Alone.{after_edge, after_got, after_put, after_sync, open_after}
use Rattle.volume_machine.specs.Asks.{has_lock}
use Rattle.volume_machine.specs.Effects.{breaks, is_fault}
use Rattle.volume_machine.specs.Events.{Event, Outcome, admits, asks, broken, device, done, got}
use Rattle.volume_machine.specs.Events.{fetches, held, lane_of, reads, settles, waits, writes}
use Rattle.volume_machine.specs.Seals.{Seals}
use Rattle.volume_machine.specs.States.{State, begun, open_at, IsClient}
use Rattle.volume_machine.specs.Steps.{Meets, after_settle, Can, Step}
use Rattle.std.proofs.Math.Bool.{or-false, or-true}
use Rattle.std.specs.Prelude.{IsSome}
use Rattle.volume_laws.specs.BesideLanes.Lanes.{BeginsBeside, IsKept, StaysSame}
use Rattle.volume_machine.specs.declared.open.Open.{Open}
use Rattle.volume_machine.proofs.EventEffects.{event_effects}
use Rattle.volume_machine.proofs.Soundness.{sound_kept}
use Rattle.volume_machine.specs.Deeds.{Act, AreDeeds, Deed, Does, client, state_after, worker}
use Rattle.volume_machine.specs.Readings.{Reading}
use Rattle.volume_machine.specs.WorkSteps.{WorkStep, Worked, awaits, faulted, finished}
use Rattle.volume_machine.specs.WorkSteps.{hindered, stepped, was_broken}
use Rattle.volume_laws.proofs.VolumesKept.{event_in_order, step_in_order}
use Rattle.volume_laws.proofs.WorkFaults.{goes_by_answer}
use Rattle.volume_laws.specs.Converting.{IsInOrder}
use Rattle.volume_laws.specs.Promises.{fails, has_failed_by, is_failure}
use Rattle.volume_laws.proofs.BesideLanes.Beside.{work-some}
use Rattle.volume_laws.proofs.BesideLanes.ClientsLeft.{clients_left, stays_same}
use Rattle.volume_laws.proofs.BesideServing.WorkCalls.{work_called}
use Rattle.volume_laws.specs.BesideServing.Failing.{AreBreaking, BreaksBy, BreaksByFaults, FaultsRaise}
use Rattle.volume_laws.specs.BesideServing.Failing.{GoesByDeeds}
use Rattle.volume_laws.specs.BesideServing.Failing.{fails_by, fails_over}

-- an operation after an outcome
got_fails : (atom : ℕ) (outcome : Outcome) (o : Open) →
    (after_got atom outcome o).failed ≡ (o.failed || is_failure outcome)
got_fails atom (got sealed) o = sym (or-false o.failed)
got_fails atom device o = sym (or-true o.failed)
got_fails atom broken o = sym (or-true o.failed)
got_fails atom _ o = sym (or-false o.failed)

edge_fails : (outcome : Outcome) (o : Open) →
    (after_edge outcome o).failed ≡ (o.failed || is_failure outcome)
edge_fails (got sealed) o = sym (or-false o.failed)
edge_fails device o = sym (or-true o.failed)
edge_fails broken o = sym (or-true o.failed)
edge_fails _ o = sym (or-false o.failed)

put_fails : (atom : ℕ) (sealed : List ℕ) (outcome : Outcome) (o : Open) →
    (after_put atom sealed outcome o).failed ≡ (o.failed || is_failure outcome)
put_fails atom sealed done o = sym (or-false o.failed)
put_fails atom sealed device o = sym (or-true o.failed)
put_fails atom sealed broken o = sym (or-true o.failed)
put_fails atom sealed _ o = sym (or-false o.failed)

sync_fails : (outcome : Outcome) (o : Open) →
    (after_sync outcome o).failed ≡ (o.failed || is_failure outcome)
sync_fails done o = sym (or-false o.failed)
sync_fails device o = sym (or-true o.failed)
sync_fails broken o = sym (or-true o.failed)
sync_fails _ o = sym (or-false o.failed)

pub settled_is : (q now p : Open) → after_settle q now ≡ Some p → p ≡ now
settled_is q now p is = elim (either (has_lock q.ask)) [
  | inl has ↦ let e : after_settle q now ≡ Some now = rw has refl in cc
  | inr free ↦ absurd (let e : after_settle q now ≡ None = rw free refl in cc)
]

-- the lane of the event
own_fails : {K : Type 0} (old : State K) (event : Event) (outcome : Outcome) (now : Option Open)
    (before : Bool) → open_at old.lanes (lane_of event) ≡ now → Meets old event → ((p : Open)
    → now ≡ Some p → p.failed ≡ before) → (o : Open) → open_after old.map.atom event outcome now
    ≡ Some o → o.failed ≡ has_failed_by event outcome before
unfolding Can
own_fails old (admits lane session ask) (held grant) now before at meets was o is =
    ap (λ x. x.failed) (let e : o ≡ begun old.map.atom session ask = cc in e)
own_fails old (admits lane session ask) (waits other) now before at meets was o is =
    ap (λ x. x.failed) (let e : o ≡ begun old.map.atom session ask = cc in e)
own_fails old (admits lane session ask) _ now before at meets was o is =
    absurd (let none = meets.can in cc)
own_fails old (asks lane) outcome now before at meets was o is = was o is
own_fails old (reads lane len) outcome (Some q) before at meets was o is =
    let e : o ≡ after_got old.map.atom outcome q = cc in ap (λ x. x.failed) e
    ∙ got_fails old.map.atom outcome q ∙ ap (λ b. b || is_failure outcome) (was q refl)
own_fails old (fetches lane which) outcome (Some q) before at meets was o is =
    let e : o ≡ after_edge outcome q = cc in ap (λ x. x.failed) e
    ∙ edge_fails outcome q ∙ ap (λ b. b || is_failure outcome) (was q refl)
own_fails old (writes lane sealed) outcome (Some q) before at meets was o is =
    let e : o ≡ after_put old.map.atom sealed outcome q = cc in ap (λ x. x.failed) e
    ∙ put_fails old.map.atom sealed outcome q ∙ ap (λ b. b || is_failure outcome) (was q refl)
own_fails old (settles lane) outcome (Some q) before at meets was o is =
    ap (λ x. x.failed) (settled_is q (after_sync outcome q) o is) ∙ sync_fails outcome q
    ∙ ap (λ b. b || is_failure outcome) (was q refl)
own_fails old _ outcome now before at meets was o is = absurd (cc)

event_fails : {K : Type 0} (old new : State K) (lane : ℕ) (event : Event) (outcome : Outcome)
    (before : Bool) → Meets old event → Step old event outcome new →
    ((p : Open) → open_at old.lanes lane ≡ Some p → p.failed ≡ before) → (o : Open) →
    open_at new.lanes lane ≡ Some o → o.failed ≡ fails lane event outcome before
event_fails old new lane event outcome before meets step was o is =
    let goes = event_effects old new event outcome step in
    elim (either (nat_eq (lane_of event) lane)) [
      | inl own ↦
          let e : lane_of event ≡ lane = grind (arith, own) in
          own_fails old event outcome _ before refl meets (λ p at. was p (rw (← e) at)) o
          (sym goes.lane_is.own ∙ ap (λ n. open_at new.lanes n) e ∙ is) ∙ sym (rw own refl)
      | inr other ↦ was o (sym (goes.lane_is.others lane (λ same. grind (arith, same, other))) ∙ is)
          ∙ sym (rw other refl)
    ]

-- a write or a sync that failed is a fault
breaks_is_fault : (event : Event) (outcome : Outcome) → breaks event outcome ≡ true
    → is_fault outcome ≡ true
breaks_is_fault (writes lane bytes) outcome is = is
breaks_is_fault (settles lane) outcome is = is
breaks_is_fault _ outcome is = absurd (cc)

-- a count that rose in a part of a run rose in the whole
rose_within : (before here later now : ℕ) → before ≤ here → Rose here later → later ≤ now
    → Rose before now
rose_within before here later now first (inl rose) behind = inl (omega arith)
rose_within before here later now first (inr last) behind = inr (omega arith)

-- ---- what holds between two deeds
module _ {K : Type 0} (reading : Reading) (seals : Seals) (old new : State K) where
  pub in_order : (worked : Worked) → IsKept reading old → WorkStep reading seals old new worked
      → IsInOrder reading old
  in_order worked kept step = kept.order (work-some step)

  pub kept_on : (act : Act) → IsKept reading old → Does reading seals old act new
      → IsKept reading new
  kept_on (client event outcome) kept (meets, step) =
      let goes = event_effects old new event outcome step in record {
        sound = sound_kept old new event outcome kept.sound meets step;
        order = λ some. event_in_order reading old new event outcome
            (kept.order (subst (λ w. IsSome w) goes.work some)) meets step;
      }
  kept_on (worker worked) kept step =
      let order = step_in_order reading seals old new worked (in_order worked kept step) step in
      record { sound = order.sound; order = λ some. order }

  pub same_on : (act : Act) → IsKept reading old → Does reading seals old act new
      → StaysSame old new
  same_on (client event outcome) kept (meets, step) =
      let goes = event_effects old new event outcome step in record {
        lanes = goes.lane_is.count;
        atom = ap (λ m. m.atom) goes.map;
        blocks = ap (λ m. m.blocks) goes.map;
        keys = goes.keys;
      }
  same_on (worker worked) kept step = stays_same reading seals old new worked
      (in_order worked kept step) step

  pub faults_on : (act : Act) → Does reading seals old act new
      → old.disk.faults ≤ new.disk.faults
  faults_on (client event outcome) (meets, step) =
      (event_effects old new event outcome step).disk.later
  faults_on (worker worked) step = (work_called step).later

  -- an operation of a lane of clients
  fails_on : (lane : ℕ) (act : Act) (before : Bool) → IsKept reading old → IsClient old lane
      → Does reading seals old act new
      → ((p : Open) → open_at old.lanes lane ≡ Some p → p.failed ≡ before) → (o : Open)
      → open_at new.lanes lane ≡ Some o → o.failed ≡ fails_by lane act before
  fails_on lane (client event outcome) before kept own (meets, step) was o is =
      event_fails old new lane event outcome before meets step was o is
  fails_on lane (worker worked) before kept own step was o is =
      was o (sym (clients_left reading seals old new worked lane (in_order worked kept step) step
      own).own ∙ is)

  -- what breaks the volume
  stays_broken : (act : Act) → Does reading seals old act new → old.broken ≡ true
      → new.broken ≡ true
  stays_broken (client event outcome) (meets, step) was =
      (event_effects old new event outcome step).broken_is
      ∙ ap (λ b. b || breaks event outcome) was
  stays_broken (worker worked) step was = ((goes_by_answer reading seals worked step).leaves was).1

  is_faulted : (worked : Worked) → (worked ≡ faulted) ⊎ (worked ≢ faulted)
  is_faulted stepped = inr (λ e. cc)
  is_faulted (awaits lane) = inr (λ e. cc)
  is_faulted finished = inr (λ e. cc)
  is_faulted faulted = inl refl
  is_faulted (hindered cause) = inr (λ e. cc)
  is_faulted was_broken = inr (λ e. cc)

  pub broken_by : (act : Act) → Does reading seals old act new → new.broken ≡ true
      → (old.broken ≡ true) ⊎ BreaksBy act new
  broken_by (client event outcome) (meets, step) is =
      one_of old.broken (breaks event outcome)
      (sym (event_effects old new event outcome step).broken_is ∙ is)
    where
      one_of : (a b : Bool) → a || b ≡ true → (a ≡ true) ⊎ (b ≡ true)
      one_of true b both = inl refl
      one_of false b both = inr both
  broken_by (worker worked) step is = elim (is_faulted worked) [
    | inl fault ↦ inr (fault, is)
    | inr other ↦ inl (sym ((goes_by_answer reading seals worked step).others other) ∙ is)
  ]

  breaks_so : (act : Act) → Does reading seals old act new → BreaksBy act new → new.broken ≡ true
  breaks_so (client event outcome) (meets, step) is =
      (event_effects old new event outcome step).broken_is
      ∙ ap (λ b. old.broken || b) is ∙ or-true old.broken
  breaks_so (worker worked) step is = is.1

  pub rose_by : (act : Act) → Does reading seals old act new → BreaksBy act new
      → Rose old.disk.faults new.disk.faults
  rose_by (client event outcome) (meets, step) is =
      (event_effects old new event outcome step).disk.rose (breaks_is_fault event outcome is)
  rose_by (worker worked) step is = (goes_by_answer reading seals worked step).rose is.0

same_twice : {K : Type 0} {old mid new : State K} → StaysSame old mid → StaysSame mid new
    → StaysSame old new
same_twice first later = record {
  lanes = later.lanes ∙ first.lanes;
  atom = later.atom ∙ first.atom;
  blocks = later.blocks ∙ first.blocks;
  keys = later.keys ∙ first.keys;
}

-- ---- deeds
module _ {K : Type 0} (reading : Reading) (seals : Seals) where
  pub deeds_kept : (old : State K) (deeds : List (Deed K)) → IsKept reading old
      → AreDeeds reading seals old deeds → IsKept reading (state_after old deeds)
  unfolding AreDeeds state_after
  deeds_kept old [] kept are = kept
  deeds_kept old (one ∷ rest) kept (does, are) =
      deeds_kept one.after rest (kept_on reading seals old one.after one.act kept does) are

  pub deeds_same : (old : State K) (deeds : List (Deed K)) → IsKept reading old
      → AreDeeds reading seals old deeds → StaysSame old (state_after old deeds)
  unfolding AreDeeds state_after
  deeds_same old [] kept are = record { lanes = refl; atom = refl; blocks = refl; keys = refl }
  deeds_same old (one ∷ rest) kept (does, are) =
      same_twice (same_on reading seals old one.after one.act kept does)
      (deeds_same one.after rest (kept_on reading seals old one.after one.act kept does) are)

  pub deeds_later : (old : State K) (deeds : List (Deed K)) → AreDeeds reading seals old deeds
      → old.disk.faults ≤ (state_after old deeds).disk.faults
  unfolding AreDeeds state_after
  deeds_later old [] are = omega arith
  deeds_later old (one ∷ rest) (does, are) =
      let first = faults_on reading seals old one.after one.act does in
      let behind = deeds_later one.after rest are in omega (arith, first, behind)

  deeds_fail : (old : State K) (lane : ℕ) (before : Bool) (deeds : List (Deed K))
      → IsKept reading old → IsClient old lane → AreDeeds reading seals old deeds
      → ((p : Open) → open_at old.lanes lane ≡ Some p → p.failed ≡ before) → (o : Open)
      → open_at (state_after old deeds).lanes lane ≡ Some o → o.failed ≡ fails_over lane before deeds
  unfolding AreDeeds state_after fails_over
  deeds_fail old lane before [] kept own are was o at = was o at
  deeds_fail old lane before (one ∷ rest) kept own (does, are) was o at =
      let same = same_on reading seals old one.after one.act kept does in
      deeds_fail one.after lane (fails_by lane one.act before) rest
      (kept_on reading seals old one.after one.act kept does)
      (subst (λ n. suc lane < n) (sym same.lanes) own) are
      (fails_on reading seals old one.after lane one.act before kept own does was) o at

  -- ---- whether it is broken
  deeds_broken : (old : State K) (deeds : List (Deed K)) → AreDeeds reading seals old deeds
      → old.broken ≡ true → (state_after old deeds).broken ≡ true
  unfolding AreDeeds state_after
  deeds_broken old [] are was = was
  deeds_broken old (one ∷ rest) (does, are) was =
      deeds_broken one.after rest are (stays_broken reading seals old one.after one.act does was)

  breaking_later : (one : Deed K) (rest : List (Deed K)) → AreBreaking rest
      → AreBreaking (one ∷ rest)
  breaking_later one rest it = record {
    earlier = one ∷ it.earlier;
    one = it.one;
    later = it.later;
    parts = ap (λ d. one ∷ d) it.parts;
    breaks = it.breaks;
  }

  breaks_where : (old : State K) (deeds : List (Deed K)) → AreDeeds reading seals old deeds
      → (state_after old deeds).broken ≡ true → (old.broken ≡ true) ⊎ AreBreaking deeds
  unfolding AreDeeds state_after
  breaks_where old [] are is = inl is
  breaks_where old (one ∷ rest) (does, are) is = elim (breaks_where one.after rest are is) [
    | inl here ↦ elim (broken_by reading seals old one.after one.act does here) [
      | inl was ↦ inl was
      | inr by ↦ inr (record { earlier = []; one = one; later = rest; parts = refl; breaks = by })
    ]
    | inr later ↦ inr (breaking_later one rest later)
  ]

  breaks_there : (old : State K) (earlier : List (Deed K)) (one : Deed K) (later : List (Deed K))
      → AreDeeds reading seals old (earlier ++ one ∷ later) → BreaksBy one.act one.after
      → (state_after old (earlier ++ one ∷ later)).broken ≡ true
  unfolding AreDeeds state_after
  breaks_there old [] one later (does, are) is =
      deeds_broken one.after later are (breaks_so reading seals old one.after one.act does is)
  breaks_there old (first ∷ earlier) one later (does, are) is =
      breaks_there first.after earlier one later are is

  pub goes_by_deeds : (start : State K) (deeds : List (Deed K)) → BeginsBeside reading start
      → AreDeeds reading seals start deeds → GoesByDeeds start deeds
  goes_by_deeds start deeds begins_so are = record {
    fails = λ lane o own. deeds_fail start lane false deeds begins_so.kept own are
        (λ p at. absurd (let none = begins_so.idle lane in cc)) o;
    breaks = (
      breaks_where start deeds are,
      λ so. elim so [
        | inl was ↦ deeds_broken start deeds are was
        | inr it ↦ subst (λ d. (state_after start d).broken ≡ true) (sym it.parts)
            (breaks_there start it.earlier it.one it.later
            (subst (AreDeeds reading seals start) it.parts are) it.breaks)
      ],
    );
    same = deeds_same start deeds begins_so.kept are;
  }

  rose_deeds : (start : State K) (deeds : List (Deed K)) → AreDeeds reading seals start deeds
      → BreaksByFaults start deeds
  unfolding AreDeeds state_after
  rose_deeds start [] are whole broke = absurd (cc)
  rose_deeds start (one ∷ rest) (does, are) whole broke =
      let first = faults_on reading seals start one.after one.act does in
      let behind = deeds_later one.after rest are in
      elim (either one.after.broken) [
        | inl here ↦ elim (broken_by reading seals start one.after one.act does here) [
          | inl was ↦ absurd (let both : true ≡ false = sym was ∙ whole in cc)
          | inr by ↦ rose_within start.disk.faults start.disk.faults one.after.disk.faults
              (state_after one.after rest).disk.faults (omega arith)
              (rose_by reading seals start one.after one.act does by) behind
        ]
        | inr still ↦ rose_within start.disk.faults one.after.disk.faults
            (state_after one.after rest).disk.faults (state_after one.after rest).disk.faults first
            (rose_deeds one.after rest are still broke) (omega arith)
      ]

  pub breaks_by_faults : (start : State K) (deeds : List (Deed K))
      → AreDeeds reading seals start deeds → BreaksByFaults start deeds
  breaks_by_faults = rose_deeds

  faults_raise : (start : State K) (earlier : List (Deed K)) (one : Deed K) (later : List (Deed K))
      → AreDeeds reading seals start (earlier ++ one ∷ later) → one.act ≡ worker faulted
      → Rose start.disk.faults (state_after start (earlier ++ one ∷ later)).disk.faults
  unfolding AreDeeds state_after
  faults_raise start [] one later (does, are) is =
      let step : WorkStep reading seals start one.after faulted = rw is at does in
      let behind = deeds_later one.after later are in
      rose_within start.disk.faults start.disk.faults one.after.disk.faults
      (state_after one.after later).disk.faults (omega arith)
      ((goes_by_answer reading seals faulted step).rose refl) behind
  faults_raise start (first ∷ earlier) one later (does, are) is =
      let end = state_after first.after (earlier ++ one ∷ later) in
      rose_within start.disk.faults first.after.disk.faults end.disk.faults end.disk.faults
      (faults_on reading seals start first.after first.act does)
      (faults_raise first.after earlier one later are is) (omega arith)

  pub raised_by_faults : (start : State K) (deeds : List (Deed K))
      → AreDeeds reading seals start deeds → FaultsRaise start deeds
  raised_by_faults start deeds are earlier later one parts is =
      subst (λ d. Rose start.disk.faults (state_after start d).disk.faults) (sym parts)
      (faults_raise start earlier one later (subst (AreDeeds reading seals start) parts are) is)
