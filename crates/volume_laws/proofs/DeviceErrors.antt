-- Which operations are answered 5.
use Rattle.std.proofs.Common.{Bool, List, None, Option, Some, [], ap, false, if◌then◌else◌, inl}
use Rattle.std.proofs.Common.{inr, max, refl, subst, length, sym, true, ℕ, ◌*◌, ◌++◌, ◌+◌, ◌/◌, ◌↔◌}
use Rattle.std.proofs.Common.{◌∷◌, ◌≡◌}
use Rattle.std.proofs.lemmas.Bool.{cases_Bool as either}
use Rattle.plain_disk.specs.declared.operation.Reply.TheVariants.{Done}
use Rattle.volume_machine.specs.Answers.{Answered, by_admit, by_finish, by_settle, flush_reply}
use Rattle.volume_machine.specs.Answers.{full_reply}
use Rattle.volume_machine.specs.Asks.{has_lock, wrong_ask}
use Rattle.volume_machine.specs.Beginnings.{IsFresh}
use Rattle.volume_machine.specs.Edges.{InPlain}
use Rattle.volume_machine.specs.Events.{Event, Outcome, admits, broken, device, done, finishes}
use Rattle.volume_machine.specs.Events.{refused, settles}
use Rattle.volume_machine.specs.Runs.{Happening, no_plain, IsRun, answered_by, last_of, plain_in}
use Rattle.volume_machine.specs.Seals.{Seals}
use Rattle.volume_machine.specs.States.{State, open_at, size_of}
use Rattle.volume_machine.specs.Steps.{AdmitStep, Meets, SettleStep, Step}
use Rattle.volume_machine.specs.Answers.{failed_reply}
use Rattle.volume_machine.specs.declared.ask.Ask.{Ask}
use Rattle.volume_machine.specs.declared.ask.Ask.TheVariants.{Read}
use Rattle.volume_machine.specs.declared.open.Open.{Open}
use Rattle.plain_disk.specs.Outcomes.{IsDeviceError}
use Rattle.volume_laws.specs.Promises.{DeviceErrorsAreExact, GoesByEvents, fails_in, has_failed}
use Rattle.volume_laws.specs.Promises.{is_failure}
use Rattle.volume_laws.proofs.{Admits.unanswered, Executions.run-front, Failures.goes_by_events}

-- an event amid a run
pub run-event : {K : Type 0} (old : State K) (earlier later : List (Happening K))
    (one : Happening K) → IsRun old (earlier ++ one ∷ later) → Meets (last_of old earlier) one.event
    × Step (last_of old earlier) one.event one.outcome one.after
unfolding IsRun last_of
run-event old [] later one (meets, step, is) = (meets, step)
run-event old (x ∷ earlier) later one (meets, step, is) = run-event x.after earlier later one is

-- an operation that is answered by an admit was refused
pub one_answered : (x y : Answered) → x ∷ [] ≡ y ∷ [] → y ≡ x
one_answered x y same = cc

refused_by : (atom session : ℕ) (ask : Ask) (outcome : Outcome) (answered : Answered)
    → by_admit atom session ask outcome ≡ answered ∷ [] → answered.ask ≡ ask
refused_by atom session ask (refused number) answered is =
    ap (λ a. a.ask) (one_answered _ answered is)
refused_by atom session ask _ answered is = absurd (cc)

admit_exact : {K : Type 0} (old new : State K) (lane session : ℕ) (ask : Ask) (outcome : Outcome)
    (answered : Answered) → AdmitStep old lane session ask outcome new
    → by_admit old.map.atom session ask outcome ≡ answered ∷ [] →
    wrong_ask old.map.atom (size_of old.map) answered.ask ≡ None
    → IsDeviceError answered.reply ↔ (old.broken ≡ true)
admit_exact old new lane session ask outcome answered step is proper =
    let right : wrong_ask old.map.atom (size_of old.map) ask ≡ None =
    rw (← refused_by old.map.atom session ask outcome answered is) proper in let judged = rw right at step in
    elim (either old.broken) [
      | inl broke ↦ let refusal = rw broke at judged in
          let one = one_answered _ answered (rw refusal.0 at is) in
          (λ five. broke, λ broke. inl (ap (λ a. a.reply) one))
      | inr whole ↦ absurd (let none = unanswered (rw whole at judged) in cc)
    ]

-- a flush that is answered by its settle
done_is_none : IsDeviceError Done → ⊥
done_is_none (inl is) = cc
done_is_none (inr (place, is)) = cc

settle_exact : {K : Type 0} (old new : State K) (lane : ℕ) (o : Open) (outcome : Outcome)
    → SettleStep old lane o outcome new
    → IsDeviceError (flush_reply outcome) ↔ (is_failure outcome ≡ true)
settle_exact old new lane o done step = (λ five. absurd (done_is_none five), λ failed. absurd (cc))
settle_exact old new lane o device step = (λ five. refl, λ failed. inl refl)
settle_exact old new lane o broken step = (λ five. refl, λ failed. inl refl)
settle_exact old new lane o _ step = absurd step

pub by_settle_is : (atom : ℕ) (o : Open) (outcome : Outcome) (answered : Answered)
    → by_settle atom (Some o) outcome ≡ answered ∷ [] → answered.reply ≡ flush_reply outcome
by_settle_is atom o outcome answered is = elim (either (has_lock o.ask)) [
  | inl has ↦ absurd (let none = rw has at is in cc)
  | inr free ↦ ap (λ a. a.reply) (one_answered _ answered (rw free at is))
]

-- an operation that is answered by its finish
not_five : (atom : ℕ) (ask : Ask) (bytes : List ℕ) → IsDeviceError (full_reply atom ask bytes) → ⊥
not_five atom (Read offset len) bytes (inl is) = cc
not_five atom (Read offset len) bytes (inr (place, is)) = cc
not_five atom _ bytes is = done_is_none is

is_five : (atom : ℕ) (ask : Ask) (bytes : List ℕ) → IsDeviceError (failed_reply atom ask bytes)
is_five atom (Read offset len) bytes =
    inr (max offset (offset / atom * atom + length bytes), refl)
is_five atom _ bytes = inl refl

finish_exact : (failed : Bool) (atom : ℕ) (ask : Ask) (bytes : List ℕ)
    → IsDeviceError (if failed then failed_reply atom ask bytes else full_reply atom ask bytes)
    ↔ (failed ≡ true)
finish_exact true atom ask bytes = (λ five. refl, λ failed. is_five atom ask bytes)
finish_exact false atom ask bytes =
    (λ five. absurd (not_five atom ask bytes five), λ failed. absurd (cc))

finish_answers : {K : Type 0} (old : State K) (lane : ℕ) (plain : InPlain) (before : Bool)
    (now : Option Open) (answered : Answered) → open_at old.lanes lane ≡ now →
    ((o : Open) → open_at old.lanes lane ≡ Some o → o.failed ≡ before)
    → by_finish old.map.atom now plain ≡ answered ∷ [] → IsDeviceError answered.reply ↔ (before ≡ true)
finish_answers old lane plain before None answered at fails is = absurd (cc)
finish_answers old lane plain before (Some o) answered at fails is =
    rw (one_answered _ answered is, ← fails o at) (finish_exact o.failed old.map.atom o.ask plain.bytes)

event_exact : {K : Type 0} (start : State K) (earlier : List (Happening K)) (plain : ℕ → InPlain)
    (new : State K) (event : Event) (outcome : Outcome) (answered : Answered) →
    GoesByEvents start earlier → Step (last_of start earlier) event outcome new
    → answered_by (last_of start earlier) event outcome plain ≡ answered ∷ [] →
    wrong_ask (last_of start earlier).map.atom (size_of (last_of start earlier).map) answered.ask
    ≡ None → IsDeviceError answered.reply ↔ (has_failed start earlier event outcome ≡ true)
unfolding Step answered_by
event_exact start earlier plain new (admits lane session ask) outcome answered goes step is proper =
    admit_exact (last_of start earlier) new lane session ask outcome answered step is proper
event_exact start earlier plain new (settles lane) outcome answered goes (o, at, step) is proper =
    rw (by_settle_is (last_of start earlier).map.atom o outcome answered (rw at at is))
    (settle_exact (last_of start earlier) new lane o outcome step)
event_exact start earlier plain new (finishes lane) outcome answered goes step is proper =
    finish_answers (last_of start earlier) lane (plain lane) (fails_in lane false earlier) _
    answered refl (goes.fails lane) is
event_exact start earlier plain new _ outcome answered goes step is proper = absurd (cc)

pub device_errors_exact : {K : Type 0} (start : State K)
    (seals : Seals) (earlier later : List (Happening K)) (one : Happening K) → IsFresh start
    → IsRun start (earlier ++ one ∷ later) → DeviceErrorsAreExact seals start earlier one
device_errors_exact start seals earlier later one fresh is = λ answered answers proper.
    let goes = goes_by_events start earlier fresh (run-front start earlier (one ∷ later) is) in
    let (meets, step) = run-event start earlier later one is in
    event_exact start earlier (plain_in seals start no_plain earlier) one.after one.event
    one.outcome answered goes step answers
    (subst (λ m. wrong_ask m.atom (size_of m) answered.ask ≡ None) (sym goes.map) proper)
