-- Which operations are answered 5 in a history of deeds.
use Rattle.std.proofs.Common.{Bool, List, None, Option, Some, [], ap, append_assoc, false}
use Rattle.std.proofs.Common.{if◌then◌else◌, inl, inr, refl, subst, sym, length, true, ℕ, ◌++◌, ◌+◌}
use Rattle.std.proofs.Common.{max, ◌*◌, ◌/◌, ◌↔◌, ◌∷◌, ◌≡◌, ◌<◌, suc}
use Rattle.std.proofs.lemmas.Bool.{cases_Bool as either}
use Rattle.plain_disk.specs.declared.operation.Reply.TheVariants.{Done}
use Rattle.volume_machine.specs.Answers.{Answered, by_admit, by_finish, flush_reply, full_reply}
use Rattle.volume_machine.specs.Asks.{wrong_ask}
use Rattle.volume_machine.specs.Edges.{InPlain}
use Rattle.volume_machine.specs.Events.{Event, Outcome, admits, broken, device, done, finishes}
use Rattle.volume_machine.specs.Events.{lane_of, refused, settles}
use Rattle.volume_machine.specs.Runs.{no_plain, answered_by}
use Rattle.volume_machine.specs.Seals.{Seals}
use Rattle.volume_machine.specs.States.{State, open_at, size_of, IsClient}
use Rattle.volume_machine.specs.Steps.{AdmitStep, SettleStep, Step}
use Rattle.volume_machine.specs.Answers.{failed_reply}
use Rattle.volume_machine.specs.Deeds.{Act, AreDeeds, Deed, Does, answered_of, client, plain_over}
use Rattle.volume_machine.specs.Deeds.{answered_over, plain_by, state_after, worker}
use Rattle.volume_machine.specs.Readings.{Reading}
use Rattle.volume_machine.specs.declared.ask.Ask.{Ask}
use Rattle.volume_machine.specs.declared.ask.Ask.TheVariants.{Read}
use Rattle.volume_machine.specs.declared.open.Open.{Open}
use Rattle.plain_disk.specs.Outcomes.{IsDeviceError}
use Rattle.volume_laws.specs.BesideLanes.Lanes.{BeginsBeside}
use Rattle.volume_laws.specs.Promises.{is_failure}
use Rattle.volume_laws.proofs.{Admits.unanswered, DeviceErrors.by_settle_is, DeviceErrors.one_answered}
use Rattle.volume_laws.proofs.BesideServing.Failures.{goes_by_deeds}
use Rattle.volume_laws.specs.BesideServing.Failing.{GoesByDeeds, fails_over}
use Rattle.volume_laws.specs.BesideServing.Replies.{DeviceErrorsAreExact, has_failed}

-- ---- a deed amid others
module _ {K : Type 0} (reading : Reading) (seals : Seals) where
  pub deeds-front : (old : State K) (earlier later : List (Deed K))
      → AreDeeds reading seals old (earlier ++ later) → AreDeeds reading seals old earlier
  unfolding AreDeeds
  deeds-front old [] later are = tt
  deeds-front old (one ∷ earlier) later (does, are) =
      (does, deeds-front one.after earlier later are)

  pub deed-amid : (old : State K) (earlier later : List (Deed K)) (one : Deed K)
      → AreDeeds reading seals old (earlier ++ one ∷ later)
      → Does reading seals (state_after old earlier) one.act one.after
  unfolding AreDeeds state_after
  deed-amid old [] later one (does, are) = does
  deed-amid old (first ∷ earlier) later one (does, are) =
      deed-amid first.after earlier later one are

-- ---- what deeds answer, one after the other
pub answered-deeds : {K : Type 0} (seals : Seals) (old : State K) (plain : ℕ → InPlain)
    (xs ys : List (Deed K)) → answered_over seals old plain (xs ++ ys)
    ≡ answered_over seals old plain xs
    ++ answered_over seals (state_after old xs) (plain_over seals old plain xs) ys
unfolding answered_over state_after plain_over
answered-deeds seals old plain [] ys = refl
answered-deeds seals old plain (x ∷ xs) ys =
    rw (answered-deeds seals x.after (plain_by seals old x.act plain) xs ys)
    (sym (append_assoc (answered_of old x.act plain) _ _))

-- ---- an operation that is answered by an admit was refused
refused_by : (atom session : ℕ) (ask : Ask) (outcome : Outcome) (answered : Answered)
    → by_admit atom session ask outcome ≡ answered ∷ [] → answered.ask ≡ ask
refused_by atom session ask (refused number) answered is =
    ap (λ a. a.ask) (one_answered _ answered is)
refused_by atom session ask _ answered is = absurd (cc)

admit_exact : {K : Type 0} (old new : State K) (lane session : ℕ) (ask : Ask) (outcome : Outcome)
    (answered : Answered) → AdmitStep old lane session ask outcome new
    → by_admit old.map.atom session ask outcome ≡ answered ∷ [] →
    wrong_ask old.map.atom (size_of old.map) answered.ask ≡ None
    → IsDeviceError answered.reply ↔ (old.broken ≡ true)
admit_exact old new lane session ask outcome answered step is proper =
    let right : wrong_ask old.map.atom (size_of old.map) ask ≡ None =
    rw (← refused_by old.map.atom session ask outcome answered is) proper in let judged = rw right at step in
    elim (either old.broken) [
      | inl broke ↦ let refusal = rw broke at judged in
          let one = one_answered _ answered (rw refusal.0 at is) in
          (λ five. broke, λ broke. inl (ap (λ a. a.reply) one))
      | inr whole ↦ absurd (let none = unanswered (rw whole at judged) in cc)
    ]

-- a flush that is answered by its settle
done_is_none : IsDeviceError Done → ⊥
done_is_none (inl is) = cc
done_is_none (inr (place, is)) = cc

settle_exact : {K : Type 0} (old new : State K) (lane : ℕ) (o : Open) (outcome : Outcome)
    → SettleStep old lane o outcome new
    → IsDeviceError (flush_reply outcome) ↔ (is_failure outcome ≡ true)
settle_exact old new lane o done step = (λ five. absurd (done_is_none five), λ failed. absurd (cc))
settle_exact old new lane o device step = (λ five. refl, λ failed. inl refl)
settle_exact old new lane o broken step = (λ five. refl, λ failed. inl refl)
settle_exact old new lane o _ step = absurd step

-- an operation that is answered by its finish
not_five : (atom : ℕ) (ask : Ask) (bytes : List ℕ) → IsDeviceError (full_reply atom ask bytes) → ⊥
not_five atom (Read offset len) bytes (inl is) = cc
not_five atom (Read offset len) bytes (inr (place, is)) = cc
not_five atom _ bytes is = done_is_none is

is_five : (atom : ℕ) (ask : Ask) (bytes : List ℕ) → IsDeviceError (failed_reply atom ask bytes)
is_five atom (Read offset len) bytes =
    inr (max offset (offset / atom * atom + length bytes), refl)
is_five atom _ bytes = inl refl

finish_exact : (failed : Bool) (atom : ℕ) (ask : Ask) (bytes : List ℕ)
    → IsDeviceError (if failed then failed_reply atom ask bytes else full_reply atom ask bytes)
    ↔ (failed ≡ true)
finish_exact true atom ask bytes = (λ five. refl, λ failed. is_five atom ask bytes)
finish_exact false atom ask bytes =
    (λ five. absurd (not_five atom ask bytes five), λ failed. absurd (cc))

finish_answers : {K : Type 0} (old : State K) (lane : ℕ) (plain : InPlain) (before : Bool)
    (now : Option Open) (answered : Answered) → open_at old.lanes lane ≡ now →
    ((o : Open) → open_at old.lanes lane ≡ Some o → o.failed ≡ before)
    → by_finish old.map.atom now plain ≡ answered ∷ [] → IsDeviceError answered.reply ↔ (before ≡ true)
finish_answers old lane plain before None answered at fails is = absurd (cc)
finish_answers old lane plain before (Some o) answered at fails is =
    rw (one_answered _ answered is, ← fails o at) (finish_exact o.failed old.map.atom o.ask plain.bytes)

-- ---- each deed
event_exact : {K : Type 0} (start : State K) (earlier : List (Deed K)) (plain : ℕ → InPlain)
    (new : State K) (event : Event) (outcome : Outcome) (answered : Answered)
    → GoesByDeeds start earlier → IsClient start (lane_of event)
    → Step (state_after start earlier) event outcome new
    → answered_by (state_after start earlier) event outcome plain ≡ answered ∷ []
    → wrong_ask (state_after start earlier).map.atom (size_of (state_after start earlier).map)
    answered.ask ≡ None
    → IsDeviceError answered.reply ↔ (has_failed start earlier (client event outcome) ≡ true)
unfolding Step answered_by
event_exact start earlier plain new (admits lane session ask) outcome answered goes own step is proper =
    admit_exact (state_after start earlier) new lane session ask outcome answered step is proper
event_exact start earlier plain new (settles lane) outcome answered goes own (o, at, step) is proper =
    rw (by_settle_is (state_after start earlier).map.atom o outcome answered (rw at at is))
    (settle_exact (state_after start earlier) new lane o outcome step)
event_exact start earlier plain new (finishes lane) outcome answered goes own step is proper =
    finish_answers (state_after start earlier) lane (plain lane) (fails_over lane false earlier) _
    answered refl (λ o. goes.fails lane o own) is
event_exact start earlier plain new _ outcome answered goes own step is proper = absurd (cc)

pub device_errors_exact : {K : Type 0} (reading : Reading) (seals : Seals) (start : State K)
    (earlier later : List (Deed K)) (one : Deed K) → BeginsBeside reading start
    → AreDeeds reading seals start (earlier ++ one ∷ later)
    → DeviceErrorsAreExact seals start earlier one
device_errors_exact {K} reading seals start earlier later one begins_so are = λ answered answers proper.
    by one.act (deed-amid reading seals start earlier later one are) answered answers proper
  where
    goes : GoesByDeeds start earlier
    goes = goes_by_deeds reading seals start earlier begins_so
        (deeds-front reading seals start earlier (one ∷ later) are)

    by : (act : Act) → Does reading seals (state_after start earlier) act one.after
        → (answered : Answered)
        → answered_of (state_after start earlier) act (plain_over seals start no_plain earlier)
        ≡ answered ∷ []
        → wrong_ask start.map.atom (size_of start.map) answered.ask ≡ None
        → IsDeviceError answered.reply ↔ (has_failed start earlier act ≡ true)
    by (client event outcome) (meets, step) answered answers proper =
        event_exact start earlier (plain_over seals start no_plain earlier) one.after event outcome
        answered goes (subst (λ n. suc (lane_of event) < n) goes.same.lanes meets.client) step answers
        (rw (goes.same.atom, goes.same.blocks) proper)
    by (worker worked) does answered answers proper = absurd (cc)
