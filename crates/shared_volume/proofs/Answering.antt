-- What a volume may answer a lane is what the lane's plan may be told.
use Rattle.std.proofs.Common.{◌≡◌, ◌≢◌, ◌*◌, inl, inr, ℕ, Bool, true, false, Option}
use Rattle.std.proofs.Common.{Some, None, MatchOption, MatchBool, refl, sym, ◌∙◌, ap, subst, arith}
use Rattle.std.proofs.lemmas.Bool.{MatchBool-at_false, MatchBool-at_true}
use Rattle.std.proofs.lemmas.Grind.{common_steps}
use Rattle.plain_disk.specs.Outcomes.{IsErrorNumber}
use Rattle.segment_map.specs.declared.map.Map.{Map}
use Rattle.lane_plan.proofs.PlanBegins.{grant-for}
use Rattle.lane_plan.specs.Plans.{IsBegun, IsGrantFor, MayAnswer, WillBeRefused}
use Rattle.lane_plan.specs.Plans.{first_call, shape_of}
use Rattle.lane_plan.specs.declared.calls.Answer.{Answer}
use Rattle.lane_plan.specs.declared.calls.Answer.TheVariants as Answers
use Rattle.lane_plan.specs.declared.calls.Call.{Call}
use Rattle.lane_plan.specs.declared.calls.Call.TheVariants as Calls
use Rattle.lane_plan.specs.declared.plan.Plan.{Plan}
use Rattle.shared_volume.specs.Calling.{IsAnswerOf}
use Rattle.shared_volume.specs.Lanes.{MayBeAnswered}
use Rattle.volume_machine.proofs.Locking.{either}
use Rattle.volume_machine.specs.Alone.{Alone}
use Rattle.volume_machine.specs.Asks.{has_lock, range_of, wrong_ask}
use Rattle.volume_machine.specs.Events.{Outcome, admits, asks, held, refused, waits}
use Rattle.volume_machine.specs.States.{State, begun, open_at, size_of}
use Rattle.volume_machine.specs.Steps.{IsAdmitted, IsGrant, Step}
use Rattle.volume_machine.specs.declared.ask.Ask.{Ask}
use Rattle.volume_machine.specs.declared.ask.Ask.TheVariants.{Flush, Read, Write}
use Rattle.volume_machine.specs.declared.grant.Grant.{Grant}
use Rattle.volume_machine.specs.declared.open.Open.{Open}

-- how an operation that isn't refused was admitted
admitted : {K : Type 0} (old new : State K) (lane session : ℕ) (ask : Ask) (outcome : Outcome)
    (wrong : Option ℕ) (was : Bool) → ((n : ℕ) → outcome ≢ refused n) →
    MatchOption wrong
    (MatchBool was ((outcome ≡ refused 5) × (new ≡ old))
    (IsAdmitted old lane session ask outcome new))
    (λ number. (outcome ≡ refused number) × (new ≡ old))
    → (wrong ≡ None) × IsAdmitted old lane session ask outcome new
admitted old new lane session ask outcome None true not step = absurd (not 5 step.0)
admitted old new lane session ask outcome None false not step = (refl, step)
admitted old new lane session ask outcome (Some n) was not step = absurd (not n step.0)

held-not : (grant : Grant) (n : ℕ) → held grant ≢ refused n
held-not grant n same = cc

waits-not : (lane n : ℕ) → waits lane ≢ refused n
waits-not lane n same = cc

admitted-held : {K : Type 0} (old new : State K) (lane session : ℕ) (ask : Ask) (grant : Grant)
    → Step old (admits lane session ask) (held grant) new
    → (wrong_ask old.map.atom (size_of old.map) ask ≡ None)
    × IsAdmitted old lane session ask (held grant) new
unfolding Step
admitted-held old new lane session ask grant step = admitted old new lane session ask (held grant)
    (wrong_ask old.map.atom (size_of old.map) ask) old.broken (held-not grant) step

admitted-waiting : {K : Type 0} (old new : State K) (lane session other : ℕ) (ask : Ask)
    → Step old (admits lane session ask) (waits other) new
    → (wrong_ask old.map.atom (size_of old.map) ask ≡ None)
    × IsAdmitted old lane session ask (waits other) new
unfolding Step
admitted-waiting old new lane session other ask step =
    admitted old new lane session ask (waits other)
    (wrong_ask old.map.atom (size_of old.map) ask) old.broken (waits-not other) step

-- what a grant tells
grant-told : {K : Type 0} (old new : State K) (lane session : ℕ) (ask : Ask) (grant : Grant)
    → IsAdmitted old lane session ask (held grant) new →
    IsGrant old (range_of old.map.atom ask) grant
grant-told old new lane session ask grant is = elim (either (has_lock ask)) [
  | inl has ↦ (MatchBool-at_true _ _ has is.enters).1.1
  | inr has_none ↦ (MatchBool-at_false _ _ has_none is.enters).1.1
]

-- an operation that waits locks its blocks
locks-waiting : {K : Type 0} (old new : State K) (lane session other : ℕ) (ask : Ask)
    → IsAdmitted old lane session ask (waits other) new → has_lock ask ≡ true
locks-waiting old new lane session other ask is = elim (either (has_lock ask)) [
  | inl has ↦ has
  | inr has_none ↦ (let same = (MatchBool-at_false _ _ has_none is.enters).1 in absurd (cc))
]

-- an operation that is refused has an error's number
wrong-some : (atom size n : ℕ) (ask : Ask) → wrong_ask atom size ask ≡ Some n → IsErrorNumber n
wrong-some atom size n (Read offset len) wrong =
    (grind (arith, common_steps), grind (arith, common_steps))
wrong-some atom size n (Write offset len fua) wrong =
    (grind (arith, common_steps), grind (arith, common_steps))
wrong-some atom size n Flush wrong = absurd (cc)

refused-by : {K : Type 0} (old new : State K) (lane session n : ℕ) (ask : Ask) (wrong : Option ℕ)
    (was : Bool) → wrong_ask old.map.atom (size_of old.map) ask ≡ wrong → MatchOption wrong
    (MatchBool was ((refused n ≡ refused 5) × (new ≡ old))
    (IsAdmitted old lane session ask (refused n) new))
    (λ number. (refused n ≡ refused number) × (new ≡ old)) → IsErrorNumber n
refused-by old new lane session n ask None true is step = let five : n ≡ 5 = cc (step.0) in
    (omega arith, omega arith)
refused-by old new lane session n ask None false is step = absurd (elim (either (has_lock ask)) [
  | inl has ↦ (MatchBool-at_true _ _ has step.enters).1
  | inr has_none ↦ (MatchBool-at_false _ _ has_none step.enters).1
])
refused-by old new lane session n ask (Some m) was is step = let same : n ≡ m = cc (step.0) in
    rw same (wrong-some old.map.atom (size_of old.map) m ask is)

some-refused : {K : Type 0} (old new : State K) (lane session n : ℕ) (ask : Ask)
    → Step old (admits lane session ask) (refused n) new → IsErrorNumber n
unfolding Step
some-refused old new lane session n ask step =
    refused-by old new lane session n ask _ old.broken refl step

-- what an ask is granted
asked-held : {K : Type 0} (old new : State K) (lane : ℕ) (o : Open) (grant : Grant)
    → open_at old.lanes lane ≡ Some o → Step old (asks lane) (held grant) new
    → IsGrant old o.range grant
unfolding Step
asked-held old new lane o grant at ((found, is, tells), stays) =
    let same : found ≡ o = cc (is, at) in subst (λ (q : Open). IsGrant old q.range grant) same tells.1

module _ {K : Type 0} (start : State K) (plan : Plan) (session : ℕ) (ask : Ask)
    (first : first_call plan ≡ Calls.Admit session ask) (number : ℕ) (alone : Alone)
    (atom : start.map.atom ≡ (shape_of plan).atom)
    (blocks : start.map.blocks ≡ (shape_of plan).blocks) where
  -- a grant in a state of so many blocks of this size is one for the plan
  granted : (old : State K) (grant : Grant) → old.map.atom ≡ start.map.atom
      → old.map.blocks ≡ start.map.blocks
      → IsGrant old (range_of old.map.atom ask) grant → IsGrantFor plan grant
  granted old grant same_atom same_blocks told =
      let at : old.map.atom ≡ (shape_of plan).atom = same_atom ∙ atom in
      grant-for plan grant session ask first (ap (λ (m : Map). m.atom) told.map ∙ at)
      (ap (λ (m : Map). m.blocks) told.map ∙ same_blocks ∙ blocks)
      (told.range_is ∙ ap (λ a. range_of a ask) at)

  -- what isn't wrong there isn't wrong at the start
  still-proper : (old : State K) → old.map.atom ≡ start.map.atom
      → old.map.blocks ≡ start.map.blocks
      → wrong_ask old.map.atom (size_of old.map) ask ≡ None
      → wrong_ask start.map.atom (size_of start.map) ask ≡ None
  still-proper old same_atom same_blocks proper =
      subst (λ a. wrong_ask a (start.map.blocks * a) ask ≡ None) same_atom
      (subst (λ b. wrong_ask old.map.atom (b * old.map.atom) ask ≡ None) same_blocks proper)

  -- the admit of a plan that will be refused only where its operation is wrong
  pub may-admit : (answer : Answer)
      → (WillBeRefused plan → wrong_ask start.map.atom (size_of start.map) ask ≢ None)
      → MayBeAnswered start number alone (Calls.Admit session ask) answer
      → MayAnswer plan (Calls.Admit session ask) answer
  may-admit (Answers.Held grant) refuses may =
      let (proper, is) = admitted-held may.old may.new number session ask grant may.step in (
        λ will. refuses will
            (still-proper may.old may.atom may.blocks proper),
        granted may.old grant may.atom may.blocks
            (grant-told may.old may.new number session ask grant is),
      )
  may-admit (Answers.Waiting other) refuses may =
      let (proper, is) = admitted-waiting may.old may.new number session other ask may.step in (
        λ will. refuses will
            (still-proper may.old may.atom may.blocks proper),
        locks-waiting may.old may.new number session other ask is,
      )
  may-admit (Answers.Refused n) refuses may =
      some-refused may.old may.new number session n ask may.step
  may-admit (Answers.Got buffer len) refuses may = absurd may.answers
  may-admit (Answers.Written buffer) refuses may = absurd may.answers
  may-admit Answers.Done refuses may = absurd may.answers
  may-admit Answers.Device refuses may = absurd may.answers
  may-admit Answers.Broken refuses may = absurd may.answers

  -- another ask
  pub may-ask : (answer : Answer)
      → alone.operation ≡ Some (begun (shape_of plan).atom session ask)
      → MayBeAnswered start number alone Calls.Ask answer → MayAnswer plan Calls.Ask answer
  may-ask (Answers.Held grant) is may =
      let at : (shape_of plan).atom ≡ may.old.map.atom =
      sym (may.atom ∙ atom) in
      granted may.old grant may.atom may.blocks (subst
      (λ a. IsGrant may.old (range_of a ask) grant) at
      (asked-held may.old may.new number _ grant (may.operation ∙ is) may.step))
  may-ask (Answers.Waiting other) is may = tt
  may-ask (Answers.Refused n) is may = absurd may.answers
  may-ask (Answers.Got buffer len) is may = absurd may.answers
  may-ask (Answers.Written buffer) is may = absurd may.answers
  may-ask Answers.Done is may = absurd may.answers
  may-ask Answers.Device is may = absurd may.answers
  may-ask Answers.Broken is may = absurd may.answers

-- a call of an operation that has its blocks is told what its kind may be
pub may-make : (plan : Plan) (called : Call) (answer : Answer) → IsBegun called
    → (called ≡ Calls.Ask → ⊥) → IsAnswerOf called answer → MayAnswer plan called answer
may-make plan (Calls.Admit session ask) answer begun other is = absurd begun
may-make plan Calls.Ask answer begun other is = absurd (other refl)
may-make plan (Calls.Read buffer len) (Answers.Got back n) begun other is = is
may-make plan (Calls.Read buffer len) Answers.Device begun other is = tt
may-make plan (Calls.Read buffer len) Answers.Broken begun other is = tt
may-make plan (Calls.Read buffer len) (Answers.Held grant) begun other is = absurd is
may-make plan (Calls.Read buffer len) (Answers.Waiting lane) begun other is = absurd is
may-make plan (Calls.Read buffer len) (Answers.Refused n) begun other is = absurd is
may-make plan (Calls.Read buffer len) (Answers.Written back) begun other is = absurd is
may-make plan (Calls.Read buffer len) Answers.Done begun other is = absurd is
may-make plan (Calls.Write prepared) (Answers.Written back) begun other is = is
may-make plan (Calls.Write prepared) Answers.Device begun other is = tt
may-make plan (Calls.Write prepared) Answers.Broken begun other is = tt
may-make plan (Calls.Write prepared) (Answers.Held grant) begun other is = absurd is
may-make plan (Calls.Write prepared) (Answers.Waiting lane) begun other is = absurd is
may-make plan (Calls.Write prepared) (Answers.Refused n) begun other is = absurd is
may-make plan (Calls.Write prepared) (Answers.Got back n) begun other is = absurd is
may-make plan (Calls.Write prepared) Answers.Done begun other is = absurd is
may-make plan Calls.Settle Answers.Done begun other is = tt
may-make plan Calls.Settle Answers.Device begun other is = tt
may-make plan Calls.Settle Answers.Broken begun other is = tt
may-make plan Calls.Settle (Answers.Held grant) begun other is = absurd is
may-make plan Calls.Settle (Answers.Waiting lane) begun other is = absurd is
may-make plan Calls.Settle (Answers.Refused n) begun other is = absurd is
may-make plan Calls.Settle (Answers.Got back n) begun other is = absurd is
may-make plan Calls.Settle (Answers.Written back) begun other is = absurd is
may-make plan Calls.Finish Answers.Done begun other is = tt
may-make plan Calls.Finish Answers.Device begun other is = absurd is
may-make plan Calls.Finish Answers.Broken begun other is = absurd is
may-make plan Calls.Finish (Answers.Held grant) begun other is = absurd is
may-make plan Calls.Finish (Answers.Waiting lane) begun other is = absurd is
may-make plan Calls.Finish (Answers.Refused n) begun other is = absurd is
may-make plan Calls.Finish (Answers.Got back n) begun other is = absurd is
may-make plan Calls.Finish (Answers.Written back) begun other is = absurd is
