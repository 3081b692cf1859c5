-- What comes next of an operation, once its last call was answered.
use Rattle.std.proofs.Common.{◌≡◌, ℕ, List, [], ◌∷◌, ◌++◌, refl, sym, ap, ◌∙◌, subst}
use Rattle.std.proofs.Common.{Some, None}
use Rattle.lane_plan.specs.Calls.{event_of, outcome_of}
use Rattle.lane_plan.specs.Plans.{Awaits, Follows, HasBegun, IsBegun, MayAnswer}
use Rattle.lane_plan.specs.Plans.{session_of, shape_of}
use Rattle.lane_plan.specs.Plans.{refuses, begins, asks, reads, writes, settles, finishes}
use Rattle.lane_plan.specs.declared.calls.Answer.{Answer}
use Rattle.lane_plan.specs.declared.calls.Call.{Call}
use Rattle.lane_plan.specs.declared.calls.Call.TheVariants as Calls
use Rattle.lane_plan.specs.declared.calls.Next.{Next}
use Rattle.lane_plan.specs.declared.calls.Next.TheVariants as Nexts
use Rattle.lane_plan.specs.declared.plan.Plan.{Plan}
use Rattle.lane_plan.specs.declared.plan.Shape.{Shape}
use Rattle.plain_disk.specs.declared.operation.Op.{Op}
use Rattle.plain_disk.specs.declared.operation.Reply.{Reply}
use Rattle.shared_volume.specs.Calling.{HasFront}
use Rattle.shared_volume.specs.Executing.{IsAt}
use Rattle.shared_volume.specs.Histories.{alone_by}
use Rattle.shared_volume.specs.Lanes.{Answers, HasAnswered, Knowing, MayBeAnswered}
use Rattle.shared_volume.specs.Lanes.{answered_call, seals_at}
use Rattle.shared_volume.proofs.Answering.{may-ask, may-make}
use Rattle.shared_volume.proofs.OwnCalls.{alone-more, answered-joined, answered-one}
use Rattle.shared_volume.proofs.Turning.{only-start}
use Rattle.volume_machine.specs.Alone.{Alone, MeetsAlone, alone_after, answered_alone}
use Rattle.volume_machine.specs.Answers.{Answered, AreTagged, IsExchange, Tagged}
use Rattle.volume_machine.specs.Seals.{Seals}
use Rattle.volume_machine.specs.States.{State}
use Rattle.volume_machine.specs.declared.keys.Keys.{Keys}

-- a call whose plan awaits its answer has a buffer that is long enough
pub has-front : (seals : Seals) (plan : Plan) (op : Op) (alone : Alone) (called : Call)
    → Awaits seals plan op alone called → HasFront called
has-front seals plan op alone _ (refuses stage asking rests) = tt
has-front seals plan op alone _ (begins stage supplied rests) = tt
has-front seals plan op alone _ (asks stage supplied operation granted plain locks) = tt
has-front seals plan op alone _ (reads map piece buffer len moves is_read size front) = front
has-front seals plan op alone _ (writes map piece prepared moves is_write sealed) = tt
has-front seals plan op alone _ (settles map stage course plain can end) = tt
has-front seals plan op alone _ (finishes stage ending) = tt

-- a call behind the admit
pub may-answer : {K : Type 0} (seals : Seals) (start : State K) (plan : Plan) (op : Op)
    (number : ℕ) (alone : Alone) (called : Call) (answer : Answer)
    → start.map.atom ≡ (shape_of plan).atom → start.map.blocks ≡ (shape_of plan).blocks
    → IsBegun called → Awaits seals plan op alone called
    → MayBeAnswered start number alone called answer → MayAnswer plan called answer
may-answer seals start plan op number alone _ answer atom blocks begun
    (refuses stage asks_is rests) may = absurd begun
may-answer seals start plan op number alone _ answer atom blocks begun
    (begins stage supplied rests) may = absurd begun
may-answer seals start plan op number alone _ answer atom blocks begun
    (asks stage supplied operation granted_none plain locks) may =
    may-ask start plan _ _ refl number alone atom blocks answer operation may
may-answer seals start plan op number alone _ answer atom blocks begun
    (reads map piece buffer len moves is_read size front) may =
    may-make plan (Calls.Read buffer len) answer begun (λ same. absurd (cc)) may.answers
may-answer seals start plan op number alone _ answer atom blocks begun
    (writes map piece prepared moves is_write sealed) may =
    may-make plan (Calls.Write prepared) answer begun (λ same. absurd (cc)) may.answers
may-answer seals start plan op number alone _ answer atom blocks begun
    (settles map stage course plain can end) may =
    may-make plan Calls.Settle answer begun (λ same. absurd (cc)) may.answers
may-answer seals start plan op number alone _ answer atom blocks begun
    (finishes stage ending) may =
    may-make plan Calls.Finish answer begun (λ same. absurd (cc)) may.answers

-- one operation, as a list
tagged-one : (session : ℕ) (op : Op) (reply : Reply) (tried : ℕ) (one : Answered)
    (answered : List Answered) → answered ≡ one ∷ [] → one.session ≡ session
    → IsExchange one
    (record { op = op; reply = reply; tried = tried })
    → AreTagged answered
    (record { session = session; exchange = record { op = op; reply = reply; tried = tried } } ∷ [])
unfolding AreTagged
tagged-one session op reply tried one answered only session_is is =
    subst (λ l. AreTagged l (record {
      session = session;
      exchange = record { op = op; reply = reply; tried = tried };
    } ∷ [])) (sym only) (is, sym session_is, tt)

tagged-none : (answered : List Answered) → answered ≡ [] → AreTagged answered []
unfolding AreTagged
tagged-none answered none = subst (λ l. AreTagged l []) (sym none) tt

module _ {C : Type 0} (sealed opened : C → ℕ → List ℕ → List ℕ) (limit number : ℕ) (shape : Shape)
    (plan : Plan) (session : ℕ) (op : Op) (first v w : Knowing C) (called : Call) (answer : Answer)
    (start : State (Keys C)) (first_is : first.start ≡ Some start) (v_is : v.start ≡ Some start)
    (w_is : w.start ≡ Some start) (silent : Answers sealed opened first v [])
    (calls : w.calls ≡ v.calls ++ answered_call number called answer ∷ [])
    (session_is : session_of plan ≡ session) (shape_is : shape_of plan ≡ shape) where
  abbrev pub seals : Seals
  seals = seals_at sealed opened start

  abbrev pub before : Alone
  before = alone_by seals start v.calls

  -- the lane after the call
  after : alone_by seals start w.calls
      ≡ alone_after start.map.atom seals before (event_of number called) (outcome_of answer)
  after = ap (alone_by seals start) calls
      ∙ alone-more seals start v.calls number called answer

  answered-by : (history : List Tagged)
      → AreTagged (answered_alone start.map.atom before (event_of number called) (outcome_of answer))
      history
      → Answers sealed opened first w history
  answered-by history are = only-start
      (λ (s : State (Keys C)). HasAnswered
      (seals_at sealed opened s) s first.calls w.calls history) start first_is
      (answered-joined seals start first.calls v.calls w.calls [] history (silent start first_is)
      (subst (λ cs. HasAnswered seals start v.calls cs history)
      (sym calls)
      (answered-one seals start v.calls number called answer history are)))

  -- what follows is a call or the reply
  pub comes : (next : Next)
      → Follows seals plan op
      (alone_after start.map.atom seals before (event_of number called) (outcome_of answer))
      (answered_alone start.map.atom before (event_of number called) (outcome_of answer)) next
      → HasBegun next
      → IsAt sealed opened limit number shape plan session op first w (Some next)
  comes (Nexts.Call then) (none, meets, awaits) begun = (
    record {
      start_is = w_is ∙ sym first_is;
      silent = answered-by [] (tagged-none _ none);
      meets = only-start
          (λ (s : State (Keys C)). MeetsAlone (seals_at sealed opened s)
          (alone_by (seals_at sealed opened s) s w.calls)
          (event_of number then)) start w_is
          (subst (λ a. MeetsAlone seals a (event_of number then)) (sym after) (meets number));
      awaits = only-start
          (λ (s : State (Keys C)). Awaits (seals_at sealed opened s) plan op
          (alone_by (seals_at sealed opened s) s w.calls) then) start w_is
          (subst (λ a. Awaits seals plan op a then) (sym after) awaits);
      session_is = session_is;
      shape_is = shape_is;
    },
    begun,
  )
  comes (Nexts.Reply reply spare) is begun = record {
    tried = is.tried;
    answers = answered-by _
        (tagged-one session op reply is.tried is.one _ is.only (is.session_is ∙ session_is)
        is.exchange);
    rests = only-start
        (λ (s : State (Keys C)). (alone_by (seals_at sealed opened s) s w.calls).operation ≡ None)
        start w_is (ap (λ (a : Alone). a.operation) after ∙ is.over);
    is_reply = is.is_reply;
  }
