-- A plan that is carried out on a lane: what it may be told, and how it goes on.
use Rattle.std.proofs.Common.{◌≡◌, ◌≢◌, ◌*◌, ℕ, List, [], ◌∷◌, ◌++◌, Some, None, refl, sym, ap}
use Rattle.std.proofs.Common.{◌∙◌, subst}
use Rattle.lane_plan.specs.Calls.{ask_of, event_of, outcome_of}
use Rattle.lane_plan.specs.Plans.{Awaits, Follows, Goes, HasBegun, IsBegun, IsTold, MayAnswer}
use Rattle.lane_plan.specs.Plans.{first_call, session_of, shape_of}
use Rattle.lane_plan.specs.declared.calls.Answer.{Answer}
use Rattle.lane_plan.specs.declared.calls.Call.{Call}
use Rattle.lane_plan.specs.declared.calls.Next.{Next}
use Rattle.lane_plan.specs.declared.plan.Plan.{Plan}
use Rattle.lane_plan.specs.declared.plan.Shape.{Shape}
use Rattle.plain_disk.specs.declared.operation.Op.{Op}
use Rattle.shared_volume.specs.Calling.{HasFront}
use Rattle.shared_volume.specs.Executing.{IsAt, IsOnTheWay, IsPlanFor}
use Rattle.shared_volume.specs.Histories.{alone_by}
use Rattle.shared_volume.specs.Lanes.{Answers, HasAnswered, IsAtRest, IsLaneOf, IsOn, Knowing}
use Rattle.shared_volume.specs.Lanes.{IsCalled, MayBeAnswered, StandsSo, answered_call, seals_at}
use Rattle.shared_volume.specs.declared.calling.Called.TheVariants.{Answered}
use Rattle.shared_volume.proofs.Answering.{may-admit}
use Rattle.shared_volume.proofs.Coming.{comes, has-front, may-answer}
use Rattle.shared_volume.proofs.OwnCalls.{answered-none}
use Rattle.shared_volume.proofs.Turning.{some-and}
use Rattle.volume_cell.specs.Passes.{IsSamePass}
use Rattle.volume_machine.specs.Alone.{MeetsAlone, alone_after, answered_alone}
use Rattle.volume_machine.specs.Asks.{wrong_ask}
use Rattle.volume_machine.specs.Seals.{KeysFit, Seals, seals_of}
use Rattle.volume_machine.specs.States.{State}
use Rattle.volume_machine.specs.declared.keys.Keys.{Keys}

-- the same pass, and the same still
pub same-still : {C : Type 0} (u v w : Knowing C) → IsSamePass u v → IsSamePass v w → IsSamePass u w
same-still u v w one other = record {
  start = other.start ∙ one.start;
  name = other.name ∙ one.name;
  joined = other.joined ∙ one.joined;
  splits = other.splits ∙ one.splits;
  away = other.away ∙ one.away;
}

-- nothing was answered where no call was made
pub silent-still : {C : Type 0} (sealed opened : C → ℕ → List ℕ → List ℕ) (v w : Knowing C)
    → w.calls ≡ v.calls → Answers sealed opened v w []
silent-still sealed opened v w same = λ start is.
    subst (λ cs. HasAnswered (seals_at sealed opened start) start v.calls cs []) (sym same)
    (answered-none (seals_at sealed opened start) start v.calls)

-- nor where no other call was made
pub silent-on : {C : Type 0} (sealed opened : C → ℕ → List ℕ → List ℕ) (u v w : Knowing C)
    → Answers sealed opened u v [] → w.calls ≡ v.calls → Answers sealed opened u w []
silent-on sealed opened u v w silent same = λ start is.
    subst (λ cs. HasAnswered (seals_at sealed opened start) start u.calls cs []) (sym same)
    (silent start is)

-- an admit may be made on a lane without an operation
pub may-begin : {C : Type 0} (sealed opened : C → ℕ → List ℕ → List ℕ) (v : Knowing C) (number : ℕ)
    (plan : Plan) → IsAtRest sealed opened v
    → StandsSo sealed opened v
    (λ start alone. MeetsAlone (seals_at sealed opened start) alone (event_of number (first_call plan)))
unfolding MeetsAlone
may-begin sealed opened v number plan rests = rests

pub front-first : (plan : Plan) → HasFront (first_call plan)
front-first plan = tt

module _ {C : Type 0} (sector : C → ℕ) (sealed opened : C → ℕ → List ℕ → List ℕ) (v : Knowing C)
    (number : ℕ) (keys : Keys C) (shape : Shape) (lane : IsLaneOf sector v number keys shape) where
  -- the volume that was handed in
  abbrev began : (s : State (Keys C)) × (v.start ≡ Some s) × IsOn sector number keys shape s
  began = some-and v.start (IsOn sector number keys shape) lane.start

  abbrev start : State (Keys C)
  start = began.0

  abbrev start_is : v.start ≡ Some start
  start_is = began.1

  abbrev on : IsOn sector number keys shape start
  on = began.2

  -- the lane's keys fit the volume
  pub keys-fit : (plan : Plan) → shape_of plan ≡ shape
      → KeysFit sector keys (shape_of plan).atom (shape_of plan).blocks
  keys-fit plan is = subst (λ (q : Shape). KeysFit sector keys q.atom q.blocks) (sym is) on.fit

  -- and seal as it does
  seals-are : (plan : Plan) → shape_of plan ≡ shape
      → seals_of sealed opened (shape_of plan).atom keys ≡ seals_at sealed opened start
  seals-are plan is = ap (λ (q : Shape). seals_of sealed opened q.atom keys) is
      ∙ (ap (λ a. seals_of sealed opened a keys) (sym on.atom)
      ∙ ap (λ (k : Keys C). seals_of sealed opened start.map.atom k) (sym on.keys_are))

  atom-is : (plan : Plan) → shape_of plan ≡ shape → start.map.atom ≡ (shape_of plan).atom
  atom-is plan is = on.atom ∙ ap (λ (q : Shape). q.atom) (sym is)

  blocks-are : (plan : Plan) → shape_of plan ≡ shape → start.map.blocks ≡ (shape_of plan).blocks
  blocks-are plan is = on.blocks ∙ ap (λ (q : Shape). q.blocks) (sym is)

  -- what the volume may answer to the admit is what the plan may be told
  pub begin-may : (plan : Plan) (session : ℕ) (op : Op) (answer : Answer)
      → IsPlanFor shape plan session op
      → StandsSo sealed opened v (λ s alone. MayBeAnswered s number alone (first_call plan) answer)
      → MayAnswer plan (first_call plan) answer
  begin-may plan session op answer planned may =
      subst (λ (c : Call). MayAnswer plan c answer) (sym planned.first)
      (may-admit start plan session (ask_of op) planned.first number
      (alone_by (seals_at sealed opened start) start v.calls)
      (atom-is plan planned.shape_is) (blocks-are plan planned.shape_is) answer
      (λ will. subst (λ size. wrong_ask start.map.atom size (ask_of op) ≢ None)
      (ap (λ b. b * start.map.atom) (sym on.blocks))
      (subst (λ a. wrong_ask a (shape.blocks * a) (ask_of op) ≢ None) (sym on.atom)
      (planned.refuses will)))
      (subst (λ (c : Call). MayBeAnswered start number
      (alone_by (seals_at sealed opened start) start v.calls) c answer) planned.first
      (may start start_is)))

  -- and so to each later call
  pub step-may : (plan : Plan) (session : ℕ) (op : Op) (first : Knowing C) (called : Call)
      (answer : Answer) → IsBegun called
      → IsOnTheWay sealed opened number shape plan session op first v called
      → StandsSo sealed opened v (λ s alone. MayBeAnswered s number alone called answer)
      → MayAnswer plan called answer
  step-may plan session op first called answer begun way may =
      may-answer (seals_at sealed opened start) start plan op number
      (alone_by (seals_at sealed opened start) start v.calls) called answer
      (atom-is plan way.shape_is) (blocks-are plan way.shape_is) begun (way.awaits start start_is)
      (may start start_is)

  -- a later call has a buffer that is long enough
  pub front-of : (session : ℕ) (plan : Plan) (op : Op) (first : Knowing C) (called : Call)
      → IsOnTheWay sealed opened number shape plan session op first v called → HasFront called
  front-of session plan op first called way =
      has-front (seals_at sealed opened start) plan op
      (alone_by (seals_at sealed opened start) start v.calls) called (way.awaits start start_is)

  -- so it may be told that
  pub may-tell : (plan : Plan) (op : Op) (called : Call) (answer : Answer) → shape_of plan ≡ shape
      → StandsSo sealed opened v (λ s alone. Awaits (seals_at sealed opened s) plan op alone called)
      → MayAnswer plan called answer
      → IsTold (seals_of sealed opened (shape_of plan).atom keys) plan answer
  unfolding IsTold
  may-tell plan op called answer is awaits may =
      subst (λ (s : Seals). IsTold s plan answer) (sym (seals-are plan is)) (
        op,
        alone_by (seals_at sealed opened start) start v.calls,
        called,
        awaits start start_is,
        may,
      )

  -- and what comes next is a call or the reply
  goes-on : (limit session : ℕ) (old new : Plan) (op : Op) (first w : Knowing C) (called : Call)
      (answer : Answer) (next : Next) → v.start ≡ first.start → w.start ≡ v.start
      → Answers sealed opened first v []
      → w.calls ≡ v.calls ++ answered_call number called answer ∷ []
      → shape_of old ≡ shape → session_of old ≡ session → shape_of new ≡ shape_of old
      → session_of new ≡ session_of old
      → StandsSo sealed opened v (λ s alone. Awaits (seals_at sealed opened s) old op alone called)
      → MayAnswer old called answer
      → Goes (seals_of sealed opened (shape_of old).atom keys) old answer new next → HasBegun next
      → IsAt sealed opened limit number shape new session op first w (Some next)
  unfolding Goes
  goes-on limit session old new op first w called answer next first_is w_is silent calls shape_is
      session_is new_shape new_session awaits may goes begun =
      let alone = alone_by (seals_at sealed opened start) start v.calls in
      let those = subst (λ (s : Seals). Goes s old answer new next) (seals-are old shape_is) goes in
      comes sealed opened limit number shape new session op first v w called answer start
      (sym first_is ∙ start_is) start_is (w_is ∙ start_is) silent calls (new_session ∙ session_is)
      (new_shape ∙ shape_is) next
      (subst (λ a. Follows (seals_at sealed opened start) new op
      (alone_after a (seals_at sealed opened start) alone (event_of number called)
      (outcome_of answer)) (answered_alone a alone (event_of number called) (outcome_of answer)) next)
      (sym (atom-is old shape_is)) (those op alone called number (awaits start start_is) may)) begun

  -- the first call of a plan, where it was answered: what the plan may be told, and what comes next
  module _ (limit session : ℕ) (old : Plan) (op : Op) (w : Knowing C) (answer : Answer)
      (rests : IsAtRest sealed opened v) (planned : IsPlanFor shape old session op)
      (called : IsCalled sealed opened limit number (first_call old) v w (Answered answer)) where
    begin-awaits : StandsSo sealed opened v
        (λ s alone. Awaits (seals_at sealed opened s) old op alone (first_call old))
    begin-awaits = λ s is. subst
        (λ (c : Call). Awaits (seals_at sealed opened s) old op
        (alone_by (seals_at sealed opened s) s v.calls) c) (sym planned.first)
        (planned.awaits (seals_at sealed opened s) (alone_by (seals_at sealed opened s) s v.calls)
        (rests s is))

    pub begin-tells : IsTold (seals_of sealed opened (shape_of old).atom keys) old answer
    begin-tells = may-tell old op (first_call old) answer planned.shape_is begin-awaits
        (begin-may old session op answer planned called.1)

    pub begins-so : (new : Plan) (next : Next) → IsSamePass v w → shape_of new ≡ shape_of old
        → session_of new ≡ session_of old
        → Goes (seals_of sealed opened (shape_of old).atom keys) old answer new next
        → HasBegun next → IsAt sealed opened limit number shape new session op v w (Some next)
    begins-so new next same new_shape new_session goes begun =
        goes-on limit session old new op v w (first_call old) answer next refl same.start
        (silent-still sealed opened v v refl) called.0 planned.shape_is planned.session_is new_shape
        new_session begin-awaits (begin-may old session op answer planned called.1) goes begun

  -- and a later one
  module _ (limit session : ℕ) (old : Plan) (op : Op) (first w : Knowing C) (made : Call)
      (answer : Answer) (begun : IsBegun made)
      (way : IsOnTheWay sealed opened number shape old session op first v made)
      (called : IsCalled sealed opened limit number made v w (Answered answer)) where
    pub step-tells : IsTold (seals_of sealed opened (shape_of old).atom keys) old answer
    step-tells = may-tell old op made answer way.shape_is way.awaits
        (step-may old session op first made answer begun way called.1)

    pub steps-so : (new : Plan) (next : Next) → IsSamePass v w → shape_of new ≡ shape_of old
        → session_of new ≡ session_of old
        → Goes (seals_of sealed opened (shape_of old).atom keys) old answer new next
        → HasBegun next → IsAt sealed opened limit number shape new session op first w (Some next)
    steps-so new next same new_shape new_session goes has_begun =
        goes-on limit session old new op first w made answer next way.start_is same.start way.silent
        called.0 way.shape_is way.session_is new_shape new_session way.awaits
        (step-may old session op first made answer begun way called.1) goes has_begun
