-- An operation on a lane of a volume that threads share, from its plan to its reply.
use Rattle.std.specs.Prelude.{ℕ, ◌≡◌, ◌≢◌, ◌*◌, ◌⊎◌, List, [], ◌∷◌, length, take, replicate, Option}
use Rattle.std.specs.Prelude.{Some, None}
use Rattle.lane_plan.specs.Calls.{ask_of, event_of}
use Rattle.lane_plan.specs.Plans.{Awaits, IsBegun, WillBeRefused, first_call, session_of, shape_of}
use Rattle.lane_plan.specs.declared.calls.Call.{Call}
use Rattle.lane_plan.specs.declared.calls.Call.TheVariants as Calls
use Rattle.lane_plan.specs.declared.calls.Next.{Next}
use Rattle.lane_plan.specs.declared.calls.Next.TheVariants as Nexts
use Rattle.lane_plan.specs.declared.plan.Plan.{Plan}
use Rattle.lane_plan.specs.declared.plan.Shape.{Shape}
use Rattle.plain_disk.specs.Outcomes.{IsReplyTo}
use Rattle.plain_disk.specs.declared.operation.Op.{Op}
use Rattle.plain_disk.specs.declared.operation.Op.TheVariants as Ops
use Rattle.plain_disk.specs.declared.operation.Reply.{Reply}
use Rattle.shared_volume.specs.Lanes.{Answers, IsAtRest, Knowing, StandsSo, seals_at}
use Rattle.shared_volume.specs.declared.executing.Executed.{Executed}
use Rattle.shared_volume.specs.declared.executing.Executed.TheVariants.{Replied, Spent}
use Rattle.volume_machine.specs.Alone.{Alone, MeetsAlone}
use Rattle.volume_machine.specs.Asks.{wrong_ask}
use Rattle.volume_machine.specs.Seals.{Seals}
use Rattle.volume_machine.specs.Steps.{HasOpen}

-- the plan of an operation on a volume of this shape, at its first call: it will be refused only
-- where the operation is wrong
pub record IsPlanFor (shape : Shape) (plan : Plan) (session : ℕ) (op : Op) : Type 0 where
  pub awaits : (seals : Seals) (alone : Alone) → alone.operation ≡ None →
      Awaits seals plan op alone (Calls.Admit session (ask_of op))
  pub first : first_call plan ≡ Calls.Admit session (ask_of op)
  pub session_is : session_of plan ≡ session
  pub shape_is : shape_of plan ≡ shape
  pub refuses : WillBeRefused plan →
      wrong_ask shape.atom (shape.blocks * shape.atom) (ask_of op) ≢ None

-- the bytes that a write has tried begin its body, or are zeros
abbrev pub HasTried : Op → List ℕ → Type 0
HasTried (Ops.Write offset body fua) plain = take (length plain) body ≡ plain
HasTried (Ops.Zeroes offset len fua) plain = take (length plain) (replicate len 0) ≡ plain
HasTried _ plain = Unit {0}

-- the lane has this operation of the session under way, and none of its bytes are another's
abbrev pub HasUnderWay : ℕ → Op → Alone → Type 0
HasUnderWay session op alone =
    HasOpen alone.operation (λ o. (o.session ≡ session) × (o.ask ≡ ask_of op))
    × HasTried op alone.plain

module _ {C : Type 0} (sealed opened : C → ℕ → List ℕ → List ℕ) where
  -- exactly this operation was executed on the lane, and answered so
  pub record HasExecuted (session : ℕ) (op : Op) (v w : Knowing C) (reply : Reply) : Type 0 where
    pub tried : ℕ
    pub answers : Answers sealed opened v w
        (record { session = session; exchange = record { op = op; reply = reply; tried = tried } }
        ∷ [])
    pub rests : IsAtRest sealed opened w
    pub is_reply : IsReplyTo op reply

  -- Of the operation that was being executed nothing was answered, and the history that the asker
  -- knows has as many entries as the cell can take. No call was made, or the lane has just this
  -- operation under way.
  pub record HasStopped (limit session : ℕ) (op : Op) (v w : Knowing C) : Type 0 where
    pub answers : Answers sealed opened v w []
    pub full : length w.history ≡ limit
    pub left : (w.calls ≡ v.calls)
        ⊎ StandsSo sealed opened w (λ start alone. HasUnderWay session op alone)

  -- what came of an operation
  abbrev pub IsExecuted : ℕ → ℕ → Op → Knowing C → Knowing C → Executed → Type 0
  IsExecuted limit session op v w (Replied reply buffer) = HasExecuted session op v w reply
  IsExecuted limit session op v w Spent = HasStopped limit session op v w

  -- a call of a plan is to be made on the lane, and nothing was answered so far
  pub record IsOnTheWay (number : ℕ) (shape : Shape) (plan : Plan) (session : ℕ) (op : Op)
      (v w : Knowing C) (called : Call) : Type 0 where
    pub start_is : w.start ≡ v.start
    pub silent : Answers sealed opened v w []
    pub meets : StandsSo sealed opened w
        (λ start alone. MeetsAlone (seals_at sealed opened start) alone (event_of number called))
    pub awaits : StandsSo sealed opened w
        (λ start alone. Awaits (seals_at sealed opened start) plan op alone called)
    pub session_is : session_of plan ≡ session
    pub shape_is : shape_of plan ≡ shape

  -- what comes next: a call of an operation that has begun, or the reply; or the history is full
  abbrev pub IsAt : ℕ → ℕ → Shape → Plan → ℕ → Op → Knowing C → Knowing C → Option Next → Type 0
  IsAt limit number shape plan session op v w (Some (Nexts.Call called)) =
      IsOnTheWay number shape plan session op v w called × IsBegun called
  IsAt limit number shape plan session op v w (Some (Nexts.Reply reply spare)) =
      HasExecuted session op v w reply
  IsAt limit number shape plan session op v w None = HasStopped limit session op v w
