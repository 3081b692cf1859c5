-- What a lane of a session did: it took one request after the other, had it answered, and put the
-- reply.
use Rattle.std.specs.Prelude.{ℕ, ◌≡◌, Bool, false, List, [], ◌∷◌, ◌++◌, Option, Some, None}
use Rattle.plain_disk.specs.declared.operation.Op.{Op}
use Rattle.plain_disk.specs.declared.operation.Reply.TheVariants.{Errno}
use Rattle.nbd_stream.specs.declared.ending.Ending.{Ending}
use Rattle.nbd_session.specs.declared.lane.Halt.{Halt}
use Rattle.nbd_session.specs.declared.lane.Halt.TheVariants as Halts
use Rattle.nbd_session.specs.declared.reader.Take.{Take}
use Rattle.nbd_session.specs.declared.reader.Taken.{Taken}
use Rattle.nbd_session.specs.declared.requests.Next.{Next}
use Rattle.nbd_session.specs.declared.requests.Next.TheVariants.{Ask, Refuse, Stop}
use Rattle.nbd_session.specs.declared.writer.Put.{Put}
use Rattle.nbd_session.specs.declared.writer.Written.{Written}
use Rattle.nbd_session.specs.Asking.{Asked, asked_by}
use Rattle.nbd_session.specs.Puts.{IfDone}
use Rattle.nbd_session.specs.Requests.{IsMessage, IsRefusal}
use Rattle.nbd_session.specs.Turns.{Turn, IsAnswered}
use Rattle.volume_cell.specs.declared.history.Call.{Call}
use Rattle.volume_cell.specs.declared.knowledge.Knowledge.{Knowledge}
use Rattle.volume_cell.specs.Histories.{Begins}
use Rattle.volume_cell.specs.Passes.{IsSamePass}

-- ---- passes of a lane
-- the passes by which a lane asks the reader and the writer: the lane's number is the name of both
abbrev pub IsLane : {A B C D E F : Type 0} → Knowledge A B C → Knowledge D E F → Type 0
IsLane source sink = (lane : ℕ) × (source.name ≡ lane ∷ []) × (sink.name ≡ lane ∷ [])

-- these calls were made by the pass
pub record HasCalled {S E O : Type 0} (old new : Knowledge S E O) (calls : List (Call E O))
    : Type 0 where
  pub same : IsSamePass old new
  pub calls_are : new.calls ≡ old.calls ++ calls
  pub later : Begins old.history new.history

-- ---- one request
-- it was read: an operation is that of a message, and what the session itself answers has its number
abbrev pub WasTaken : Next → Type 0
WasTaken (Ask cookie form op) =
    (structured : Bool) × (bytes : List ℕ) × IsMessage structured bytes cookie (Some op) form
WasTaken (Refuse cookie form number) = (asked : Option Op) × IsRefusal asked number
WasTaken (Stop ending) = Unit {0}

-- The turn is the request that was given, with its reply: one that the session itself answers isn't
-- submitted.
abbrev pub IsTurnOf : Next → Turn → Type 0
IsTurnOf (Ask cookie form op) turn =
    (asked_by turn ≡ record { cookie = cookie; asked = Some op; form = form })
    × IsAnswered (Some op) turn.submitted turn.reply turn.tried
IsTurnOf (Refuse cookie form number) turn = (turn.cookie ≡ cookie) × (turn.form ≡ form)
    × IsRefusal turn.asked number × (turn.submitted ≡ false) × (turn.reply ≡ Errno number)
    × (turn.tried ≡ 0)
IsTurnOf (Stop ending) turn = ⊥

-- the put of a turn's reply, to the request of this number
abbrev pub put_of : ℕ → Turn → Put
put_of number turn =
    record { number = number; cookie = turn.cookie; form = turn.form; reply = turn.reply }

-- the request that was taken was answered, and its reply handed to the writer
pub record IsReplied (take : Call Take Taken) (put : Call Put Written) (turn : Turn) : Type 0 where
  pub turn_of : IsTurnOf take.outcome.next turn
  pub put_is : put.event ≡ put_of take.outcome.number turn

-- the operation that was taken, and was not answered
abbrev pub IsLeft : Next → Asked → Type 0
IsLeft (Ask cookie form op) asked =
    asked ≡ record { cookie = cookie; asked = Some op; form = form }
IsLeft _ asked = ⊥

-- the reply was handed to the writer, which put it, or found that its sink had failed; or the writer
-- couldn't be asked
abbrev pub IsPut : Put → List (Call Put Written) → Option Halt → Type 0
IsPut put puts None = (outcome : Written) × (puts ≡ record { event = put; outcome = outcome } ∷ [])
    × IfDone outcome (Unit {0}) ⊥
IsPut put puts (Some Halts.SinkFailed) = (outcome : Written)
    × (puts ≡ record { event = put; outcome = outcome } ∷ []) × IfDone outcome ⊥ (Unit {0})
IsPut put puts (Some Halts.CellSpent) = puts ≡ []
IsPut put puts _ = ⊥

-- ---- all requests of a lane
-- each request that was taken was answered by its turn, and the reply put
unfoldable pub AreServed : List (Call Take Taken) → List (Call Put Written) → List Turn → Type 0
AreServed [] [] [] = Unit {0}
AreServed (take ∷ takes) (put ∷ puts) (turn ∷ turns) = IsReplied take put turn
    × IfDone put.outcome (Unit {0}) ⊥ × AreServed takes puts turns
AreServed _ _ _ = ⊥

-- Why a lane halted, and what it left: with the last request that it took, its turn and the put of its
-- reply, as far as these came, and the request if it was left without an answer.
pub data IsLast : Halt → List (Call Take Taken) → List (Call Put Written) → List Turn → List Asked
    → Type 0 where
  -- the requests ended
  read_out : (take : Call Take Taken) (ending : Ending) → take.outcome.next ≡ Stop ending
      → IsLast (Halts.RequestsEnded ending) (take ∷ []) [] [] []
  -- the sink failed
  sink_failed : (take : Call Take Taken) (put : Call Put Written) (turn : Turn) → IsReplied take put turn
      → IfDone put.outcome ⊥ (Unit {0}) → IsLast Halts.SinkFailed (take ∷ []) (put ∷ []) (turn ∷ []) []
  -- the port takes no operation any more
  port_spent : (take : Call Take Taken) (asked : Asked) → IsLeft take.outcome.next asked
      → IsLast Halts.PortSpent (take ∷ []) [] [] (asked ∷ [])
  -- the reader's history is full, or the writer's
  reader_spent : IsLast Halts.CellSpent [] [] [] []
  writer_spent : (take : Call Take Taken) (turn : Turn) → IsTurnOf take.outcome.next turn
      → IsLast Halts.CellSpent (take ∷ []) [] (turn ∷ []) []

-- A lane's own calls, one after the other, and its turns; it halted so, and left this unanswered.
pub record HasServed (halt : Halt) (takes : List (Call Take Taken)) (puts : List (Call Put Written))
    (turns : List Turn) (left : List Asked) : Type 0 where
  pub served_takes : List (Call Take Taken)
  pub served_puts : List (Call Put Written)
  pub served : List Turn
  pub last_takes : List (Call Take Taken)
  pub last_puts : List (Call Put Written)
  pub last : List Turn
  pub are_served : AreServed served_takes served_puts served
  pub is_last : IsLast halt last_takes last_puts last left
  pub takes_are : takes ≡ served_takes ++ last_takes
  pub puts_are : puts ≡ served_puts ++ last_puts
  pub turns_are : turns ≡ served ++ last
