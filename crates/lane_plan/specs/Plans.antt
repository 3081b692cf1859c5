-- How a lane stands by its own calls alone, while a plan awaits the answer to the last of them.
use Rattle.std.specs.Prelude.{ℕ, ◌≡◌, ◌≢◌, ◌+◌, ◌-◌, ◌*◌, ◌/◌, ◌%◌, ◌^◌, ◌<◌, ◌≤◌, ◌++◌, true}
use Rattle.std.specs.Prelude.{false, List}
use Rattle.std.specs.Prelude.{[], ◌∷◌, length, take, min, replicate, Bool, if◌then◌else◌, Some}
use Rattle.std.specs.Prelude.{None}
use Rattle.cipher_laws.specs.Bytes.{AreBytes}
use Rattle.plain_disk.specs.declared.operation.Op.{Op}
use Rattle.plain_disk.specs.declared.operation.Op.TheVariants as Ops
use Rattle.plain_disk.specs.Outcomes.{IsErrorNumber, IsReplyTo}
use Rattle.plain_disk.specs.declared.operation.Reply.{Reply}
use Rattle.sector_disk.specs.Geometry.{IsAtom}
use Rattle.segment_map.specs.Maps.{most_bytes}
use Rattle.segment_map.specs.declared.map.Map.{Map}
use Rattle.segment_map.specs.declared.map.Piece.{Piece}
use Rattle.lane_plan.specs.Calls.{ask_of, event_of, outcome_of}
use Rattle.lane_plan.specs.declared.calls.Answer.{Answer}
use Rattle.lane_plan.specs.declared.calls.Answer.TheVariants as Answers
use Rattle.lane_plan.specs.declared.calls.Call.{Call}
use Rattle.lane_plan.specs.declared.calls.Call.TheVariants as Calls
use Rattle.lane_plan.specs.declared.calls.Next.{Next}
use Rattle.lane_plan.specs.declared.calls.Next.TheVariants as Nexts
use Rattle.lane_plan.specs.declared.plan.Plan.{Plan}
use Rattle.lane_plan.specs.declared.plan.Shape.{Shape}
use Rattle.lane_plan.specs.declared.plan.Stage.{Stage}
use Rattle.lane_plan.specs.declared.plan.Stage.TheVariants.{Refusing, Beginning, Waiting, Moving}
use Rattle.lane_plan.specs.declared.plan.Stage.TheVariants.{Settling, Ending}
use Rattle.volume_machine.specs.Alone.{Alone, MeetsAlone, alone_after, answered_alone}
use Rattle.volume_machine.specs.Answers.{Answered, IsExchange, failed_at}
use Rattle.volume_machine.specs.Asks.{IsRead, IsWrite, has_lock, range_of, wrong_ask}
use Rattle.volume_machine.specs.Fronts.{Front}
use Rattle.volume_machine.specs.Pieces.{IsPieceOf}
use Rattle.volume_machine.specs.Seals.{Seals}
use Rattle.volume_machine.specs.States.{begun}
use Rattle.volume_machine.specs.Steps.{CanSettle, CanFinish}
use Rattle.volume_machine.specs.declared.ask.Ask.{Ask}
use Rattle.volume_machine.specs.declared.ask.Ask.TheVariants.{Read, Write, Flush}
use Rattle.volume_machine.specs.declared.grant.Grant.{Grant}
use Rattle.volume_machine.specs.declared.open.Open.{Open}

-- what a plan is for: a volume of this shape, and this session
abbrev pub shape_of : Plan → Shape
shape_of plan = plan.shape

abbrev pub session_of : Plan → ℕ
session_of plan = plan.operation.session

-- its buffer for pieces, where that is in hand
abbrev pub part_in : Plan → List ℕ
part_in plan = plan.part

-- it is known that its operation will be refused
abbrev pub WillBeRefused : Plan → Type 0
WillBeRefused plan = plan.stage ≡ Refusing

-- its first call
abbrev pub first_call : Plan → Call
first_call plan = Calls.Admit plan.operation.session plan.operation.ask

-- blocks of a disk's atoms, whose bytes are few enough to be counted
pub record IsShape (shape : Shape) : Type 0 where
  pub known : IsAtom shape.atom
  pub small : shape.blocks * shape.atom < 2 ^ 63

-- how many bytes an operation reads or writes
abbrev pub bytes_of : Ask → ℕ
bytes_of (Read offset len) = len
bytes_of (Write offset len fua) = len
bytes_of Flush = 0

-- it writes zeros
abbrev pub is_zeroes : Op → Bool
is_zeroes (Ops.Read offset len) = false
is_zeroes (Ops.Write offset body fua) = false
is_zeroes (Ops.Zeroes offset len fua) = true
is_zeroes Ops.Flush = false

-- how many bytes of an operation the spare buffer is to have: its content, and of zeroes no more
-- than the longest piece
abbrev pub spare_of : Op → ℕ
spare_of (Ops.Read offset len) = len
spare_of (Ops.Write offset body fua) = 0
spare_of (Ops.Zeroes offset len fua) = min len most_bytes
spare_of Ops.Flush = 0

-- and how many its buffer has, which of a write is its body
abbrev pub buffered : Op → ℕ
buffered (Ops.Write offset body fua) = length body
buffered op = spare_of op

-- the longest piece that an operation may have besides others
abbrev pub part_of : ℕ → Ask → ℕ
part_of atom ask = min (bytes_of ask - atom) most_bytes

-- both buffers are long enough for an operation: the spare one for its content or its zeros, the
-- other for its pieces
pub record HasRoom (atom : ℕ) (op : Op) (spare part : List ℕ) : Type 0 where
  pub content : spare_of op ≤ length spare
  pub pieces : part_of atom (ask_of op) ≤ length part

-- what of an operation stands in its buffer: the bytes that were read
abbrev pub HasPlain : List ℕ → Op → List ℕ → Type 0
HasPlain whole (Ops.Read offset len) plain = take (length plain) whole ≡ plain
HasPlain whole (Ops.Write offset body fua) plain = take (length plain) body ≡ plain
HasPlain whole (Ops.Zeroes offset len fua) plain = take (length plain) (replicate len 0) ≡ plain
HasPlain whole Ops.Flush plain = plain ≡ []

-- and what its pieces need of it: room for the content, or the body, or the zeros of a piece
abbrev pub HasRest : List ℕ → Op → Type 0
HasRest whole (Ops.Read offset len) = len ≤ length whole
HasRest whole (Ops.Write offset body fua) = take (length body) whole ≡ body
HasRest whole (Ops.Zeroes offset len fua) =
    take (min len most_bytes) whole ≡ replicate (min len most_bytes) 0
HasRest whole Ops.Flush = Unit {0}

-- an operation that isn't wrong, before its grant, with its buffers
pub record IsSupplied (shape : Shape) (o : Open) (zeroes : Bool) (whole part : List ℕ)
    (op : Op) : Type 0 where
  pub known : IsShape shape
  pub asks : o.ask ≡ ask_of op
  pub writes : zeroes ≡ is_zeroes op
  pub proper : wrong_ask shape.atom (shape.blocks * shape.atom) o.ask ≡ None
  pub rest : HasRest whole op
  pub room : part_of shape.atom o.ask ≤ length part

-- an operation of whole blocks, as all are that aren't refused: it has no edge
abbrev pub IsAligned : ℕ → Ask → Type 0
IsAligned atom (Read offset len) = (offset % atom ≡ 0) × (len % atom ≡ 0)
IsAligned atom (Write offset len fua) = (offset % atom ≡ 0) × (len % atom ≡ 0)
IsAligned atom Flush = Unit {0}

-- an operation is under way under this map, and none of its calls failed
pub record IsUnderWay (shape : Shape) (o : Open) (op : Op) (alone : Alone) (map : Map) : Type 0
  where
    pub known : IsShape shape
    pub operation : alone.operation ≡ Some o
    pub granted : alone.granted ≡ Some map
    pub asks : o.ask ≡ ask_of op
    pub atom : map.atom ≡ shape.atom
    pub blocks : map.blocks ≡ shape.blocks
    pub proper : wrong_ask shape.atom (shape.blocks * shape.atom) o.ask ≡ None
    pub range_is : o.range ≡ range_of shape.atom o.ask
    pub inside : o.range.end ≤ shape.blocks
    pub starts : o.range.start ≤ o.next
    pub within : o.next ≤ o.range.end
    pub unfailed : o.failed ≡ false
    pub unsettled : o.settled ≡ false
    pub fetched : o.fetched ≡ 0
    pub size : length alone.plain ≡ (o.next - o.range.start) * shape.atom

-- a piece is all of an operation, or isn't
abbrev pub IsOnly : Open → Piece → Type 0
IsOnly o piece = piece.count ≡ o.range.end - o.range.start

abbrev pub IsPart : Open → Piece → Type 0
IsPart o piece = piece.count ≢ o.range.end - o.range.start

-- all pieces up to the next one were made, and the buffers are back
pub record IsBack (plan : Plan) (op : Op) (alone : Alone) (map : Map) : Type 0 where
  pub course : IsUnderWay plan.shape plan.operation op alone map
  pub writes : plan.zeroes ≡ is_zeroes op
  pub plain : HasPlain plan.whole op alone.plain
  pub rest : plan.operation.next < plan.operation.range.end → HasRest plan.whole op
  pub part : plan.operation.next < plan.operation.range.end →
      part_of plan.shape.atom plan.operation.ask ≤ length plan.part

-- a piece is being made, in a buffer of so many bytes
pub record Moves (plan : Plan) (op : Op) (alone : Alone) (map : Map) (piece : Piece)
    (room : ℕ) : Type 0 where
  pub stage : plan.stage ≡ Moving map piece
  pub course : IsUnderWay plan.shape plan.operation op alone map
  pub next : IsPieceOf map plan.operation piece
  pub writes : plan.zeroes ≡ is_zeroes op
  pub plain : HasPlain plan.whole op alone.plain
  pub rest : IsPart plan.operation piece → HasRest plan.whole op
  pub part : IsPart plan.operation piece → part_of plan.shape.atom plan.operation.ask ≤ room

-- the sealed bytes are those of the next piece of the operation's body
pub record IsSealed (seals : Seals) (atom : ℕ) (whole : List ℕ) (op : Op) (plain : List ℕ)
    (piece : Piece) (sealed : List ℕ) : Type 0 where
  pub size : length sealed ≡ piece.count * atom
  pub are_bytes : AreBytes sealed
  pub opened_size : length (seals.opened piece.side piece.first sealed) ≡ piece.count * atom
  pub so_far : HasPlain whole op (plain ++ seals.opened piece.side piece.first sealed)

-- a read of a length that may be served stands, at this byte, behind the bytes that were read
pub record HasRead (atom place offset len : ℕ) (plain : List ℕ) : Type 0 where
  pub short : len ≤ 33554432
  pub first : offset / atom * atom ≡ offset
  pub place_is : place ≡ offset + length plain
  pub small : place < 2 ^ 63

-- all its calls but the finish were made
pub record IsEnding (atom : ℕ) (o : Open) (whole : List ℕ) (op : Op) (alone : Alone) : Type 0 where
  pub operation : alone.operation ≡ Some o
  pub map : Map
  pub granted : alone.granted ≡ Some map
  pub asks : o.ask ≡ ask_of op
  pub known : IsAtom atom
  pub aligned : IsAligned atom o.ask
  pub can : CanFinish o
  pub plain : HasPlain whole op alone.plain
  pub total : o.failed ≡ false → length alone.plain ≡ bytes_of o.ask
  pub read : (offset : ℕ) (len : ℕ) → o.ask ≡ Read offset len →
      HasRead atom (o.next * atom) offset len alone.plain
  pub unread : o.failed ≡ true → (offset : ℕ) (len : ℕ) → o.ask ≡ Read offset len →
      length alone.plain < len

-- the error of an operation that has failed: of a read with the offset of the piece that wasn't
-- read
abbrev pub failure_of : Open → ℕ → Reply
failure_of o atom = failed_at o.ask (o.next * atom)

-- The plan of an operation awaits the answer to this call, which was made on a lane that stood so.
pub data Awaits (seals : Seals) (plan : Plan) (op : Op) (alone : Alone) : Call → Type 0 where
  refuses : plan.stage ≡ Refusing → plan.operation.ask ≡ ask_of op → alone.operation ≡ None →
      Awaits seals plan op alone (Calls.Admit plan.operation.session plan.operation.ask)
  begins : plan.stage ≡ Beginning →
      IsSupplied plan.shape plan.operation plan.zeroes plan.whole plan.part op →
      alone.operation ≡ None →
      Awaits seals plan op alone (Calls.Admit plan.operation.session plan.operation.ask)
  asks : plan.stage ≡ Waiting →
      IsSupplied plan.shape plan.operation plan.zeroes plan.whole plan.part op →
      alone.operation ≡ Some (begun plan.shape.atom plan.operation.session plan.operation.ask) →
      alone.granted ≡ None → alone.plain ≡ [] →
      has_lock plan.operation.ask ≡ true → Awaits seals plan op alone Calls.Ask
  reads : (map : Map) (piece : Piece) (buffer : List ℕ) (len : ℕ) →
      Moves plan op alone map piece (length buffer) →
      IsRead plan.operation.ask → len ≡ piece.count * plan.shape.atom → len ≤ length buffer →
      Awaits seals plan op alone (Calls.Read buffer len)
  writes : (map : Map) (piece : Piece) (prepared : Front) →
      Moves plan op alone map piece prepared.room →
      IsWrite plan.operation.ask → IsSealed seals plan.shape.atom plan.whole op alone.plain piece
      prepared.bytes →
      Awaits seals plan op alone (Calls.Write prepared)
  settles : (map : Map) → plan.stage ≡ Settling →
      IsUnderWay plan.shape plan.operation op alone map → HasPlain plan.whole op alone.plain →
      CanSettle plan.operation → plan.operation.next ≡ plan.operation.range.end →
      Awaits seals plan op alone Calls.Settle
  finishes : plan.stage ≡ Ending → IsEnding plan.shape.atom plan.operation plan.whole op alone →
      Awaits seals plan op alone Calls.Finish

-- a grant of the plan's blocks, in a volume of its shape
pub record IsGrantFor (plan : Plan) (grant : Grant) : Type 0 where
  pub atom : grant.map.atom ≡ plan.shape.atom
  pub blocks : grant.map.blocks ≡ plan.shape.blocks
  pub range_is : grant.range ≡ range_of plan.shape.atom plan.operation.ask

-- What a call may answer. A plan that will be refused is, with the number of an error; a buffer
-- comes back as long as it was.
abbrev pub MayAnswer : Plan → Call → Answer → Type 0
MayAnswer plan (Calls.Admit session ask) (Answers.Held grant) = (WillBeRefused plan → ⊥)
    × IsGrantFor plan grant
MayAnswer plan (Calls.Admit session ask) (Answers.Waiting lane) = (WillBeRefused plan → ⊥)
    × (has_lock ask ≡ true)
MayAnswer plan (Calls.Admit session ask) (Answers.Refused number) = IsErrorNumber number
MayAnswer plan Calls.Ask (Answers.Held grant) = IsGrantFor plan grant
MayAnswer plan Calls.Ask (Answers.Waiting lane) = Unit {0}
MayAnswer plan (Calls.Read buffer len) (Answers.Got back n) = (n ≡ len)
    × (length back ≡ length buffer)
MayAnswer plan (Calls.Read buffer len) Answers.Device = Unit {0}
MayAnswer plan (Calls.Read buffer len) Answers.Broken = Unit {0}
MayAnswer plan (Calls.Write prepared) (Answers.Written back) = length back ≡ prepared.room
MayAnswer plan (Calls.Write prepared) Answers.Device = Unit {0}
MayAnswer plan (Calls.Write prepared) Answers.Broken = Unit {0}
MayAnswer plan Calls.Settle Answers.Done = Unit {0}
MayAnswer plan Calls.Settle Answers.Device = Unit {0}
MayAnswer plan Calls.Settle Answers.Broken = Unit {0}
MayAnswer plan Calls.Finish Answers.Done = Unit {0}
MayAnswer plan _ _ = ⊥

-- exactly this operation was answered, for this session, and none is under way
pub record IsAnswered (session : ℕ) (op : Op) (reply : Reply) (alone : Alone)
    (answered : List Answered) : Type 0 where
  pub over : alone.operation ≡ None
  pub one : Answered
  pub only : answered ≡ one ∷ []
  pub session_is : one.session ≡ session
  pub tried : ℕ
  pub exchange : IsExchange one (record { op = op; reply = reply; tried = tried })
  pub is_reply : IsReplyTo op reply

-- What comes next on a lane that stands so, where the last call has answered these operations: a
-- call that meets its conditions, or the reply.
abbrev pub Follows : Seals → Plan → Op → Alone → List Answered → Next → Type 0
Follows seals plan op alone answered (Nexts.Call call) =
    (answered ≡ []) × ((lane : ℕ) → MeetsAlone seals alone (event_of lane call))
    × Awaits seals plan op alone call
Follows seals plan op alone answered (Nexts.Reply reply spare) =
    IsAnswered (session_of plan) op reply alone answered

-- the plan may be told this answer to its last call
unfoldable pub IsTold : Seals → Plan → Answer → Type 0
IsTold seals plan answer = (op : Op) × (alone : Alone) × (call : Call)
    × Awaits seals plan op alone call × MayAnswer plan call answer

-- and then, on whatever lane it is, this comes next
unfoldable pub Goes : Seals → Plan → Answer → Plan → Next → Type 0
Goes seals old answer new next = (op : Op) (alone : Alone) (call : Call) (lane : ℕ) →
    Awaits seals old op alone call → MayAnswer old call answer →
    Follows seals new op (alone_after old.shape.atom seals alone (event_of lane call)
    (outcome_of answer))
    (answered_alone old.shape.atom alone (event_of lane call) (outcome_of answer)) next

-- a call that failed
abbrev pub IsFailure : Answer → Type 0
IsFailure Answers.Device = Unit {0}
IsFailure Answers.Broken = Unit {0}
IsFailure _ = ⊥

abbrev pub IsWaiting : Answer → Type 0
IsWaiting (Answers.Waiting lane) = Unit {0}
IsWaiting _ = ⊥

-- no plan begins its operation twice
abbrev pub IsBegun : Call → Type 0
IsBegun (Calls.Admit session ask) = ⊥
IsBegun _ = Unit {0}

abbrev pub HasBegun : Next → Type 0
HasBegun (Nexts.Call call) = IsBegun call
HasBegun (Nexts.Reply reply spare) = Unit {0}

-- an operation that is to be kept for certain after its pieces
abbrev pub MustSettle : Ask → Type 0
MustSettle (Read offset len) = ⊥
MustSettle (Write offset len fua) = (fua ≡ true) × (0 < len)
MustSettle Flush = Unit {0}

-- where a piece's bytes stand in the operation's
abbrev pub place_in : Plan → Piece → ℕ
place_in plan piece = (piece.first - plan.operation.range.start) * plan.shape.atom

-- where the bytes that a piece writes begin in the buffer: zeros stand at its front alone
abbrev pub source_in : Plan → Piece → ℕ
source_in plan piece = if plan.zeroes then 0 else place_in plan piece

-- the whole buffer has a place for a piece
pub record HasPlace (plan : Plan) (piece : Piece) (len : ℕ) : Type 0 where
  pub order : plan.operation.range.start ≤ piece.first
  pub small : place_in plan piece < 2 ^ 63
  pub within : place_in plan piece + len ≤ length plan.whole

-- and has it there
pub record IsTakenIn (old new : Plan) (piece : Piece) (len : ℕ) (buffer : List ℕ) : Type 0 where
  pub front : take (place_in old piece + len) new.whole
      ≡ take (place_in old piece) old.whole ++ take len buffer
  pub whole : length new.whole ≡ length old.whole
  pub part : new.part ≡ buffer

-- how many calls are left at most
abbrev pub left_at : ℕ → Open → Stage → ℕ
left_at atom o Refusing = 0
left_at atom o Beginning = 2 + ((range_of atom o.ask).end - (range_of atom o.ask).start)
left_at atom o Waiting = 2 + ((range_of atom o.ask).end - (range_of atom o.ask).start)
left_at atom o (Moving map piece) = 1 + (o.range.end - o.next)
left_at atom o Settling = 1
left_at atom o Ending = 0

unfoldable pub calls_left : Plan → ℕ
calls_left plan = left_at plan.shape.atom plan.operation plan.stage

-- fewer calls are left where there is one
abbrev pub IsFewer : Plan → Plan → Next → Type 0
IsFewer old new (Nexts.Call call) = calls_left new < calls_left old
IsFewer old new (Nexts.Reply reply spare) = Unit {0}
