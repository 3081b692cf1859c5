-- A whole session with as many requests in flight as it has lanes.
use Rattle.std.specs.Prelude.{ℕ, zero, suc, ◌≡◌, ◌≢◌, ◌≤◌, ◌<◌, ◌+◌, Bool, false, true, List, [], ◌∷◌, ◌++◌, length}
use Rattle.std.specs.Prelude.{Option, Some, None}
use Rattle.base_terms.specs.Causes.{Rose}
use Rattle.plain_disk.specs.declared.operation.Op.{Op}
use Rattle.nbd_stream.specs.declared.ending.Ending.{Ending}
use Rattle.nbd_stream.specs.declared.ending.Ending.TheVariants.{Memory, PortSpent, ReadFault, WriteFault}
use Rattle.nbd_stream.specs.Counts.{capped}
use Rattle.nbd_stream.specs.Endings.{IsByInput}
use Rattle.nbd_stream.specs.Moments.{GoesOut, Moment, Traffic}
use Rattle.nbd_stream.specs.Traffic.{HasEnded}
use Rattle.nbd_hand.specs.declared.export.Export.{Export}
use Rattle.nbd_hand.specs.declared.options.ClientOption.{ClientOption}
use Rattle.nbd_hand.specs.declared.options.Course.TheVariants.{Begins}
use Rattle.nbd_hand.specs.Grammar.{AreOptions}
use Rattle.nbd_hand.specs.Handshakes as Handshakes
use Rattle.nbd_hand.specs.Handshakes.{Stage, served, Handshake, HasFlags, IsUnserved, agreed_in}
use Rattle.nbd_session.specs.declared.ending.SessionEnd.{SessionEnd}
use Rattle.nbd_session.specs.Asking.{Asked, SpellsAsked, asked_of}
use Rattle.nbd_session.specs.Merges.{IsMerge}
use Rattle.nbd_session.specs.Session as Session
use Rattle.nbd_session.specs.Session.{IsSession, Log}
use Rattle.nbd_session.specs.Takes.{ReadingEnds}
use Rattle.nbd_session.specs.Turns.{Turn, IsAnswered, replies_to}

-- ---- what was taken
-- The bytes are these requests, one message after the other, with what came then: how the reading
-- ended, if it did.
pub record AreTaken (structured : Bool) (read : Option Ending) (asked : List Asked) (taken : List ℕ)
    (ended : Bool) : Type 0 where
  pub text : List ℕ
  pub rest : List ℕ
  pub parts : taken ≡ text ++ rest
  pub spells : SpellsAsked structured asked text
  pub ends : ReadingEnds read (length asked) ended rest

-- The session ends as its reading did, unless its sink failed, or a port took no more operations; then
-- a lane that is alone hasn't come to the end of its reading. Where memory was wanted for the lanes,
-- none was read.
abbrev pub IsEndingOf : ℕ → Option Ending → List Asked → Ending → Type 0
IsEndingOf depth read asked WriteFault = depth ≡ 1 → read ≡ None
IsEndingOf depth read asked PortSpent = depth ≡ 1 → read ≡ None
IsEndingOf depth read asked Memory = (read ≡ None) × (asked ≡ [])
IsEndingOf depth read asked ending = read ≡ Some ending

-- ---- what was answered
-- each request was answered by what it may be
unfoldable pub AreAnswered : List Turn → Type 0
AreAnswered [] = Unit {0}
AreAnswered (turn ∷ turns) = IsAnswered turn.asked turn.submitted turn.reply turn.tried
    × AreAnswered turns

-- each of them asks for an operation
unfoldable pub AreOperations : List Asked → Type 0
AreOperations [] = Unit {0}
AreOperations (one ∷ asked) = ((op : Op) × (one.asked ≡ Some op)) × AreOperations asked

-- What the lanes lack, by the session's ending. Where a port took no more operations, a lane left the
-- one that it had taken, and each reply was put. Where the sink failed, a lane that put a reply, the
-- last one perhaps in part, lacks nothing more. Else no lane lacks anything.
abbrev pub LacksBy : Ending → ℕ → (puts : ℕ → List (List ℕ)) → (left : ℕ → List Asked)
    → (unput : ℕ → List (List ℕ)) → Type 0
LacksBy PortSpent depth puts left unput = ((k : ℕ) × (k < depth) × (left k ≢ []))
    × ((k : ℕ) → k < depth → unput k ≡ [])
LacksBy WriteFault depth puts left unput =
    (k : ℕ) × (k < depth) × (puts k ≢ []) × (left k ≡ []) × (unput k ≡ [])
LacksBy _ depth puts left unput = (k : ℕ) → k < depth → (left k ≡ []) × (unput k ≡ [])

-- Of the requests that were asked each was taken by one of so many lanes, which answered those that it
-- took in their order, and put the replies in that order. The last one of a lane may be an operation
-- that was left without its answer, or its reply may not have been put, as the session's ending says.
pub record AreAnsweredBy (depth : ℕ) (ending : Ending) (asked : List Asked)
    (lanes : ℕ → List Turn) (left : ℕ → List Asked) (unput : ℕ → List (List ℕ))
    (sent : List (List ℕ)) : Type 0 where
  pub answered : (k : ℕ) → k < depth → AreAnswered (lanes k)
  pub operations : (k : ℕ) → k < depth → AreOperations (left k)
  pub taken : IsMerge depth (λ k. asked_of (lanes k) ++ left k) asked
  pub puts : ℕ → List (List ℕ)
  pub replies : (k : ℕ) → k < depth → puts k ++ unput k ≡ replies_to (lanes k)
  pub sent_are : IsMerge depth puts sent
  pub few : (k : ℕ) → k < depth → length (left k) + length (unput k) ≤ 1
  pub lacks : LacksBy ending depth puts left unput

-- ---- the session
-- what a session took and put; the requests that it was asked, in order, and how the reading ended, if
-- it did; what each lane answered, the operations that it left unanswered and the replies that it didn't
-- put; and the replies in the order in which they were put
pub record FlightLog : Type 0 where
  pub stage : Stage
  -- the client's flags, 0 where they didn't come
  pub flags : ℕ
  -- the options after which the negotiation went on, and the one that ended it, if one did
  pub options : List ClientOption
  pub last : Option ClientOption
  pub asked : List Asked
  pub read : Option Ending
  pub lanes : ℕ → List Turn
  pub left : ℕ → List Asked
  pub unput : ℕ → List (List ℕ)
  pub sent : List (List ℕ)
  pub taken : List ℕ
  -- the pieces that were put whole, and what may have gone out of the piece that failed
  pub whole : List ℕ
  pub front : List ℕ
  pub ended : Bool

-- its handshake, as far as it came
abbrev pub handshake_of : FlightLog → Handshake
handshake_of log = record {
  stage = log.stage;
  flags = log.flags;
  options = log.options;
  last = log.last;
  taken = log.taken;
  whole = log.whole;
  front = log.front;
  ended = log.ended;
}

-- all that a session answers, message after message
abbrev pub messages_of : Export → FlightLog → List (List ℕ)
messages_of export log = Handshakes.messages_of export (handshake_of log) ++ log.sent

-- all that a session took, by its stage and its ending; nothing where the greeting didn't go out
abbrev pub IsInput : ℕ → Stage → FlightLog → Ending → Type 0
IsInput depth served log ending =
    (chosen : List ℕ) × (requests : List ℕ)
    × HasFlags (handshake_of log) (chosen ++ requests)
    × AreOptions Begins log.options log.last (length log.options) chosen false
    × AreTaken (agreed_in (handshake_of log)).structured log.read log.asked requests log.ended
    × IsEndingOf depth log.read log.asked ending
    × AreAnsweredBy depth ending log.asked log.lanes log.left log.unput log.sent
IsInput depth stage log ending = (log.asked ≡ []) × (log.read ≡ Some ending)
    × ((k : ℕ) → (log.lanes k ≡ []) × (log.left k ≡ []) × (log.unput k ≡ [])) × (log.sent ≡ [])
    × IsUnserved stage (handshake_of log) ending

-- the source failed exactly where the reading ended so
abbrev pub SourceBy : Option Ending → (before now : ℕ) → Type 0
SourceBy (Some ReadFault) before now = Rose before now
SourceBy _ before now = now ≡ before

-- and the sink exactly where the session did
abbrev pub SinkBy : Ending → (before now : ℕ) → Type 0
SinkBy WriteFault before now = Rose before now
SinkBy _ before now = now ≡ before

-- The log is that of a session of so many lanes that ended so, from one moment to another.
pub record IsFlight (depth : ℕ) (export : Export) (end : SessionEnd) (old new : Moment)
    (log : FlightLog) : Type 0 where
  pub number : end.number ≡ export.number
  pub input : IsInput depth log.stage log end.ending
  pub traffic : Traffic old new log.taken log.whole log.front
  pub at_end : log.ended ≡ true → HasEnded old.source new.source
  pub goes : GoesOut end.ending (messages_of export log) log.whole log.front
  pub source_failed : SourceBy log.read old.source.faults new.source.faults
  pub sink_failed : SinkBy end.ending old.sink.faults new.sink.faults
  pub taken : end.taken ≡ capped (length log.taken)
  pub put : end.put ≡ capped (length log.whole)

-- ---- one request in flight
-- what is of the first lane, where there is no other
abbrev pub lane_zero : {X : Type 0} → List X → ℕ → List X
lane_zero items zero = items
lane_zero items (suc k) = []

-- a handshake, with whether the end of the input was found
abbrev pub up_to : Handshake → Bool → Handshake
up_to hand ended = record hand { ended = ended }

-- the log of one lane is that of a session: the same handshake, turns and bytes, and the replies in order
pub record IsOneLane (log : Log) (flight : FlightLog) : Type 0 where
  pub hand : handshake_of flight ≡ up_to (Session.handshake_of log) flight.ended
  pub ended : flight.ended ≡ true → log.ended ≡ true
  pub lanes : flight.lanes ≡ lane_zero log.turns
  pub sent : flight.sent ≡ replies_to log.turns

-- a session with one request in flight is one of one lane, which answered its requests in their order
abbrev pub SessionsAreFlights : Type 0
SessionsAreFlights =
    (export : Export) (end : SessionEnd) (old new : Moment) (log : Log) →
    IsSession export end old new log →
    (flight : FlightLog) × IsOneLane log flight × IsFlight 1 export end old new flight

-- And one of one lane is a session with one request in flight, of the same handshake, turns and bytes.
-- But such a session doesn't end for want of memory behind its negotiation, as a lane may.
abbrev pub FlightsAreSessions : Type 0
FlightsAreSessions =
    (export : Export) (end : SessionEnd) (old new : Moment) (flight : FlightLog) →
    IsFlight 1 export end old new flight → (flight.stage ≡ served → end.ending ≢ Memory) →
    (log : Log) × (log.turns ≡ flight.lanes 0)
    × (Session.handshake_of log ≡ handshake_of flight) × IsSession export end old new log

-- it puts its replies in the order of its requests
abbrev pub OneLaneIsInOrder : Type 0
OneLaneIsInOrder =
    (ending : Ending) (asked : List Asked) (lanes : ℕ → List Turn) (left : ℕ → List Asked)
    (unput : ℕ → List (List ℕ)) (sent : List (List ℕ)) →
    AreAnsweredBy 1 ending asked lanes left unput sent →
    (asked ≡ asked_of (lanes 0) ++ left 0) × (replies_to (lanes 0) ≡ sent ++ unput 0)
    × (length (left 0) + length (unput 0) ≤ 1)
    × LacksBy ending 1 (λ k. sent) left unput

-- ---- what was read
-- A session that its input ended took the bytes that one with one request in flight takes which is asked
-- the same, however many lanes it has.
abbrev pub FlightsReadAsSessions : Type 0
FlightsReadAsSessions =
    (depth : ℕ) (export : Export) (end : SessionEnd) (old new : Moment) (flight : FlightLog) →
    IsByInput end.ending → IsFlight depth export end old new flight →
    (log : Log) × (asked_of log.turns ≡ flight.asked)
    × (Session.handshake_of log ≡ handshake_of flight)
    × Session.IsInput log.stage log end.ending
