-- A whole session, on whole strings of bytes.
use Rattle.std.specs.Prelude.{ℕ, ◌≡◌, Bool, false, List, [], ◌++◌, length, Option, Some}
use Rattle.nbd_stream.specs.declared.ending.Ending.{Ending}
use Rattle.nbd_stream.specs.Counts.{capped}
use Rattle.nbd_stream.specs.Moments.{Moment, Talks}
use Rattle.nbd_hand.specs.declared.export.Export.{Export}
use Rattle.nbd_hand.specs.declared.options.ClientOption.{ClientOption}
use Rattle.nbd_hand.specs.declared.options.Course.TheVariants.{Begins}
use Rattle.nbd_hand.specs.Grammar.{AreOptions}
use Rattle.nbd_hand.specs.Handshakes as Handshakes
use Rattle.nbd_hand.specs.Handshakes.{Stage, served, Handshake, HasFlags, IsUnserved, agreed_in}
use Rattle.nbd_session.specs.declared.ending.SessionEnd.{SessionEnd}
use Rattle.nbd_session.specs.Grammar.{AreRequests}
use Rattle.nbd_session.specs.Turns.{Turn, replies_to}

-- what a session took and put, and the requests that it answered
pub record Log : Type 0 where
  pub stage : Stage
  -- the client's flags, 0 where they didn't come
  pub flags : ℕ
  -- the options after which the negotiation went on, and the one that ended it, if one did
  pub options : List ClientOption
  pub last : Option ClientOption
  pub turns : List Turn
  pub taken : List ℕ
  -- the pieces that were put whole, and what may have gone out of the piece that failed
  pub whole : List ℕ
  pub front : List ℕ
  pub ended : Bool

-- its handshake, as far as it came
abbrev pub handshake_of : Log → Handshake
handshake_of log = record {
  stage = log.stage;
  flags = log.flags;
  options = log.options;
  last = log.last;
  taken = log.taken;
  whole = log.whole;
  front = log.front;
  ended = log.ended;
}

-- all that a session answers, message after message
abbrev pub messages_of : Export → Log → List (List ℕ)
messages_of export log =
    Handshakes.messages_of export (handshake_of log) ++ replies_to log.turns

-- all that a session took, by its stage and its ending; nothing where the greeting didn't go out
abbrev pub IsInput : Stage → Log → Ending → Type 0
IsInput served log ending =
    (chosen : List ℕ) × (asked : List ℕ) × HasFlags (handshake_of log) (chosen ++ asked)
    × AreOptions Begins log.options log.last (length log.options) chosen false
    × AreRequests (agreed_in (handshake_of log)).structured (Some ending) log.turns
    (length log.turns) asked log.ended
IsInput stage log ending = (log.turns ≡ []) × IsUnserved stage (handshake_of log) ending

-- The log is that of a session that ended so, from one moment to another.
pub record IsSession (export : Export) (end : SessionEnd) (old new : Moment) (log : Log) : Type
    0 where
  pub number : end.number ≡ export.number
  pub input : IsInput log.stage log end.ending
  pub talks : Talks old new (Some end.ending) log.taken (messages_of export log) log.whole log.front
      log.ended
  pub taken : end.taken ≡ capped (length log.taken)
  pub put : end.put ≡ capped (length log.whole)
