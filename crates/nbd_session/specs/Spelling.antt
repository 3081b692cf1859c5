-- What the chunks by which a session answers READs spell.
use Rattle.std.specs.Prelude.{ℕ, ◌≡◌, ◌<◌, Bool, List, ◌++◌, length, Some}
use Rattle.std.specs.List.{AllByRecursion}
use Rattle.plain_disk.specs.declared.operation.Op.{Op}
use Rattle.plain_disk.specs.declared.operation.Op.TheVariants.{Read}
use Rattle.plain_disk.specs.declared.operation.Reply.TheVariants.{Content}
use Rattle.nbd_stream.specs.declared.ending.Ending.{Ending}
use Rattle.nbd_wire.specs.ReadReplying.Parts.{Part, AreHeld, parts_text}
use Rattle.nbd_wire.specs.ReadReplying.Replies.{Answer, Spell, chunks_of}
use Rattle.nbd_session.specs.declared.forms.Form.TheVariants.{Chunks}
use Rattle.nbd_session.specs.Flights.{FlightLog}
use Rattle.nbd_session.specs.Flights as Flights
use Rattle.nbd_session.specs.Replies.{answer_in, reply_text}
use Rattle.nbd_session.specs.Session.{Log, IsInput}
use Rattle.nbd_session.specs.Turns.{Turn}

-- the chunks by which a turn is answered from this offset on, or the one where it is to be whole
abbrev pub chunks_in : Turn → Bool → ℕ → List Part
chunks_in turn whole offset = chunks_of whole offset (answer_in turn.reply)

-- The READ from this offset on was answered by chunks that spell what it came to, which is as many
-- bytes as it asks for where it is a content. The numbers of these chunks are in their ranges. A
-- client that takes such chunks from there which spell an answer reads this one, and comes to what
-- is behind it.
pub record IsSpelt (turn : Turn) (whole : Bool) (offset : ℕ) : Type 0 where
  pub asks : (op : Op) → turn.asked ≡ Some op → (len : ℕ) × (op ≡ Read offset len)
  pub size : (len : ℕ) (bytes : List ℕ) → turn.asked ≡ Some (Read offset len) →
      turn.reply ≡ Content bytes → length bytes ≡ len
  pub text : reply_text turn.form turn.cookie turn.reply
      ≡ parts_text turn.cookie (chunks_in turn whole offset)
  pub held : AreHeld (chunks_in turn whole offset)
  pub spell : Spell offset (chunks_in turn whole offset) (answer_in turn.reply)
  pub read_back : (taken : List Part) (answer : Answer) (behind rest : List ℕ) → AreHeld taken →
      Spell offset taken answer →
      reply_text turn.form turn.cookie turn.reply ++ behind
      ≡ parts_text turn.cookie taken ++ rest →
      (answer ≡ answer_in turn.reply) × (behind ≡ rest)

abbrev pub IsSpeltTurn : Turn → Type 0
IsSpeltTurn turn =
    (whole : Bool) (offset : ℕ) → turn.form ≡ Chunks whole offset → IsSpelt turn whole offset

-- of each session with one request in flight, all READs that were answered by chunks
abbrev pub ReadsAreSpelt : Type 0
ReadsAreSpelt =
    (log : Log) (ending : Ending) → IsInput log.stage log ending →
    AllByRecursion IsSpeltTurn log.turns

-- and of each with several, those of each lane
abbrev pub LanesAreSpelt : Type 0
LanesAreSpelt =
    (depth : ℕ) (flight : FlightLog) (ending : Ending) →
    Flights.IsInput depth flight.stage flight ending →
    (k : ℕ) → k < depth → AllByRecursion IsSpeltTurn (flight.lanes k)
