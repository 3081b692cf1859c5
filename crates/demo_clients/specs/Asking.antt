-- What sessions do whose input is what such a client sends.
use Rattle.std.specs.Prelude.{ℕ, ◌≡◌, ◌+◌, ◌^◌, ◌<◌, ◌≤◌, List, [], ◌∷◌, length, Some}
use Rattle.base_terms.specs.Blocks.{joined}
use Rattle.plain_disk.specs.declared.operation.Op.{Op}
use Rattle.plain_disk.specs.declared.operation.Op.TheVariants.{Read, Write, Zeroes, Flush}
use Rattle.nbd_wire.specs.declared.options.OptionType.TheVariants.{Go}
use Rattle.nbd_stream.specs.declared.ending.Ending.{Ending}
use Rattle.nbd_stream.specs.declared.ending.Ending.TheVariants.{Disconnected}
use Rattle.nbd_stream.specs.Endings.{IsByInput}
use Rattle.nbd_stream.specs.Moments.{Moment}
use Rattle.nbd_hand.specs.declared.export.Export.{Export}
use Rattle.nbd_hand.specs.Handshakes.{served}
use Rattle.nbd_session.specs.declared.forms.Form.TheVariants.{Simple}
use Rattle.nbd_session.specs.Reading.{Asked, Reads, asked_of}
use Rattle.nbd_session.specs.Replies.{errno_of}
use Rattle.nbd_session.specs.declared.ending.SessionEnd.{SessionEnd}
use Rattle.nbd_session.specs.Session.{IsSession, Log, messages_of}
use Rattle.nbd_session.specs.Turns.{Turn, exchanges_of}
use Rattle.demo_clients.specs.Inputs.{input_asking, demo_input, go_data}
use Rattle.demo_clients.specs.Operations.{AllServed, demo_operations, ops_of}

-- a request for the operation has numbers that fit their fields, and a write no more than 33554432
-- bytes
abbrev pub CanBeAsked : Op → Type 0
CanBeAsked (Read offset len) = (offset < 2 ^ 64) × (len < 2 ^ 32)
CanBeAsked (Write offset body fua) = (offset < 2 ^ 64) × (length body ≤ 33554432)
CanBeAsked (Zeroes offset len fua) = (offset < 2 ^ 64) × (len < 2 ^ 32)
CanBeAsked Flush = Unit {0}

unfoldable pub AllCanBeAsked : List Op → Type 0
AllCanBeAsked [] = Unit {0}
AllCanBeAsked (op ∷ ops) = CanBeAsked op × AllCanBeAsked ops

-- requests for operations under rising cookies, each to be answered by a simple reply
unfoldable pub asked_from : ℕ → List Op → List Asked
asked_from cookie [] = []
asked_from cookie (op ∷ ops) =
    record { cookie = cookie; asked = Some op; form = Simple } ∷ asked_from (cookie + 1) ops

-- no request was answered an error
unfoldable pub AreGranted : List Turn → Type 0
AreGranted [] = Unit {0}
AreGranted (turn ∷ turns) = (errno_of turn.reply ≡ 0) × AreGranted turns

-- a session came to its requests, was asked just these operations, and took all that was sent
pub record AsksAll (ops : List Op) (log : Log) : Type 0 where
  pub stage : log.stage ≡ served
  pub flags : log.flags ≡ 3
  pub options : log.options ≡ []
  pub last : log.last ≡ Some (record { option = Go; body = go_data })
  pub asked : asked_of log.turns ≡ asked_from 0 ops
  pub taken : log.taken ≡ input_asking ops

-- where nothing was answered an error, the operations that were submitted are these, and each was
-- served
abbrev pub ServesThese : List Op → List Turn → Type 0
ServesThese ops turns =
    AreGranted turns → (ops_of (exchanges_of turns) ≡ ops) × AllServed (exchanges_of turns)

-- a session that reads what such a client sends, and that its input ended
abbrev pub InputsAsk : Type 0
InputsAsk =
    (ops : List Op) (log : Log) (ending : Ending) → AllCanBeAsked ops → length ops < 2 ^ 32 →
    Reads log ending (input_asking ops) →
    (ending ≡ Disconnected) × AsksAll ops log × ServesThese ops log.turns

-- the same of a session over a connection: it disconnected, and put all its messages
pub record IsScripted (export : Export) (ops : List Op) (end : SessionEnd) (new : Moment)
    (log : Log) : Type 0 where
  pub ending : end.ending ≡ Disconnected
  pub asks : AsksAll ops log
  pub put : new.sink.had ≡ Some (joined (messages_of export log))
  pub serves : ServesThese ops log.turns

-- session `i` of `k`, which have `m` blocks among them, over a connection that gave and was put
-- nothing before, where its input ended it
abbrev pub SessionsAsk : Type 0
SessionsAsk =
    (export : Export) (end : SessionEnd) (old new : Moment) (log : Log) (seed m k i : ℕ) →
    m ≤ 16384 → i < k → IsSession export end old new log →
    old.source.left ≡ Some (demo_input seed m k i) → old.sink.had ≡ Some [] →
    IsByInput end.ending → IsScripted export (demo_operations seed m k i) end new log
