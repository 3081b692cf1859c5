-- Operations that were answered, and what they are to a plain disk.
use Rattle.std.specs.Prelude.{ℕ, ◌≡◌, ◌+◌, ◌*◌, ◌/◌, max, ◌==◌, if◌then◌else◌, List, [], ◌∷◌, length}
use Rattle.std.specs.Prelude.{take, Option, Some, None}
use Rattle.base_terms.specs.ErrorNumbers.{device_error}
use Rattle.plain_disk.specs.declared.operation.Op.{Op}
use Rattle.plain_disk.specs.declared.operation.Op.TheVariants as Ops
use Rattle.plain_disk.specs.declared.operation.Reply.{Reply}
use Rattle.plain_disk.specs.declared.operation.Reply.TheVariants.{Content, Done, Errno, ErrnoAt}
use Rattle.plain_disk.specs.Operations.{meaning_of}
use Rattle.plain_disk.specs.Plain.{Exchange}
use Rattle.volume_machine.specs.Asks.{has_lock, offset_of}
use Rattle.volume_machine.specs.Edges.{InPlain, KeepsEdges, in_range, nothing}
use Rattle.volume_machine.specs.Events.{Event, admits, settles, finishes, Outcome, refused, done}
use Rattle.volume_machine.specs.declared.ask.Ask.{Ask}
use Rattle.volume_machine.specs.declared.ask.Ask.TheVariants.{Read, Write, Flush}
use Rattle.volume_machine.specs.declared.open.Open.{Open}

-- an operation that was answered, on blocks of `atom` bytes: the session that asked for it, what it
-- asked for, what it had in plain, and its reply
pub record Answered : Type 0 where
  pub session : ℕ
  pub atom : ℕ
  pub ask : Ask
  pub plain : InPlain
  pub reply : Reply

abbrev pub refusal : ℕ → ℕ → Ask → ℕ → Answered
refusal atom session ask number = record {
  session = session;
  atom = atom;
  ask = ask;
  plain = nothing;
  reply = Errno number;
}

-- a refused operation is answered at its admit
abbrev pub by_admit : ℕ → ℕ → Ask → Outcome → List Answered
by_admit atom session ask (refused number) = refusal atom session ask number ∷ []
by_admit atom session ask _ = []

-- a flush at its settle
abbrev pub flush_reply : Outcome → Reply
flush_reply done = Done
flush_reply _ = Errno device_error

abbrev pub by_settle : ℕ → Option Open → Outcome → List Answered
by_settle atom None outcome = []
by_settle atom (Some o) outcome =
    if has_lock o.ask then []
    else record {
      session = o.session;
      atom = atom;
      ask = o.ask;
      plain = nothing;
      reply = flush_reply outcome;
    } ∷ []

-- the error of a device, of a read with its place
abbrev pub failed_at : Ask → ℕ → Reply
failed_at (Read offset len) place = ErrnoAt device_error place
failed_at _ place = Errno device_error

-- every other at its finish: by 5 where one of its events answered that the device failed or the
-- volume is broken, and of a read with the place of the first byte of its range in the piece at which
-- that was, which is the first one behind the blocks that were read; a read else by the bytes of its
-- range, out of its pieces joined
abbrev pub failed_reply : ℕ → Ask → List ℕ → Reply
failed_reply atom ask bytes =
    failed_at ask (max (offset_of ask) (offset_of ask / atom * atom + length bytes))

abbrev pub full_reply : ℕ → Ask → List ℕ → Reply
full_reply atom (Read offset len) bytes = Content (in_range atom offset len bytes)
full_reply atom _ bytes = Done

abbrev pub by_finish : ℕ → Option Open → InPlain → List Answered
by_finish atom None plain = []
by_finish atom (Some o) plain =
    record {
      session = o.session;
      atom = atom;
      ask = o.ask;
      plain = plain;
      reply = if o.failed then failed_reply atom o.ask plain.bytes
          else full_reply atom o.ask plain.bytes;
    } ∷ []

-- what an event answers, of its lane's open operation and what that has in plain
abbrev pub answers : ℕ → Event → Outcome → Option Open → InPlain → List Answered
answers atom (admits lane session ask) outcome operation plain = by_admit atom session ask outcome
answers atom (settles lane) outcome operation plain = by_settle atom operation outcome
answers atom (finishes lane) outcome operation plain = by_finish atom operation plain
answers atom _ outcome operation plain = []

-- a body begins with the bytes of its range that were tried
abbrev pub BeginsWith : List ℕ → List ℕ → Type 0
BeginsWith body tried = take (length tried) body ≡ tried

-- the operation is the one that was asked for, a write that of its bytes or of so many zeros; these
-- begin with the bytes of its range that were tried
abbrev pub Asked : ℕ → Ask → List ℕ → Op → Type 0
Asked atom (Read offset len) bytes op = op ≡ Ops.Read offset len
Asked atom (Write offset len fua) bytes op =
    (body : List ℕ) × (meaning_of op ≡ Ops.Write offset body fua) × (length body ≡ len) ×
    BeginsWith body (in_range atom offset len bytes)
Asked atom Flush bytes op = op ≡ Ops.Flush

-- how many bytes of its blocks were tried
abbrev pub tried_by : Ask → List ℕ → ℕ
tried_by (Write offset len fua) bytes = length bytes
tried_by _ bytes = 0

-- an operation that was answered is this one of a plain disk; beside its range a write tried what
-- was read of its edges
pub record IsExchange (answered : Answered) (exchange : Exchange) : Type 0 where
  pub op : Asked answered.atom answered.ask answered.plain.bytes exchange.op
  pub edges : KeepsEdges answered.atom answered.ask answered.plain
  pub reply : exchange.reply ≡ answered.reply
  pub tried : exchange.tried ≡ tried_by answered.ask answered.plain.bytes

unfoldable pub AreExchanges : List Answered → List Exchange → Type 0
AreExchanges [] [] = Unit {0}
AreExchanges [] (exchange ∷ exchanges) = ⊥
AreExchanges (one ∷ rest) [] = ⊥
AreExchanges (one ∷ rest) (exchange ∷ exchanges) =
    IsExchange one exchange × AreExchanges rest exchanges

-- an operation of a history, with the number of its session
pub record Tagged : Type 0 where
  pub session : ℕ
  pub exchange : Exchange

-- the operations that were answered are these, each of its session
unfoldable pub AreTagged : List Answered → List Tagged → Type 0
AreTagged [] [] = Unit {0}
AreTagged [] (tagged ∷ history) = ⊥
AreTagged (one ∷ rest) [] = ⊥
AreTagged (one ∷ rest) (tagged ∷ history) =
    IsExchange one tagged.exchange × (tagged.session ≡ one.session) × AreTagged rest history

-- the operations of a history, of whatever session, and those of one session
unfoldable pub untagged : List Tagged → List Exchange
untagged [] = []
untagged (tagged ∷ history) = tagged.exchange ∷ untagged history

unfoldable pub of_session : ℕ → List Tagged → List Exchange
of_session n [] = []
of_session n (tagged ∷ history) =
    if tagged.session == n then tagged.exchange ∷ of_session n history else of_session n history
