-- The lanes of a session, before and after they served it.
use Rattle.std.specs.Prelude.{ℕ, ◌≡◌, ◌≢◌, ◌<◌, ◌⊎◌, ◌||◌, Bool, true, false, List, [], ◌∷◌, length, Option}
use Rattle.std.specs.Prelude.{Some, Ok, slice_index_or}
use Rattle.io_edge.specs.Intake.{Intake}
use Rattle.io_edge.specs.Outlet.{Outlet}
use Rattle.nbd_hand.specs.declared.export.Export.{Export}
use Rattle.nbd_hand.specs.declared.negotiation.Agreed.{Agreed}
use Rattle.nbd_hand.specs.Handshakes.{Handshake}
use Rattle.nbd_hand.specs.Negotiation.{Negotiates}
use Rattle.nbd_stream.specs.declared.ending.Ending.TheVariants as Endings
use Rattle.nbd_stream.specs.Moments.{Moment, moment}
use Rattle.nbd_stream.specs.Putting.{IsOut}
use Rattle.plain_disk.specs.Plain.{Exchange}
use Rattle.nbd_session.specs.declared.lane.Halt.{Halt}
use Rattle.nbd_session.specs.declared.lane.Halt.TheVariants.{PortSpent, CellSpent}
use Rattle.nbd_session.specs.declared.lane.Lane.{Lane}
use Rattle.nbd_session.specs.declared.lanes.LanesServed.{LanesServed}
use Rattle.nbd_session.specs.declared.reader.Reader.{Reader}
use Rattle.nbd_session.specs.declared.reader.Reading.{Reading}
use Rattle.nbd_session.specs.declared.reader.Take.{Take}
use Rattle.nbd_session.specs.declared.reader.Taken.{Taken}
use Rattle.nbd_session.specs.declared.writer.Put.{Put}
use Rattle.nbd_session.specs.declared.writer.Writer.{Writer}
use Rattle.nbd_session.specs.declared.writer.Writing.{Writing}
use Rattle.nbd_session.specs.declared.writer.Written.{Written}
use Rattle.nbd_session.specs.Asking.{Asked}
use Rattle.nbd_session.specs.Flights.{FlightLog, IsFlight}
use Rattle.nbd_session.specs.Lanes.{HasCalled, HasServed}
use Rattle.nbd_session.specs.Turns.{Turn, exchanges_of}
use Rattle.atomic_table.specs.declared.shared.Seat.{Seat}
use Rattle.volume_cell.specs.declared.held.Held.{Held}
use Rattle.volume_cell.specs.declared.history.Call.{Call}
use Rattle.volume_cell.specs.declared.knowledge.Knowledge.{Knowledge}
use Rattle.volume_cell.specs.declared.shared.Shared.{Shared}
use Rattle.volume_cell.specs.Passes.{IsPassOf, known}

-- a pass to the reader of such a source, or to the writer of such a sink
abbrev pub ReaderPass : Type 0 → Type 0
ReaderPass S = Seat (Held (Reader S) Take Taken) (Knowledge (Reading S) Take Taken)

abbrev pub WriterPass : Type 0 → Type 0
WriterPass K = Seat (Held (Writer K) Put Written) (Knowledge (Writing K) Put Written)

abbrev pub ReaderCell : Type 0 → Type 0 → Type 0
ReaderCell S A = Shared (Reader S) (Held (Reader S) Take Taken) (Knowledge (Reading S) Take Taken) A

abbrev pub WriterCell : Type 0 → Type 0 → Type 0
WriterCell K B = Shared (Writer K) (Held (Writer K) Put Written) (Knowledge (Writing K) Put Written) B

module _ {M S E O P : Type 0} where
  -- the pass is that of this lane to the cell, and no other was split off it or joined into it
  pub record IsPassFor (cell : Shared M (Held M E O) (Knowledge S E O) P) (k : ℕ)
      (pass : Seat (Held M E O) (Knowledge S E O)) : Type 0 where
    pub of_cell : IsPassOf cell pass
    pub name : (known pass).name ≡ k ∷ []
    pub joined : (known pass).joined ≡ []
    pub away : (known pass).away ≡ []

module _ {S K P A B : Type 0} (usable : P → Type 0) (reader : ReaderCell S A) (writer : WriterCell K B)
  where
    -- the lane of this number can serve requests
    pub record IsReady (k : ℕ) (lane : Lane (ReaderPass S) (WriterPass K) P) : Type 0 where
      pub source : IsPassFor reader k lane.source
      pub sink : IsPassFor writer k lane.sink
      pub usable_port : usable lane.port

    -- the lane of this number was made for a port, and has asked nothing yet
    pub record IsMade (k : ℕ) (port : P) (lane : Lane (ReaderPass S) (WriterPass K) P) : Type 0 where
      pub ready : IsReady k lane
      pub port_is : lane.port ≡ port
      pub no_takes : (known lane.source).calls ≡ []
      pub no_puts : (known lane.sink).calls ≡ []

    -- a lane was made for each port
    pub record AreMade (ports : List P) (lanes : List (Lane (ReaderPass S) (WriterPass K) P)) : Type 0
      where
        pub count : length lanes ≡ length ports
        pub each : (k : ℕ) (port : P) (lane : Lane (ReaderPass S) (WriterPass K) P) → k < length ports
            → IsMade k (slice_index_or ports k port) (slice_index_or lanes k lane)

    module _ (is_spent : P → Type 0) (did : P → P → List Exchange → Type 0) where
      -- It served requests until it halted. It halted since its port is spent, or a cell, only where it
      -- is.
      pub record HasFlown (k : ℕ) (old new : Lane (ReaderPass S) (WriterPass K) P) : Type 0 where
        pub ready : IsReady k new
        pub halt : Halt
        pub halted : new.halt ≡ Some halt
        pub spent : halt ≡ PortSpent → is_spent new.port
        pub full : halt ≡ CellSpent → (length (known new.source).history ≡ reader.limit)
            ⊎ (length (known new.sink).history ≡ writer.limit)
        pub takes : List (Call Take Taken)
        pub puts : List (Call Put Written)
        pub turns : List Turn
        pub left : List Asked
        pub took : HasCalled (known old.source) (known new.source) takes
        pub put : HasCalled (known old.sink) (known new.sink) puts
        pub did_so : did old.port new.port (exchanges_of turns)
        pub served : HasServed halt takes puts turns left

-- ---- ports
-- each port takes operations
abbrev pub AreUsable : {P : Type 0} → (P → Type 0) → List P → Type 0
AreUsable usable ports =
    (k : ℕ) (port : _) → k < length ports → usable (slice_index_or ports k port)

-- each port did what is said of its lane
pub record HaveDone {P : Type 0} (did : P → P → List Exchange → Type 0) (olds news : List P)
    (done : ℕ → List Exchange) : Type 0 where
  pub count : length news ≡ length olds
  pub each : (k : ℕ) (port : P) → k < length olds
      → did (slice_index_or olds k port) (slice_index_or news k port) (done k)

-- one of the ports is spent
abbrev pub IsOneSpent : {P : Type 0} → (P → Type 0) → List P → Type 0
IsOneSpent is_spent ports =
    (k : ℕ) × (k < length ports) × ((port : _) → is_spent (slice_index_or ports k port))

-- a lane left a request unanswered only where its port is spent
abbrev pub LeavesSpent : {P : Type 0} → (P → Type 0) → List P → (ℕ → List Asked) → Type 0
LeavesSpent is_spent ports left = (k : ℕ) (port : _) → k < length ports → left k ≢ []
    → is_spent (slice_index_or ports k port)

-- ---- how the lanes halted
-- since a port is spent, or a cell
abbrev pub is_spent_halt : Option Halt → Bool
is_spent_halt (Some PortSpent) = true
is_spent_halt (Some CellSpent) = true
is_spent_halt _ = false

-- one of them did
unfoldable pub any_spent : {A B P : Type 0} → List (Lane A B P) → Bool
any_spent [] = false
any_spent (lane ∷ lanes) = is_spent_halt lane.halt || any_spent lanes

-- ---- the session
-- What came of a session that had come to its requests: its ports, and how it ended; and whatever its
-- negotiation was, it was a whole session of as many lanes as there are ports, each of which did what
-- its lane asked.
pub record HasLanded {S K P : Type 0} (intake : S → Intake) (outlet : K → Outlet)
    (usable is_spent : P → Type 0) (did : P → P → List Exchange → Type 0) (export : Export)
    (begun : Reading S) (start : Writing K) (ports : List P) (served : LanesServed S K P) : Type 0 where
  pub usable_ports : AreUsable usable served.ports.items
  pub spent : served.end.ending ≡ Endings.PortSpent → IsOneSpent is_spent served.ports.items
  pub out : (served.end.ending ≡ Endings.WriteFault) ⊎ IsOut (outlet served.sink)
  pub session : (a : Moment) (agreed : Agreed) (hand : Handshake) → a.taken ≡ 0 → a.put ≡ 0
      → begun.structured ≡ agreed.structured
      → Negotiates export a (moment (intake begun.source) (outlet start.sink) begun.taken start.put)
      (Ok agreed) hand
      → (log : FlightLog) × HaveDone did ports served.ports.items (λ k. exchanges_of (log.lanes k))
      × LeavesSpent is_spent served.ports.items log.left
      × IsFlight (length ports) export served.end a
      (moment (intake served.source) (outlet served.sink) served.end.taken served.end.put) log
