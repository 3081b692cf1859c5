-- One event: what it asks of the state before, and what it leaves.
use Rattle.std.specs.Prelude.{ℕ, ◌≡◌, ◌<◌, ◌⊎◌, Bool, true, false, List, [], ◌∷◌, ◌++◌, length}
use Rattle.std.specs.Prelude.{Option, Some, None, MatchOption, if◌then◌else◌, Result}
use Rattle.std.specs.Bool.{MatchBool}
use Rattle.base_terms.specs.ErrorNumbers.{device_error}
use Rattle.base_terms.specs.declared.failed.Failed.{Failed}
use Rattle.base_terms.specs.declared.block_range.BlockRange.{BlockRange}
use Rattle.range_lock.specs.declared.Entry.{Entry}
use Rattle.range_lock.specs.declared.Standing.{Standing}
use Rattle.range_lock.specs.declared.Standing.TheVariants.{Held, Waiting}
use Rattle.range_lock.specs.Locks.{IsStanding, IsStandingOf, without}
use Rattle.segment_map.specs.declared.map.Map.{Map}
use Rattle.segment_map.specs.declared.map.Piece.{Piece}
use Rattle.volume_machine.specs.Asks.{IsRead, IsWrite, IsForced, range_of, has_lock, wrong_ask}
use Rattle.volume_machine.specs.Asks.{entry_of}
use Rattle.volume_machine.specs.Edges.{edges_of, edge_at}
use Rattle.sector_disk.specs.Devices.{ReadCall, WriteCall, SyncCall, succeeded, failed_call}
use Rattle.sector_disk.specs.DiskViews.Parts.{AreBlocks}
use Rattle.volume_machine.specs.Events.{Event, admits, asks, reads, fetches, writes, settles}
use Rattle.volume_machine.specs.Events.{finishes, lane_of, Outcome, held, waits, refused, got, done}
use Rattle.volume_machine.specs.Events.{device, broken}
use Rattle.volume_machine.specs.Pieces.{IsPieceOf, place_in, place_of, size_of_piece, ArePieceBytes}
use Rattle.volume_machine.specs.Pieces.{fetching, moved, failing, settling, IsComplete}
use Rattle.volume_machine.specs.States.{State, open_at, size_of, begun, IsClient, LaneBecomes}
use Rattle.volume_machine.specs.declared.ask.Ask.{Ask}
use Rattle.volume_machine.specs.declared.ask.Ask.TheVariants.{Flush}
use Rattle.volume_machine.specs.declared.grant.Grant.{Grant}
use Rattle.volume_machine.specs.declared.open.Open.{Open}

-- a grant tells the map of the volume, and the blocks
pub record IsGrant {K : Type 0} (state : State K) (range : BlockRange)
    (grant : Grant) : Type 0 where
  pub map : grant.map ≡ state.map
  pub range_is : grant.range ≡ range

-- the outcome tells where the entry of these blocks stands
abbrev pub TellsStanding : {K : Type 0} → State K → BlockRange → (Standing → Type 0) → Outcome →
    Type 0
TellsStanding state range stands (held grant) = stands Held × IsGrant state range grant
TellsStanding state range stands (waits lane) = stands (Waiting lane)
TellsStanding state range stands _ = ⊥

-- all stays but the table of locks, the lane's operation, whether the volume is broken, and the
-- disk
pub record Goes {K : Type 0} (old new : State K) (lane : ℕ) (entries : List Entry)
    (now : Option Open)
    (is_broken : Bool) : Type 0 where
  pub map : new.map ≡ old.map
  pub keys : new.keys ≡ old.keys
  pub room : new.room ≡ old.room
  pub entries_are : new.entries ≡ entries
  pub lane_is : LaneBecomes old.lanes new.lanes lane now
  pub broken_is : new.broken ≡ is_broken
  pub work : new.work ≡ old.work

-- no device call was made
abbrev pub Rests : {K : Type 0} → State K → State K → Type 0
Rests old new = new.disk ≡ old.disk

-- the operation isn't wrong, and the volume isn't broken
pub record IsReadyFor {K : Type 0} (state : State K) (ask : Ask) : Type 0 where
  pub proper : wrong_ask state.map.atom (size_of state.map) ask ≡ None
  pub unbroken : state.broken ≡ false

-- an operation that isn't refused has its entry behind all others; a flush is held without one
abbrev pub Enters : {K : Type 0} → State K → ℕ → Ask → List Entry → Outcome → Type 0
Enters old lane ask new outcome =
    MatchBool (has_lock ask)
    ((new ≡ old.entries ++ entry_of old.map.atom lane ask ∷ [])
    × TellsStanding old (range_of old.map.atom ask)
    (IsStanding old.entries (entry_of old.map.atom lane ask)) outcome)
    ((new ≡ old.entries) × TellsStanding old (range_of old.map.atom ask)
    (λ standing. standing ≡ Held) outcome)

pub record IsAdmitted {K : Type 0} (old : State K) (lane session : ℕ) (ask : Ask)
    (outcome : Outcome)
    (new : State K) : Type 0 where
  pub enters : Enters old lane ask new.entries outcome
  pub goes : Goes old new lane new.entries (Some (begun old.map.atom session ask)) old.broken
  pub rests : Rests old new

-- a wrong operation is refused with its number, any other on a broken volume with 5
abbrev pub AdmitStep : {K : Type 0} → State K → ℕ → ℕ → Ask → Outcome → State K → Type 0
AdmitStep old lane session ask outcome new =
    MatchOption (wrong_ask old.map.atom (size_of old.map) ask)
    (MatchBool old.broken ((outcome ≡ refused device_error) × (new ≡ old))
    (IsAdmitted old lane session ask outcome new))
    (λ number. (outcome ≡ refused number) × (new ≡ old))

-- an event of an operation finds the volume broken: it fails without a device call
pub record FindsBroken {K : Type 0} (old : State K) (lane : ℕ) (now : Option Open)
    (new : State K) : Type 0 where
  pub was : old.broken ≡ true
  pub goes : Goes old new lane old.entries now true
  pub rests : Rests old new

-- a piece was read
pub record GetsPiece {K : Type 0} (old : State K) (lane : ℕ) (o : Open) (bytes : List ℕ)
    (new : State K) : Type 0 where
  pub was : old.broken ≡ false
  pub piece : Piece
  pub next : IsPieceOf old.map o piece
  pub are : ArePieceBytes old.map piece bytes
  pub call : ReadCall old.map.atom (place_of old.map piece) bytes old.disk new.disk succeeded
  pub goes : Goes old new lane old.entries (Some (moved o piece)) false

-- a read of a piece failed, which breaks nothing
pub record MissesPiece {K : Type 0} (old : State K) (lane : ℕ) (o : Open)
    (new : State K) : Type 0 where
  pub was : old.broken ≡ false
  pub piece : Piece
  pub next : IsPieceOf old.map o piece
  pub bytes : List ℕ
  pub call : ReadCall old.map.atom (place_of old.map piece) bytes old.disk new.disk failed_call
  pub goes : Goes old new lane old.entries (Some (failing o)) false

abbrev pub ReadStep : {K : Type 0} → State K → ℕ → Open → Outcome → State K → Type 0
ReadStep old lane o (got bytes) new = GetsPiece old lane o bytes new
ReadStep old lane o device new = MissesPiece old lane o new
ReadStep old lane o broken new = FindsBroken old lane (Some (failing o)) new
ReadStep old lane o _ new = ⊥

-- an edge was read
pub record GetsEdge {K : Type 0} (old : State K) (lane : ℕ) (o : Open) (which : ℕ)
    (bytes : List ℕ) (new : State K) : Type 0 where
  pub was : old.broken ≡ false
  pub some : which < length (edges_of old.map.atom o.ask)
  pub are : AreBlocks old.map.atom 1 bytes
  pub call : ReadCall old.map.atom (place_in old.map (edge_at old.map.atom o.ask which)) bytes
      old.disk new.disk succeeded
  pub goes : Goes old new lane old.entries (Some (fetching o)) false

-- a read of an edge failed, which breaks nothing
pub record MissesEdge {K : Type 0} (old : State K) (lane : ℕ) (o : Open) (which : ℕ)
    (new : State K) : Type 0 where
  pub was : old.broken ≡ false
  pub some : which < length (edges_of old.map.atom o.ask)
  pub bytes : List ℕ
  pub call : ReadCall old.map.atom (place_in old.map (edge_at old.map.atom o.ask which)) bytes
      old.disk new.disk failed_call
  pub goes : Goes old new lane old.entries (Some (failing o)) false

abbrev pub EdgeStep : {K : Type 0} → State K → ℕ → Open → ℕ → Outcome → State K → Type 0
EdgeStep old lane o which (got bytes) new = GetsEdge old lane o which bytes new
EdgeStep old lane o which device new = MissesEdge old lane o which new
EdgeStep old lane o which broken new = FindsBroken old lane (Some (failing o)) new
EdgeStep old lane o which _ new = ⊥

-- a piece was written, or a write of it failed, which breaks the volume
pub record PutsPiece {K : Type 0} (old : State K) (lane : ℕ) (o : Open) (bytes : List ℕ)
    (result : Result (Unit {0}) Failed) (after : Piece → Open) (is_broken : Bool)
    (new : State K) : Type 0 where
  pub was : old.broken ≡ false
  pub piece : Piece
  pub next : IsPieceOf old.map o piece
  pub are : ArePieceBytes old.map piece bytes
  pub call : WriteCall old.map.atom (place_of old.map piece) bytes old.disk new.disk result
  pub goes : Goes old new lane old.entries (Some (after piece)) is_broken

abbrev pub WriteStep : {K : Type 0} → State K → ℕ → Open → List ℕ → Outcome → State K → Type 0
WriteStep old lane o bytes done new = PutsPiece old lane o bytes succeeded (moved o) false new
WriteStep old lane o bytes device new =
    PutsPiece old lane o bytes failed_call (λ piece. failing o) true new
WriteStep old lane o bytes broken new = FindsBroken old lane (Some (failing o)) new
WriteStep old lane o bytes _ new = ⊥

-- after a settle a flush has ended; a write is settled, or has failed
abbrev pub after_settle : Open → Open → Option Open
after_settle o now = if has_lock o.ask then Some now else None

pub record Syncs {K : Type 0} (old : State K) (lane : ℕ) (result : Result (Unit {0}) Failed)
    (now : Option Open) (is_broken : Bool) (new : State K) : Type 0 where
  pub was : old.broken ≡ false
  pub call : SyncCall old.disk new.disk result
  pub goes : Goes old new lane old.entries now is_broken

abbrev pub SettleStep : {K : Type 0} → State K → ℕ → Open → Outcome → State K → Type 0
SettleStep old lane o done new = Syncs old lane succeeded (after_settle o (settling o)) false new
SettleStep old lane o device new = Syncs old lane failed_call (after_settle o (failing o)) true new
SettleStep old lane o broken new = FindsBroken old lane (after_settle o (failing o)) new
SettleStep old lane o _ new = ⊥

-- the operation leaves the table
pub record FinishStep {K : Type 0} (old : State K) (lane : ℕ) (outcome : Outcome)
    (new : State K) : Type 0 where
  pub outcome_is : outcome ≡ done
  pub goes : Goes old new lane (without lane old.entries) None old.broken
  pub rests : Rests old new

-- the open operation is this
abbrev pub HasOpen : Option Open → (Open → Type 0) → Type 0
HasOpen operation Is = (o : Open) × (operation ≡ Some o) × Is o

abbrev pub Has : {K : Type 0} → State K → ℕ → (Open → Type 0) → Type 0
Has state lane Is = HasOpen (open_at state.lanes lane) Is

-- What one event does. The outcome tells, and all that it leaves is computed, but for what the disk
-- tells.
unfoldable pub Step : {K : Type 0} → State K → Event → Outcome → State K → Type 0
Step old (admits lane session ask) outcome new = AdmitStep old lane session ask outcome new
Step old (asks lane) outcome new =
    Has old lane (λ o. TellsStanding old o.range (IsStandingOf lane old.entries) outcome) ×
    (new ≡ old)
Step old (reads lane len) outcome new = Has old lane (λ o. ReadStep old lane o outcome new)
Step old (fetches lane which) outcome new =
    Has old lane (λ o. EdgeStep old lane o which outcome new)
Step old (writes lane bytes) outcome new =
    Has old lane (λ o. WriteStep old lane o bytes outcome new)
Step old (settles lane) outcome new = Has old lane (λ o. SettleStep old lane o outcome new)
Step old (finishes lane) outcome new = FinishStep old lane outcome new

-- the lane's operation holds its blocks
abbrev pub Holds : {K : Type 0} → State K → ℕ → Type 0
Holds state lane = IsStandingOf lane state.entries Held

-- a piece of the operation is left, and none of its events failed
pub record HasPiece (o : Open) : Type 0 where
  pub some : o.next < o.range.end
  pub goes_on : o.failed ≡ false

-- a read whose next piece has so many bytes
pub record CanRead (map : Map) (len : ℕ) (o : Open) : Type 0 where
  pub reads : IsRead o.ask
  pub has : HasPiece o
  pub piece : Piece
  pub next : IsPieceOf map o piece
  pub size : len ≡ size_of_piece map piece

-- a write that has made no piece yet, whose next edge this is
pub record CanFetch (map : Map) (which : ℕ) (o : Open) : Type 0 where
  pub writes : IsWrite o.ask
  pub goes_on : o.failed ≡ false
  pub begins : o.next ≡ o.range.start
  pub next : which ≡ o.fetched
  pub some : which < length (edges_of map.atom o.ask)

-- a write whose edges were read, and whose next piece these bytes are
pub record CanWrite (map : Map) (bytes : List ℕ) (o : Open) : Type 0 where
  pub writes : IsWrite o.ask
  pub edges : o.fetched ≡ length (edges_of map.atom o.ask)
  pub has : HasPiece o
  pub piece : Piece
  pub next : IsPieceOf map o piece
  pub are : ArePieceBytes map piece bytes

-- a flush, or a write that is to be kept for certain, all of whose pieces were made
abbrev pub CanSettle : Open → Type 0
CanSettle o = (o.ask ≡ Flush)
    ⊎ (IsForced o.ask × (o.next ≡ o.range.end) × (o.failed ≡ false) × (o.settled ≡ false))

-- a read or a write that is complete, or has failed
pub record CanFinish (o : Open) : Type 0 where
  pub locks : has_lock o.ask ≡ true
  pub ends : (o.failed ≡ true) ⊎ IsComplete o

-- what an event's call asks of the lane
unfoldable pub Can : {K : Type 0} → State K → Event → Type 0
Can state (admits lane session ask) = open_at state.lanes lane ≡ None
Can state (asks lane) = Has state lane (λ o. has_lock o.ask ≡ true)
Can state (reads lane len) = Has state lane (CanRead state.map len) × Holds state lane
Can state (fetches lane which) = Has state lane (CanFetch state.map which) × Holds state lane
Can state (writes lane bytes) = Has state lane (CanWrite state.map bytes) × Holds state lane
Can state (settles lane) = Has state lane CanSettle
Can state (finishes lane) = Has state lane CanFinish × Holds state lane

-- What an event's call asks of the state: the caller's conditions.
pub record Meets {K : Type 0} (state : State K) (event : Event) : Type 0 where
  pub client : IsClient state (lane_of event)
  pub can : Can state event
