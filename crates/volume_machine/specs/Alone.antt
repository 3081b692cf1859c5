-- What a lane is by its own calls alone. Nothing here reads a state: all is computed from the
-- lane's events and their outcomes, the bytes of a block, and the volume's seals.
use Rattle.std.specs.Prelude.{ℕ, ◌≡◌, ◌+◌, ◌/◌, true, List, [], ◌∷◌, ◌++◌, length, Option, Some}
use Rattle.std.specs.Prelude.{None, option_map}
use Rattle.segment_map.specs.declared.map.Map.{Map}
use Rattle.volume_machine.specs.Answers.{Answered, answers}
use Rattle.volume_machine.specs.Asks.{has_lock}
use Rattle.volume_machine.specs.Edges.{InPlain, KeepsEdges, edge_at, with_bytes}
use Rattle.volume_machine.specs.Events.{Event, admits, asks, reads, fetches, writes, settles}
use Rattle.volume_machine.specs.Events.{finishes, Outcome, held, waits, got, done, device, broken}
use Rattle.volume_machine.specs.Pieces.{side_in, fetching, failing, settling}
use Rattle.volume_machine.specs.Seals.{Seals}
use Rattle.volume_machine.specs.States.{begun}
use Rattle.volume_machine.specs.Steps.{HasOpen, CanRead, CanFetch, CanWrite, CanSettle, CanFinish}
use Rattle.volume_machine.specs.Steps.{after_settle}
use Rattle.volume_machine.specs.declared.ask.Ask.{Ask}
use Rattle.volume_machine.specs.declared.open.Open.{Open}

-- a call and what it answered
pub record Call : Type 0 where
  pub event : Event
  pub outcome : Outcome

-- a lane's operation under way, the map that its grant told, its edges as they were read, and the
-- plain bytes of the blocks that it has read, or tried to write
pub record Alone : Type 0 where
  pub operation : Option Open
  pub granted : Option Map
  pub edges : List (List ℕ)
  pub plain : List ℕ

-- a lane that has made no call
abbrev pub idle_lane : Alone
idle_lane = record { operation = None; granted = None; edges = []; plain = [] }

-- what it has in plain
abbrev pub in_plain : Alone → InPlain
in_plain alone = record { edges = alone.edges; bytes = alone.plain }

-- after an admit an operation that isn't refused is under way
abbrev pub opened_as : ℕ → ℕ → Ask → Outcome → Option Open → Option Open
opened_as atom session ask (held grant) operation = Some (begun atom session ask)
opened_as atom session ask (waits lane) operation = Some (begun atom session ask)
opened_as atom session ask _ operation = operation

-- a piece of these bytes was made
abbrev pub passed : ℕ → List ℕ → Open → Open
passed atom bytes o = record o { next = o.next + length bytes / atom }

abbrev pub after_got : ℕ → Outcome → Open → Open
after_got atom (got sealed) o = passed atom sealed o
after_got atom device o = failing o
after_got atom broken o = failing o
after_got atom _ o = o

abbrev pub after_edge : Outcome → Open → Open
after_edge (got sealed) o = fetching o
after_edge device o = failing o
after_edge broken o = failing o
after_edge _ o = o

abbrev pub after_put : ℕ → List ℕ → Outcome → Open → Open
after_put atom sealed done o = passed atom sealed o
after_put atom sealed device o = failing o
after_put atom sealed broken o = failing o
after_put atom sealed _ o = o

abbrev pub after_sync : Outcome → Open → Open
after_sync done o = settling o
after_sync device o = failing o
after_sync broken o = failing o
after_sync _ o = o

abbrev pub settled_as : Outcome → Option Open → Option Open
settled_as outcome None = None
settled_as outcome (Some o) = after_settle o (after_sync outcome o)

-- the operation after an event
abbrev pub open_after : ℕ → Event → Outcome → Option Open → Option Open
open_after atom (admits lane session ask) outcome operation =
    opened_as atom session ask outcome operation
open_after atom (asks lane) outcome operation = operation
open_after atom (reads lane len) outcome operation = option_map (after_got atom outcome) operation
open_after atom (fetches lane which) outcome operation = option_map (after_edge outcome) operation
open_after atom (writes lane sealed) outcome operation =
    option_map (after_put atom sealed outcome) operation
open_after atom (settles lane) outcome operation = settled_as outcome operation
open_after atom (finishes lane) outcome operation = None

-- the map that a grant told
abbrev pub map_of : Outcome → Option Map
map_of (held grant) = Some grant.map
map_of _ = None

abbrev pub granted_after : Event → Outcome → Option Map → Option Map
granted_after (admits lane session ask) outcome granted = map_of outcome
granted_after (asks lane) outcome granted = map_of outcome
granted_after (finishes lane) outcome granted = None
granted_after _ outcome granted = granted

-- what the next piece of an operation is in plain, which is sealed so on the disk
abbrev pub opened_by : Seals → Map → Option Open → List ℕ → List ℕ
opened_by seals map None sealed = []
opened_by seals map (Some o) sealed = seals.opened (side_in map o.next) o.next sealed

-- the plain bytes with those of a piece
abbrev pub with_piece : Seals → Alone → List ℕ → Option Map → List ℕ
with_piece seals alone sealed None = alone.plain
with_piece seals alone sealed (Some map) = alone.plain ++ opened_by seals map alone.operation sealed

abbrev pub plain_got : Seals → Alone → Outcome → List ℕ
plain_got seals alone (got sealed) = with_piece seals alone sealed alone.granted
plain_got seals alone _ = alone.plain

-- a write that failed at the disk has tried its piece
abbrev pub plain_put : Seals → Alone → List ℕ → Outcome → List ℕ
plain_put seals alone sealed done = with_piece seals alone sealed alone.granted
plain_put seals alone sealed device = with_piece seals alone sealed alone.granted
plain_put seals alone sealed _ = alone.plain

abbrev pub plain_with : Seals → Alone → Event → Outcome → List ℕ
plain_with seals alone (admits lane session ask) outcome = []
plain_with seals alone (reads lane len) outcome = plain_got seals alone outcome
plain_with seals alone (writes lane sealed) outcome = plain_put seals alone sealed outcome
plain_with seals alone _ outcome = alone.plain

-- what an edge of an operation is in plain, which is sealed so on the disk
abbrev pub opened_edge : Seals → Map → Option Open → ℕ → List ℕ → List ℕ
opened_edge seals map None which sealed = []
opened_edge seals map (Some o) which sealed =
    seals.opened (side_in map (edge_at map.atom o.ask which)) (edge_at map.atom o.ask which) sealed

-- the edges with one more
abbrev pub with_opened_edge : Seals → Alone → ℕ → List ℕ → Option Map → List (List ℕ)
with_opened_edge seals alone which sealed None = alone.edges
with_opened_edge seals alone which sealed (Some map) =
    alone.edges ++ opened_edge seals map alone.operation which sealed ∷ []

abbrev pub edges_got : Seals → Alone → ℕ → Outcome → List (List ℕ)
edges_got seals alone which (got sealed) =
    with_opened_edge seals alone which sealed alone.granted
edges_got seals alone which _ = alone.edges

abbrev pub edges_with : Seals → Alone → Event → Outcome → List (List ℕ)
edges_with seals alone (admits lane session ask) outcome = []
edges_with seals alone (fetches lane which) outcome = edges_got seals alone which outcome
edges_with seals alone _ outcome = alone.edges

-- the lane after one of its events, on blocks of `atom` bytes
abbrev pub alone_after : ℕ → Seals → Alone → Event → Outcome → Alone
alone_after atom seals alone event outcome = record {
  operation = open_after atom event outcome alone.operation;
  granted = granted_after event outcome alone.granted;
  edges = edges_with seals alone event outcome;
  plain = plain_with seals alone event outcome;
}

-- the operation holds its blocks: a grant told this map
abbrev pub IsGranted : Alone → (Map → Open → Type 0) → Type 0
IsGranted alone Is = HasOpen alone.operation
    (λ o. (map : Map) × (alone.granted ≡ Some map) × Is map o)

-- a write whose next piece these bytes are, and which keeps the other bytes of its edges
pub record MayWrite (seals : Seals) (alone : Alone) (map : Map) (sealed : List ℕ)
    (o : Open) : Type 0 where
  pub can : CanWrite map sealed o
  pub keeps : KeepsEdges map.atom o.ask
      (with_bytes (in_plain alone) (opened_by seals map (Some o) sealed))

-- What the call of an event asks of the lane. Beside it the lane is to be one of clients.
unfoldable pub MeetsAlone : Seals → Alone → Event → Type 0
MeetsAlone seals alone (admits lane session ask) = alone.operation ≡ None
MeetsAlone seals alone (asks lane) = HasOpen alone.operation (λ o. has_lock o.ask ≡ true)
MeetsAlone seals alone (reads lane len) = IsGranted alone (λ map o. CanRead map len o)
MeetsAlone seals alone (fetches lane which) = IsGranted alone (λ map o. CanFetch map which o)
MeetsAlone seals alone (writes lane sealed) =
    IsGranted alone (λ map o. MayWrite seals alone map sealed o)
MeetsAlone seals alone (settles lane) = HasOpen alone.operation CanSettle
MeetsAlone seals alone (finishes lane) = IsGranted alone (λ map o. CanFinish o)

-- what an event answers
abbrev pub answered_alone : ℕ → Alone → Event → Outcome → List Answered
answered_alone atom alone event outcome =
    answers atom event outcome alone.operation (in_plain alone)

-- over a list of own calls: the lane after them, that each of them meets its conditions, and what
-- they have answered
unfoldable pub alone_of : ℕ → Seals → Alone → List Call → Alone
alone_of atom seals alone [] = alone
alone_of atom seals alone (one ∷ rest) =
    alone_of atom seals (alone_after atom seals alone one.event one.outcome) rest

unfoldable pub AreMet : ℕ → Seals → Alone → List Call → Type 0
AreMet atom seals alone [] = Unit {0}
AreMet atom seals alone (one ∷ rest) =
    MeetsAlone seals alone one.event × AreMet atom seals
    (alone_after atom seals alone one.event one.outcome) rest

unfoldable pub answers_of : ℕ → Seals → Alone → List Call → List Answered
answers_of atom seals alone [] = []
answers_of atom seals alone (one ∷ rest) =
    answered_alone atom alone one.event one.outcome
    ++ answers_of atom seals (alone_after atom seals alone one.event one.outcome) rest
