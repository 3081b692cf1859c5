-- What is promised of every run of events.
use Rattle.std.specs.Prelude.{length, max, ℕ, ◌≡◌, ◌*◌, ◌↔◌, Bool, true, false, ◌==◌, ◌||◌}
use Rattle.std.specs.Prelude.{if◌then◌else◌, List, [], ◌∷◌, replicate, Option, Some, None}
use Rattle.std.specs.Prelude.{option_map}
use Rattle.base_terms.specs.Blocks.{lengths}
use Rattle.base_terms.specs.ErrorNumbers.{device_error}
use Rattle.plain_disk.specs.Outcomes.{IsDeviceError}
use Rattle.plain_disk.specs.Plain.{Block, Exchange, AreSure, Legal}
use Rattle.plain_disk.specs.declared.operation.Reply.{Reply}
use Rattle.plain_disk.specs.declared.operation.Reply.TheVariants.{ErrnoAt}
use Rattle.sector_disk.specs.Cells.{AreSettled, content, currents}
use Rattle.sector_disk.specs.Steps.{Told}
use Rattle.volume_machine.specs.Asks.{offset_of, wrong_ask}
use Rattle.volume_laws.specs.Contents.{AreBlocksOf, StandsFor, StandsNow, StopsAllowed, Covers}
use Rattle.volume_machine.specs.Beginnings.{IsFresh}
use Rattle.volume_machine.specs.Effects.{breaks}
use Rattle.volume_machine.specs.Events.{Event, admits, asks, reads, settles, finishes, lane_of}
use Rattle.volume_machine.specs.Events.{Outcome, device, broken}
use Rattle.volume_machine.specs.Answers.{Answered, AreExchanges}
use Rattle.volume_machine.specs.Runs.{Happening, IsRun, last_of, answered_by, answered_in, plain_in}
use Rattle.volume_machine.specs.Runs.{no_plain}
use Rattle.volume_machine.specs.Seals.{Seals, AreLawful}
use Rattle.volume_machine.specs.Sound.{IsSound, AreApart}
use Rattle.volume_machine.specs.States.{State, open_at, size_of}
use Rattle.volume_machine.specs.declared.open.Open.{Open}

-- a volume from which runs start: no operation is under way, and its disk stands for these blocks
pub record Starts {K : Type 0} (start : State K) (seals : Seals) (blocks : List Block)
    (bytes : List ℕ) : Type 0 where
  pub sound : IsSound start
  pub fresh : IsFresh start
  pub apart : AreApart start.map
  pub lawful : AreLawful start.map.atom seals
  pub are : AreBlocksOf start.map blocks
  pub sure : AreSure blocks
  pub values : start.disk.values ≡ Some bytes
  pub stands : StandsFor start.map seals blocks bytes

-- where the disk tells its tables, each image of it stands for values of these blocks too
abbrev pub StartsCovered : {K : Type 0} → State K → Seals → List Block → Type 0
StartsCovered start seals blocks =
    (told : Told) → start.disk.told ≡ Some told → Covers start.map seals blocks told.now

-- where the disk tells its tables, each atom holds its value for certain, and these are its bytes
abbrev pub TellsSettled : {K : Type 0} → State K → List ℕ → Type 0
TellsSettled start bytes = (told : Told) → start.disk.told ≡ Some told → AreSettled told.now
    × (bytes ≡ content told.now)
    × (lengths (currents told.now) ≡ replicate start.disk.atoms start.map.atom)

-- where the disk tells its bytes there are an atom's for each atom, and where it tells its tables a
-- cell
pub record TellsWhole {K : Type 0} (state : State K) : Type 0 where
  pub bytes : (bytes : List ℕ) → state.disk.values ≡ Some bytes →
      length bytes ≡ state.disk.atoms * state.map.atom
  pub cells : (told : Told) → state.disk.told ≡ Some told → length told.now ≡ state.disk.atoms

-- The operations of a run are those of one plain disk: their history is legal; while nothing has
-- failed the disk stands for the newest values with those of unfinished writes over them; and a
-- stop leaves what is allowed. A disk that told all its atoms tells them all while nothing has
-- failed, and all its cells. A run may end anywhere, so this holds after each event.
pub record IsServed {K : Type 0} (start : State K) (seals : Seals) (blocks : List Block)
    (run : List (Happening K)) (exchanges : List Exchange) : Type 0 where
  pub left : List Block
  pub legal : Legal start.map.atom blocks exchanges left
  pub now : List ℕ
  pub values : (last_of start run).disk.values ≡ Some now
  pub stands : (last_of start run).broken ≡ false →
      StandsNow (last_of start run) seals (plain_in seals start no_plain run) left now
  pub size : TellsWhole start → (last_of start run).broken ≡ false →
      length now ≡ (last_of start run).disk.atoms * (last_of start run).map.atom
  pub cells : TellsWhole start → StartsCovered start seals blocks → (told : Told) →
      (last_of start run).disk.told ≡ Some told → length told.now ≡ (last_of start run).disk.atoms
  pub stops : StartsCovered start seals blocks → (told : Told)
      → (last_of start run).disk.told ≡ Some told →
      StopsAllowed (last_of start run) seals (plain_in seals start no_plain run) left told.now

abbrev pub ServesEachRun : {K : Type 0} → State K → Seals → Type 0
ServesEachRun {K} start seals = (blocks : List Block) (bytes : List ℕ) (run : List (Happening K))
    (exchanges : List Exchange) → Starts start seals blocks bytes → IsRun start run →
    AreExchanges (answered_in seals start no_plain run) exchanges
    → IsServed start seals blocks run exchanges

-- the outcome is that the device failed, or that the volume was broken
abbrev pub is_failure : Outcome → Bool
is_failure device = true
is_failure broken = true
is_failure _ = false

-- whether the operation of the event's lane has failed after it, given whether it had before
abbrev pub has_failed_by : Event → Outcome → Bool → Bool
has_failed_by (admits lane session ask) outcome before = false
has_failed_by (asks lane) outcome before = before
has_failed_by (finishes lane) outcome before = before
has_failed_by _ outcome before = before || is_failure outcome

-- the same of any lane's
abbrev pub fails : ℕ → Event → Outcome → Bool → Bool
fails lane event outcome before =
    if lane_of event == lane then has_failed_by event outcome before else before

unfoldable pub fails_in : {K : Type 0} → ℕ → Bool → List (Happening K) → Bool
fails_in lane before [] = before
fails_in lane before (one ∷ rest) = fails_in lane (fails lane one.event one.outcome before) rest

-- whether a write or a sync has failed
unfoldable pub breaks_in : {K : Type 0} → Bool → List (Happening K) → Bool
breaks_in before [] = before
breaks_in before (one ∷ rest) = breaks_in (before || breaks one.event one.outcome) rest

-- An operation has failed exactly where one of its events did; the volume is broken exactly where a
-- write or a sync failed; sides, keys and places of all blocks stay; and so does the zone at hand,
-- if there is one.
pub record GoesByEvents {K : Type 0} (start : State K) (run : List (Happening K)) : Type 0 where
  pub fails : (lane : ℕ) (o : Open) → open_at (last_of start run).lanes lane ≡ Some o
      → o.failed ≡ fails_in lane false run
  pub breaks : (last_of start run).broken ≡ breaks_in start.broken run
  pub map : (last_of start run).map ≡ start.map
  pub keys : (last_of start run).keys ≡ start.keys
  pub work : (last_of start run).work ≡ start.work

-- whether the operation that an event answers has failed: at its admit, where the volume was found
-- broken; at the settle of a flush, where that failed; at its finish, where one of its events since
-- its admit failed
abbrev pub has_failed : {K : Type 0} → State K → List (Happening K) → Event → Outcome → Bool
has_failed start earlier (admits lane session ask) outcome = (last_of start earlier).broken
has_failed start earlier (settles lane) outcome = is_failure outcome
has_failed start earlier (finishes lane) outcome = fails_in lane false earlier
has_failed start earlier _ outcome = false

-- the offset of the first byte of its range in the lane's next piece
abbrev pub next_of : ℕ → Option Open → ℕ
next_of atom None = 0
next_of atom (Some o) = max (offset_of o.ask) (o.next * atom)

abbrev pub next_place : {K : Type 0} → State K → ℕ → ℕ
next_place state lane = next_of state.map.atom (open_at state.lanes lane)

-- where the read of the event's lane has failed, given where it had before: at the piece that the
-- event was to read
abbrev pub failed_by : Event → Outcome → ℕ → Option ℕ → Option ℕ
failed_by (admits lane session ask) outcome place before = None
failed_by (reads lane len) outcome place before =
    if is_failure outcome then Some place else before
failed_by _ outcome place before = before

-- the same of any lane's read in a run
unfoldable pub failed_piece_in : {K : Type 0} → State K → ℕ → Option ℕ → List (Happening K)
    → Option ℕ
failed_piece_in old lane before [] = before
failed_piece_in old lane before (one ∷ rest) =
    failed_piece_in one.after lane
    (if lane_of one.event == lane then failed_by one.event one.outcome (next_place old lane) before
    else before) rest

-- the piece at which the read failed that this event answers
abbrev pub failed_piece : {K : Type 0} → State K → List (Happening K) → Event → Option ℕ
failed_piece start earlier (finishes lane) = failed_piece_in start lane None earlier
failed_piece start earlier _ = None

-- an operation that isn't wrong and is answered by this event is answered 5 exactly where it has
-- failed
abbrev pub DeviceErrorsAreExact : {K : Type 0} → Seals → State K → List (Happening K) → Happening K
    → Type 0
DeviceErrorsAreExact seals start earlier one = (answered : Answered) →
    answered_by (last_of start earlier) one.event one.outcome
    (plain_in seals start no_plain earlier) ≡ answered ∷ [] →
    wrong_ask start.map.atom (size_of start.map) answered.ask ≡ None →
    IsDeviceError answered.reply ↔ (has_failed start earlier one.event one.outcome ≡ true)

-- the error of a reply that says where it was, with its place
abbrev pub placed_error : Reply → Option (ℕ × ℕ)
placed_error (ErrnoAt number place) = Some (number, place)
placed_error _ = None

-- what is answered by this event has a place exactly where it is a read of which a piece failed: 5,
-- and the offset of the first byte of its range in that piece
abbrev pub PlacesAreExact : {K : Type 0} → Seals → State K → List (Happening K) → Happening K
    → Type 0
PlacesAreExact seals start earlier one = (answered : Answered) →
    answered_by (last_of start earlier) one.event one.outcome
    (plain_in seals start no_plain earlier) ≡ answered ∷ [] →
    placed_error answered.reply
    ≡ option_map (λ place. (device_error, place)) (failed_piece start earlier one.event)
