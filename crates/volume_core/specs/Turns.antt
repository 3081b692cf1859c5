-- What a volume's worker does next, by its zone and by what its lane has, and what it leaves.
use Rattle.std.specs.Prelude.{ℕ, ◌≡◌, ◌≢◌, ◌*◌, ◌++◌, ◌∷◌, [], ◌⊎◌, true, false, Bool, List, Option}
use Rattle.std.specs.Prelude.{Some, None}
use Rattle.std.specs.Bool.{MatchBool}
use Rattle.base_terms.specs.Ranges.Blocks.{len_of}
use Rattle.base_terms.specs.declared.block_range.BlockRange.{BlockRange}
use Rattle.hotzone.specs.Promises.{seals_in}
use Rattle.hotzone.specs.Steps.{Goes as StepGoes, Stops}
use Rattle.hotzone.specs.Workers.{IsDone, IsMapNow, first_call, range_in}
use Rattle.hotzone.specs.declared.worker.Halt.{Halt}
use Rattle.hotzone.specs.declared.worker.Halt.TheVariants.{GivenUp}
use Rattle.hotzone.specs.declared.worker.Stepped.{Stepped}
use Rattle.hotzone.specs.declared.worker.Worker.{Worker}
use Rattle.hotzone.specs.declared.worker.ZoneFault.{ZoneFault}
use Rattle.sector_disk.specs.JoinedDisks.Counts.{HasSizes}
use Rattle.range_lock.specs.Locks.{IsStanding, IsStandingOf, Locks, has_entry, without}
use Rattle.range_lock.specs.declared.Entry.{Entry}
use Rattle.range_lock.specs.declared.Kind.TheVariants.{Alone}
use Rattle.range_lock.specs.declared.Standing.{Standing}
use Rattle.range_lock.specs.declared.Standing.TheVariants as standings
use Rattle.sector_disk.specs.Devices.{Device}
use Rattle.segment_map.specs.declared.map.Map.{Map}
use Rattle.volume_core.specs.declared.answers.Worked.{Worked}
use Rattle.volume_core.specs.declared.answers.Worked.TheVariants as answers
use Rattle.volume_core.specs.declared.working.Turn.{Turn}
use Rattle.volume_core.specs.declared.working.Turn.TheVariants.{Ends, Goes, Leaves, Takes, Waits}
use Rattle.volume_machine.specs.States.{LaneBecomes, open_at}
use Rattle.volume_machine.specs.declared.ask.Ask.{Ask}
use Rattle.volume_machine.specs.declared.ask.Ask.TheVariants.{Write}
use Rattle.volume_machine.specs.declared.open.Open.{Open}
use Rattle.hotzone.specs.ZoneEvents.Promises.{breaks}

-- ---- a zone that was given up begins anew
abbrev pub MayRenew : Option Halt → Type 0
MayRenew halted = (halted ≡ None) ⊎ (halted ≡ Some GivenUp)

pub data IsRenewed {C : Type 0} (before after : Worker C) : Type 0 where
  stays : before.halted ≡ None → after ≡ before → IsRenewed before after
  begins : before.halted ≡ Some GivenUp
      → after ≡ record before { next = first_call before.site; halted = None }
      → IsRenewed before after

-- ---- what is next
-- the zone's blocks are those of the operation
pub record Has {C : Type 0} (worker : Worker C) (operation : Option Open) : Type 0 where
  pub o : Open
  pub at : operation ≡ Some o
  pub range : range_in worker ≡ Some o.range

-- A step is made where the lane holds the zone's blocks, or where no old block is left and it has
-- none.
pub data MayStep {C : Type 0} (worker : Worker C) (entries : List Entry) (operation : Option Open)
    (lane : ℕ) : Type 0 where
  holds : Has worker operation → IsStandingOf lane entries standings.Held
      → MayStep worker entries operation lane
  finishes : operation ≡ None → range_in worker ≡ None → MayStep worker entries operation lane

abbrev pub IsTurn : {C : Type 0} → Worker C → List Entry → Option Open → ℕ → Turn → Type 0
IsTurn worker entries operation lane Ends = IsDone worker.next
IsTurn worker entries operation lane (Takes range) =
    (IsDone worker.next → ⊥) × (operation ≡ None) × (range_in worker ≡ Some range)
IsTurn worker entries operation lane Leaves =
    (o : Open) × (operation ≡ Some o) × (range_in worker ≢ Some o.range)
IsTurn worker entries operation lane (Waits other) =
    Has worker operation × IsStandingOf lane entries (standings.Waiting other)
IsTurn worker entries operation lane Goes =
    (IsDone worker.next → ⊥) × MayStep worker entries operation lane

-- ---- blocks are taken and left
-- what the worker asks for to have these blocks: to write them all
abbrev pub write_on : BlockRange → ℕ → Ask
write_on range atom = Write (range.start * atom) (len_of range * atom) false

-- its entry, and its operation, which has just begun
abbrev pub locked : ℕ → BlockRange → Entry
locked lane range = record { lane = lane; range = range; kind = Alone }

abbrev pub taken : Ask → BlockRange → Open
taken ask range = record {
  session = 0;
  ask = ask;
  range = range;
  fetched = 0;
  next = range.start;
  settled = false;
  failed = false;
}

-- the answer tells where its entry stands
abbrev pub StandsAs : (Standing → Type 0) → Worked → Type 0
StandsAs stands answers.Stepped = stands standings.Held
StandsAs stands (answers.Waiting lane) = stands (standings.Waiting lane)
StandsAs stands _ = ⊥

-- a lane that has an entry leaves the table; any other stays as it is
abbrev pub HasLeft : ℕ → List Entry → List Entry → List (Option Open) → List (Option Open) → Type 0
HasLeft lane old new before after =
    MatchBool (has_entry lane old)
    ((new ≡ without lane old) × LaneBecomes before after lane None)
    ((new ≡ old) × (after ≡ before))

-- ---- one step, by what the worker shares with clients: the map, the table of locks, the lanes,
-- whether the volume is broken, and the disk
pub record Shared : Type 0 where
  pub map : Map
  pub table : Locks
  pub lanes : List (Option Open)
  pub broken : Bool
  pub disk : Device

abbrev pub shared : Map → Locks → List (Option Open) → Bool → Device → Shared
shared map table lanes broken disk = record {
  map = map;
  table = table;
  lanes = lanes;
  broken = broken;
  disk = disk;
}

-- a lane takes blocks: its entry is the last one
pub record HasTaken (lane : ℕ) (range : BlockRange) (old new : Shared) (worked : Worked) : Type 0
  where
    pub entered : new.table.entries ≡ old.table.entries ++ locked lane range ∷ []
    pub stands : StandsAs (IsStanding old.table.entries (locked lane range)) worked
    pub becomes : LaneBecomes old.lanes new.lanes lane
        (Some (taken (write_on range old.map.atom) range))
    pub room : new.table.room ≡ old.table.room
    pub map_is : new.map ≡ old.map
    pub broken_is : new.broken ≡ old.broken
    pub rests : new.disk ≡ old.disk

-- a lane leaves blocks, where it has some
pub record LeavesLane (lane : ℕ) (old new : Shared) : Type 0 where
  pub left : HasLeft lane old.table.entries new.table.entries old.lanes new.lanes
  pub room : new.table.room ≡ old.table.room
  pub map_is : new.map ≡ old.map

-- the zone goes on, and the map is the one that it gives then
pub record HasGone {C : Type 0} (after : Worker C) (old new : Shared) : Type 0 where
  pub runs : after.halted ≡ None
  pub sizes : HasSizes after.loaded.valid.sizes new.disk
  pub map_is : IsMapNow after new.map
  pub table_is : new.table ≡ old.table
  pub lanes_are : new.lanes ≡ old.lanes
  pub broken_is : new.broken ≡ old.broken

-- What the worker does with its lane and its zone.
pub data HasWorked {C : Type 0} (seal unseal : C → ℕ → List ℕ → List ℕ) (lane : ℕ)
    (before after : Worker C) (old new : Shared) : Worked → Type 0 where
  finds_broken : old.broken ≡ true → after ≡ before → LeavesLane lane old new
      → new.broken ≡ true → new.disk ≡ old.disk
      → HasWorked seal unseal lane before after old new answers.Broken
  ends : old.broken ≡ false → IsRenewed before after
      → IsTurn after old.table.entries (open_at old.lanes lane) lane Ends → new ≡ old
      → HasWorked seal unseal lane before after old new answers.Finished
  takes : (range : BlockRange) (worked : Worked) → old.broken ≡ false → IsRenewed before after
      → IsTurn after old.table.entries (open_at old.lanes lane) lane (Takes range)
      → HasTaken lane range old new worked
      → HasWorked seal unseal lane before after old new worked
  waits : (other : ℕ) → old.broken ≡ false → IsRenewed before after
      → IsTurn after old.table.entries (open_at old.lanes lane) lane (Waits other) → new ≡ old
      → HasWorked seal unseal lane before after old new (answers.Waiting other)
  leaves : old.broken ≡ false → IsRenewed before after
      → IsTurn after old.table.entries (open_at old.lanes lane) lane Leaves
      → LeavesLane lane old new → new.broken ≡ false → new.disk ≡ old.disk
      → HasWorked seal unseal lane before after old new answers.Stepped
  steps : (ready : Worker C) (stepped : Stepped) → old.broken ≡ false → IsRenewed before ready
      → IsTurn ready old.table.entries (open_at old.lanes lane) lane Goes
      → StepGoes (seals_in seal unseal ready) old.disk new.disk ready after stepped
      → HasGone after old new
      → HasWorked seal unseal lane before after old new answers.Stepped
  stops : (ready : Worker C) (fault : ZoneFault) → old.broken ≡ false → IsRenewed before ready
      → IsTurn ready old.table.entries (open_at old.lanes lane) lane Goes
      → Stops (seals_in seal unseal ready) old.disk new.disk ready after fault
      → HasSizes after.loaded.valid.sizes new.disk → LeavesLane lane old new
      → new.broken ≡ breaks after.halted
      → HasWorked seal unseal lane before after old new (answers.Fault fault)
