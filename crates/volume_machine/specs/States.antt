-- A volume between two events.
use Rattle.std.specs.Prelude.{ℕ, suc, ◌≡◌, ◌<◌, ◌≤◌, false, List, Option, None, ◌≢◌, ◌*◌, Bool}
use Rattle.std.specs.Prelude.{length, slice_index_or, IsSomeAnd}
use Rattle.range_lock.specs.declared.Entry.{Entry}
use Rattle.segment_map.specs.declared.map.Map.{Map}
use Rattle.volume_machine.specs.Asks.{range_of}
use Rattle.volume_machine.specs.declared.ask.Ask.{Ask}
use Rattle.volume_machine.specs.declared.open.Open.{Open}
use Rattle.volume_machine.specs.Works.{Work}
use Rattle.sector_disk.specs.Devices.{Device}

-- the map of its blocks, the keys of its sides, the table of locks and its room, the open operation
-- of each lane, whether a write or a sync has failed, the conversion's work, where there is a
-- header, and its disk, whose atoms are the map's
pub record State (K : Type 0) : Type 0 where
  pub map : Map
  pub keys : K
  pub room : ℕ
  pub entries : List Entry
  pub lanes : List (Option Open)
  pub broken : Bool
  pub work : Option Work
  pub disk : Device

-- the volume's bytes
abbrev pub size_of : Map → ℕ
size_of map = map.blocks * map.atom

-- the open operation of a lane
abbrev pub open_at : List (Option Open) → ℕ → Option Open
open_at lanes lane = slice_index_or lanes lane None

-- an operation of a session that has just begun, on blocks of `atom` bytes
abbrev pub begun : ℕ → ℕ → Ask → Open
begun atom session ask = record {
  session = session;
  ask = ask;
  range = range_of atom ask;
  fetched = 0;
  next = (range_of atom ask).start;
  settled = false;
  failed = false;
}

-- a lane of clients: the last one is the conversion's own
abbrev pub IsClient : {K : Type 0} → State K → ℕ → Type 0
IsClient state lane = suc lane < length state.lanes

-- the zone at hand governs a block: it knows it by its steps; every other block is live
abbrev pub IsGoverned : {K : Type 0} → State K → ℕ → Type 0
IsGoverned state b = IsSomeAnd state.work (λ work. (work.range.start ≤ b) × (b < work.range.end))

pub record IsLive {K : Type 0} (state : State K) (b : ℕ) : Type 0 where
  pub inside : b < state.map.blocks
  pub free : IsGoverned state b → ⊥

-- the lane's operation changed, and no other
pub record LaneBecomes (old new : List (Option Open)) (lane : ℕ) (now : Option Open) : Type 0 where
  pub count : length new ≡ length old
  pub own : open_at new lane ≡ now
  pub others : (k : ℕ) → k ≢ lane → open_at new k ≡ open_at old k

-- no lane has an operation under way
abbrev pub IsIdle : {K : Type 0} → State K → Type 0
IsIdle state = (lane : ℕ) → open_at state.lanes lane ≡ None
