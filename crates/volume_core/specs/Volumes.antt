-- A volume as its state: what it shows, what it keeps, and how it begins.
use Rattle.std.specs.Prelude.{ℕ, ◌≡◌, ◌<◌, ◌^◌, Bool, List, [], length, Option, None, replicate}
use Rattle.std.specs.Prelude.{IfSome}
use Rattle.hotzone.specs.declared.worker.Worker.{Worker}
use Rattle.range_lock.specs.Locks.{Locks}
use Rattle.segment_map.specs.declared.map.Map.{Map}
use Rattle.volume_machine.specs.Seals.{KeysFit}
use Rattle.volume_machine.specs.Sound.{IsSound}
use Rattle.volume_core.specs.Zones.{IsLed}
use Rattle.volume_machine.specs.States.{State}
use Rattle.volume_machine.specs.Works.{Work}
use Rattle.sector_disk.specs.Devices.{Device}
use Rattle.volume_machine.specs.declared.keys.Keys.{Keys}
use Rattle.volume_machine.specs.declared.open.Open.{Open}

abbrev pub state_of : {K : Type 0} → Map → K → Locks → List (Option Open) → Bool → Option Work
    → Device → State K
state_of map keys table lanes broken work disk = record {
  map = map;
  keys = keys;
  room = table.room;
  entries = table.entries;
  lanes = lanes;
  broken = broken;
  work = work;
  disk = disk;
}

-- its blocks have the size of the disk's atoms, it is sound, its keys fit its blocks, and a zone
-- leads it, where it has one
pub record IsVolume {C : Type 0} (sector : C → ℕ) (zone : Option (Worker C)) (state : State (Keys C))
    : Type 0 where
  pub atom : state.map.atom ≡ state.disk.size
  pub sound : IsSound state
  pub keys : KeysFit sector state.keys state.map.atom state.map.blocks
  pub few : length state.lanes < 2 ^ 32
  pub led : IfSome zone (λ worker. IsLed worker state)

-- lanes, as many as the table has room for: none has an operation, and nothing is locked
pub record AreUnused (table : Locks) (lanes : List (Option Open)) : Type 0 where
  pub some : 0 < table.room
  pub few : table.room < 2 ^ 32
  pub none : table.entries ≡ []
  pub idle : lanes ≡ replicate table.room None
