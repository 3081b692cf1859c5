-- How a volume begins.
use Rattle.std.specs.Prelude.{ℕ, ◌≡◌, ◌<◌, false, List, [], None, replicate}
use Rattle.segment_map.specs.declared.map.Map.{Map}
use Rattle.volume_machine.specs.Pieces.{side_in, place_in}
use Rattle.volume_machine.specs.Seals.{Seals}
use Rattle.volume_machine.specs.States.{State, open_at}
use Rattle.segment_map.specs.declared.Side.{Side}
use Rattle.segment_map.specs.declared.Side.TheVariants.{New}
use Rattle.sector_disk.specs.Devices.{Device}

-- no lane has an operation, nothing is locked, nothing has failed, and no zone is at hand
pub record IsFresh {K : Type 0} (state : State K) : Type 0 where
  pub lanes : (lane : ℕ) → open_at state.lanes lane ≡ None
  pub entries : state.entries ≡ []
  pub unbroken : state.broken ≡ false
  pub rests : state.work ≡ None

-- seals that leave each text as it is
pub record ChangeNothing (seals : Seals) : Type 0 where
  pub sealed : (side : Side) (block : ℕ) (bytes : List ℕ) → seals.sealed side block bytes ≡ bytes
  pub opened : (side : Side) (block : ℕ) (bytes : List ℕ) → seals.opened side block bytes ≡ bytes

-- a volume of so many lanes that has begun
abbrev pub new_volume : {K : Type 0} → Map → K → ℕ → Device → State K
new_volume map keys lanes disk = record {
  map = map;
  keys = keys;
  room = lanes;
  entries = [];
  lanes = replicate lanes None;
  broken = false;
  work = None;
  disk = disk;
}

-- the blocks of a whole disk, all of them new and at their own places
pub record IsWholeDisk (size atoms : ℕ) (map : Map) : Type 0 where
  pub atom : map.atom ≡ size
  pub blocks : map.blocks ≡ atoms
  pub sides : (block : ℕ) → block < map.blocks → side_in map block ≡ New
  pub places : (block : ℕ) → block < map.blocks → place_in map block ≡ block
