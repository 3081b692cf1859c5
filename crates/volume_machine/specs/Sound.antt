-- What holds of a volume between any two events.
use Rattle.std.specs.Prelude.{ℕ, ◌≡◌, suc, ◌+◌, ◌*◌, ◌<◌, ◌≤◌, ◌^◌, Bool, false, if◌then◌else◌}
use Rattle.std.specs.Prelude.{List, [], ◌∷◌, length, find, Option, Some, None}
use Rattle.std.specs.List.{after_first}
use Rattle.range_lock.specs.declared.Entry.{Entry}
use Rattle.range_lock.specs.Locks.{is_of}
use Rattle.sector_disk.specs.Geometry.{IsAtom}
use Rattle.segment_map.specs.declared.Side.TheVariants.{Zone}
use Rattle.segment_map.specs.declared.map.Map.{Map}
use Rattle.volume_machine.specs.Asks.{range_of, has_lock, entry_of, wrong_ask}
use Rattle.volume_machine.specs.Pieces.{place_in, side_in}
use Rattle.volume_machine.specs.States.{State, open_at, size_of, IsGoverned}
use Rattle.volume_machine.specs.declared.open.Open.{Open}

-- the map fits a disk of so many atoms: its blocks are the disk's atoms, and lie on it
pub record MapFits (map : Map) (atoms : ℕ) : Type 0 where
  pub known : IsAtom map.atom
  pub small : map.blocks * map.atom < 2 ^ 63
  pub old_places : map.old_place + map.blocks ≤ atoms
  pub new_places : map.new_place + map.blocks ≤ atoms

-- no two blocks have the same place
abbrev pub AreApart : Map → Type 0
AreApart map = (a b : ℕ) → a < map.blocks → b < map.blocks → place_in map a ≡ place_in map b → a ≡ b

-- the entry that a lane's operation has in the table
abbrev pub entry_in : ℕ → ℕ → Option Open → Option Entry
entry_in atom lane None = None
entry_in atom lane (Some o) = if has_lock o.ask then Some (entry_of atom lane o.ask) else None

-- whether a lane's operation has an entry, and how many have
abbrev pub locks : Option Open → Bool
locks None = false
locks (Some o) = has_lock o.ask

unfoldable pub count_locks : List (Option Open) → ℕ
count_locks [] = 0
count_locks (lane ∷ lanes) = if locks lane then suc (count_locks lanes) else count_locks lanes

-- an operation that isn't wrong, at one of its blocks or its end
pub record IsUnderWay (map : Map) (o : Open) : Type 0 where
  pub proper : wrong_ask map.atom (size_of map) o.ask ≡ None
  pub range_is : o.range ≡ range_of map.atom o.ask
  pub begun : o.range.start ≤ o.next
  pub within : o.next ≤ o.range.end
  pub inside : o.range.end ≤ map.blocks

-- The table has the entry of each lane's operation and no other, and room for all lanes'. A block
-- of an open zone is one of the zone at hand, on a broken volume too. As decided of the events to
-- come, every fault behind the commit that opens a zone breaks the volume, and takes the zone's
-- entry out of the table, but its work stays in the state.
pub record IsSound {K : Type 0} (state : State K) : Type 0 where
  pub fits : MapFits state.map state.disk.atoms
  pub room : state.room ≡ length state.lanes
  pub some : 0 < length state.lanes
  pub count : length state.entries ≡ count_locks state.lanes
  pub entries : (lane : ℕ)
      → find (is_of lane) state.entries ≡ entry_in state.map.atom lane (open_at state.lanes lane)
  pub once : (lane : ℕ) → find (is_of lane) (after_first (is_of lane) state.entries) ≡ None
  pub under_way : (lane : ℕ) (o : Open) → open_at state.lanes lane ≡ Some o → IsUnderWay state.map o
  pub zoned : (b : ℕ) → side_in state.map b ≡ Zone → IsGoverned state b
