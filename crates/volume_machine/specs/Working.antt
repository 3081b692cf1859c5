-- A zone at hand between two events: the last lane holds its blocks, and what its calls write lies
-- apart from all other blocks.
use Rattle.std.specs.Prelude.{ℕ, suc, ◌≡◌, ◌+◌, ◌-◌, ◌*◌, ◌<◌, ◌≤◌, false, length, List, []}
use Rattle.std.specs.Prelude.{Contains, Some}
use Rattle.crash_laws.specs.HeaderAreas.Areas.{Area, AreApart}
use Rattle.crash_laws.specs.HeaderAreas.Headers.{Copy, Layout, place_of}
use Rattle.sector_disk.specs.DiskViews.Views.{IsOutside}
use Rattle.crash_laws.specs.HotZones.Standing.{IsPhaseOf, IsWithin, side_before}
use Rattle.crash_laws.specs.HotZones.Zones.{Hotzone, Resilience, journal, checksum, datashift}
use Rattle.crash_laws.specs.HotZones.Zones.{IsApart, Reaches}
use Rattle.volume_machine.specs.Asks.{IsWrite}
use Rattle.volume_machine.specs.Pieces.{place_in, side_in}
use Rattle.volume_machine.specs.States.{State, open_at, IsLive}
use Rattle.volume_machine.specs.Steps.{Holds}
use Rattle.volume_machine.specs.Works.{Work, Progress, wiping}
use Rattle.volume_machine.specs.declared.open.Open.{Open}

-- what the last lane has under way: a write that makes no piece
pub record IsWorkers (o : Open) : Type 0 where
  pub writes : IsWrite o.ask
  pub next : o.next ≡ o.range.start
  pub unfailed : o.failed ≡ false

-- the last lane holds the zone's blocks
pub record HoldsZone {K : Type 0} (state : State K) (work : Work) : Type 0 where
  pub lane : ℕ
  pub last : suc lane ≡ length state.lanes
  pub o : Open
  pub at : open_at state.lanes lane ≡ Some o
  pub writes : IsWrite o.ask
  pub range : o.range ≡ work.range
  pub next : o.next ≡ o.range.start
  pub unfailed : o.failed ≡ false
  pub holds : Holds state lane

-- there is room for what is saved of each block, or for each block's new atom
abbrev pub HasRoom : {M : Type 0} → Resilience → ℕ → Hotzone M → Type 0
HasRoom journal atom zone = zone.store.count ≡ zone.own.count
HasRoom checksum atom zone = zone.own.count * 32 ≤ zone.store.count * atom
HasRoom datashift atom zone = zone.own.count ≤ zone.target.count

-- the zone and the header's copies lie on the disk
pub record LiesWithin (atoms : ℕ) (work : Work) : Type 0 where
  pub zone : IsWithin atoms work.zone
  pub copies : (copy : Copy)
      → (place_of work.layout copy).start + (place_of work.layout copy).count ≤ atoms

-- areas that are still to be wiped
abbrev pub wiped_later : Progress → List Area
wiped_later (wiping areas) = areas
wiped_later _ = []

-- neither a block of the volume nor a copy of the header lies in the area, which is on the disk
pub record IsSpare {K : Type 0} (state : State K) (layout : Layout) (area : Area) : Type 0 where
  pub within : area.start + area.count ≤ state.disk.atoms
  pub copies : (copy : Copy) → AreApart area (place_of layout copy)
  pub beside : (b : ℕ) → b < state.map.blocks
      → IsOutside area.start area.count (place_in state.map b)

-- What the zone's steps write lies apart from every live block, and while nothing has failed a zone
-- that has blocks is held.
pub record LiesApart {K : Type 0} (state : State K) (work : Work) : Type 0 where
  pub apart : IsApart work.layout work.zone
  pub count : work.range.start + work.zone.own.count ≡ work.range.end
  pub inside : work.range.end ≤ state.map.blocks
  pub fewer : work.zone.target.count ≤ work.zone.own.count
  pub held : state.broken ≡ false → work.range.start < work.range.end → HoldsZone state work
  pub away : (b : ℕ) → IsLive state b → (area : Area) → Reaches work.layout work.zone area
      → IsOutside area.start area.count (place_in state.map b)

-- Such a zone has room for what is saved, and is on the disk. Until its header says that its blocks
-- are new they are on the side that the header has them on, one behind the other in their old
-- places. Areas are wiped when no zone is left.
pub record IsWorking {K : Type 0} (state : State K) (work : Work) : Type 0 where
  pub lies : LiesApart state work
  pub enough : HasRoom work.zone.resilience state.map.atom work.zone
  pub phased : IsPhaseOf work.zone.resilience work.phase
  pub within : LiesWithin state.disk.atoms work
  pub sides : (b : ℕ) → work.range.start ≤ b → b < work.range.end
      → side_in state.map b ≡ side_before work.phase
  pub places : (b : ℕ) → work.range.start ≤ b → b < work.range.end
      → place_in state.map b ≡ work.zone.own.start + (b - work.range.start)
  pub worker : (lane : ℕ) (o : Open) → suc lane ≡ length state.lanes
      → open_at state.lanes lane ≡ Some o → IsWorkers o
  pub spare : (area : Area) → Contains (wiped_later work.progress) area
      → IsSpare state work.layout area
  pub behind : (area : Area) → Contains (wiped_later work.progress) area
      → work.range.end ≤ work.range.start

-- where a zone is at hand
abbrev pub KeepsApart : {K : Type 0} → State K → Type 0
KeepsApart state = (work : Work) → state.work ≡ Some work → LiesApart state work

abbrev pub Works : {K : Type 0} → State K → Type 0
Works state = (work : Work) → state.work ≡ Some work → IsWorking state work
