-- The headers that a zone leads to, and what the maps that they give change.
use Rattle.std.specs.Prelude.{ℕ, true, suc, ◌≡◌, ◌+◌, ◌-◌, ◌<◌, ◌≤◌, ◌⊎◌, List, Some}
use Rattle.base_terms.specs.declared.block_range.BlockRange.{BlockRange}
use Rattle.crash_laws.specs.HeaderAreas.Commits.{Follows}
use Rattle.crash_laws.specs.HeaderAreas.Headers.{Reader, Header, IsHeader, Layout, IsLaidOut}
use Rattle.crash_laws.specs.HeaderAreas.Areas.{Area}
use Rattle.sector_disk.specs.DiskViews.Views.{IsOutside}
use Rattle.crash_laws.specs.HotZones.Calls.{IsFirst}
use Rattle.crash_laws.specs.HotZones.Standing.{IsPhaseOf, IsWithin, new_start}
use Rattle.crash_laws.specs.HotZones.Zones.{Hotzone, Phase, saving, opening, shifting, turning, from_of}
use Rattle.crash_laws.specs.HotZones.Zones.{to_of}
use Rattle.crash_laws.specs.HotZones.Zones.{IsApart, Reaches}
use Rattle.segment_map.specs.declared.Side.{Side}
use Rattle.segment_map.specs.declared.Side.TheVariants.{Old, New, Zone}
use Rattle.segment_map.specs.declared.map.Map.{Map}
use Rattle.volume_machine.specs.Pieces.{place_in, side_in}
use Rattle.volume_machine.specs.Readings.{Reading}
use Rattle.volume_machine.specs.Sound.{MapFits, AreApart}
use Rattle.volume_machine.specs.States.{State}
use Rattle.volume_machine.specs.Working.{HasRoom}
use Rattle.volume_machine.specs.Works.{Work, wanted, converting, resting}

-- a block isn't one of the range
abbrev pub IsBeyond : BlockRange → ℕ → Type 0
IsBeyond range b = (b < range.start) ⊎ (range.end ≤ b)

-- Another map of the same blocks, on a disk of so many atoms: those of the range are on this side,
-- one behind the other from a place on, every other one is where it was.
pub record Turns (atoms : ℕ) (range : BlockRange) (side : Side) (start : ℕ) (old new : Map) : Type 0
  where
    pub atom : new.atom ≡ old.atom
    pub blocks : new.blocks ≡ old.blocks
    pub fits : MapFits new atoms
    pub apart : AreApart new
    pub same_sides : (b : ℕ) → b < old.blocks → IsBeyond range b → side_in new b ≡ side_in old b
    pub same_places : (b : ℕ) → b < old.blocks → IsBeyond range b
        → place_in new b ≡ place_in old b
    pub sides : (b : ℕ) → range.start ≤ b → b < range.end → side_in new b ≡ side
    pub places : (b : ℕ) → range.start ≤ b → b < range.end
        → place_in new b ≡ start + (b - range.start)
    pub zoned : (b : ℕ) → old.blocks ≤ b → side_in new b ≡ Old

-- a header that comes after another: both its copies are valid, of the same size and of the next
-- number
pub record Succeeds (reader : Reader (List ℕ)) (from to : Header (List ℕ)) : Type 0 where
  pub is : IsHeader reader to
  pub follows : Follows reader from.means to.means
  pub number : reader.seq to.means ≡ suc (reader.seq from.means)

-- a header goes on with the conversion of another one: its sides are sealed the same, its zones are
-- guarded the same, and its keyslots lie in the same areas
pub record Continues (reading : Reading) (from to : List ℕ) : Type 0 where
  pub converts : reading.converts to ≡ true
  pub sealing : (side : Side) → reading.sealing to side ≡ reading.sealing from side
  pub guard : reading.guard to ≡ reading.guard from
  pub store : reading.store to ≡ reading.store from
  pub keyslots : reading.keyslots to ≡ reading.keyslots from

-- the commit 'zone open' is still to come, or at hand
abbrev pub IsToOpen : Phase → Type 0
IsToOpen (saving n) = Unit {0}
IsToOpen (opening stage) = Unit {0}
IsToOpen _ = ⊥

-- the header that the last commit leads from
abbrev pub last_from : Hotzone (List ℕ) → Phase → Header (List ℕ)
last_from zone (shifting n) = zone.before
last_from zone (turning stage) = zone.before
last_from zone _ = zone.opened

-- the headers that a zone leads to turn its blocks alone, to a zone and to new ones
pub record Leads {K : Type 0} (reading : Reading) (state : State K) (work : Work) : Type 0 where
  pub opens : IsToOpen work.phase → Succeeds reading.reader work.zone.before work.zone.opened
      × Turns state.disk.atoms work.range Zone work.zone.own.start state.map
      (reading.map_of work.zone.opened.means)
  pub moves : Succeeds reading.reader (last_from work.zone work.phase) work.zone.moved
      × Turns state.disk.atoms work.range New (new_start work.zone.resilience work.zone) state.map
      (reading.map_of work.zone.moved.means)

-- and go on with its conversion
pub record LeadsOn (reading : Reading) (work : Work) : Type 0 where
  pub opens : IsToOpen work.phase
      → Continues reading work.zone.before.means work.zone.opened.means
  pub moves : Continues reading (last_from work.zone work.phase).means work.zone.moved.means

-- no zone is at hand
abbrev pub IsAtRest : Work → Type 0
IsAtRest work = work ≡ resting work.layout work.zone.before work.progress

-- The map is that of the header which the commit at hand leads from, or which the next one will
-- lead from. The headers to come are named with a zone's first write.
pub record IsOnCourse {K : Type 0} (reading : Reading) (state : State K) (work : Work) : Type 0
  where
    pub is : IsHeader reading.reader (from_of work.zone work.phase)
    pub map : state.map ≡ reading.map_of (from_of work.zone work.phase).means
    pub laid : IsLaidOut state.map.atom state.disk.atoms
        (reading.reader.size (from_of work.zone work.phase).means) work.layout
    pub is_next : IsHeader reading.reader (to_of work.zone work.phase)
    pub next : IsFirst work.phase ⊎ Leads reading state work

abbrev pub Courses : {K : Type 0} → Reading → State K → Type 0
Courses reading state = (work : Work) → state.work ≡ Some work → IsOnCourse reading state work

-- ---- the zone that begins next, whose headers aren't named yet: it is guarded as its header says,
-- and what is saved of it is saved from the start of that area on
pub record IsPlanned {K : Type 0} (reading : Reading) (state : State K) (layout : Layout)
    (header : Header (List ℕ)) (work : Work) : Type 0 where
  pub converts : reading.converts header.means ≡ true
  pub guard : work.zone.resilience ≡ reading.guard header.means
  pub store : 0 < work.zone.store.count
      → work.zone.store.start ≡ (reading.store header.means).start
  pub store_within : work.zone.store.count ≤ (reading.store header.means).count
  pub layout_is : work.layout ≡ layout
  pub before : work.zone.before ≡ header
  pub opened : work.zone.opened ≡ header
  pub moved : work.zone.moved ≡ header
  pub part : work.part ≡ wanted 0
  pub progress : work.progress ≡ converting
  pub first : IsFirst work.phase
  pub phased : IsPhaseOf work.zone.resilience work.phase
  pub apart : IsApart work.layout work.zone
  pub within : IsWithin state.disk.atoms work.zone
  pub count : work.range.start + work.zone.own.count ≡ work.range.end
  pub inside : work.range.end ≤ state.map.blocks
  pub some : work.range.start < work.range.end
  pub fewer : work.zone.target.count ≤ work.zone.own.count
  pub enough : HasRoom work.zone.resilience state.map.atom work.zone
  pub sides : (b : ℕ) → work.range.start ≤ b → b < work.range.end → side_in state.map b ≡ Old
  pub places : (b : ℕ) → work.range.start ≤ b → b < work.range.end
      → place_in state.map b ≡ work.zone.own.start + (b - work.range.start)
  pub away : (b : ℕ) → b < state.map.blocks → IsBeyond work.range b
      → (area : Area) → Reaches work.layout work.zone area
      → IsOutside area.start area.count (place_in state.map b)
