-- What the headers of a conversion tell: how its sides are sealed, and where and by what the zone at
-- hand is guarded.
use Rattle.std.specs.Prelude.{ℕ, ◌≡◌, ◌<◌, ◌≤◌, true, List, Some}
use Rattle.crash_laws.specs.HeaderAreas.Commits.{MayBe}
use Rattle.crash_laws.specs.HeaderAreas.Headers.{Header, Layout}
use Rattle.crash_laws.specs.HotZones.Zones.{from_of, stage_of, to_of}
use Rattle.segment_map.specs.declared.Side.TheVariants.{New, Old}
use Rattle.volume_machine.specs.Deeds.{AreDeeds, Deed, state_after}
use Rattle.volume_machine.specs.Readings.{Reading}
use Rattle.volume_machine.specs.Seals.{Seals}
use Rattle.volume_machine.specs.States.{State}
use Rattle.volume_machine.specs.Works.{Progress, Work, converting, resting}

-- a header tells what guards the zone at hand, and in which area, from its start on
pub record TellsZone (reading : Reading) (work : Work) (header : List ℕ) : Type 0 where
  pub converts : reading.converts header ≡ true
  pub guard : reading.guard header ≡ work.zone.resilience
  pub store : 0 < work.zone.store.count
      → work.zone.store.start ≡ (reading.store header).start
  pub store_within : work.zone.store.count ≤ (reading.store header).count

-- A header tells of the seals what the one at the start told: of the new side always, of the old one
-- as long as blocks are left to convert; and of a zone that has blocks what guards it.
pub record Tells (reading : Reading) (start : List ℕ) (work : Work) (header : List ℕ) : Type 0 where
  pub new : reading.sealing header New ≡ reading.sealing start New
  pub old : work.progress ≡ converting
      → reading.sealing header Old ≡ reading.sealing start Old
  pub zone : work.range.start < work.range.end → TellsZone reading work header

-- So does each header that the commit at hand may leave, wherever a run of deeds stops.
abbrev pub TellsBeside : {K : Type 0} → Reading → State K → Seals → Type 0
TellsBeside {K} reading start seals =
    (layout : Layout) (header : Header (List ℕ)) (progress : Progress) (deeds : List (Deed K))
    → start.work ≡ Some (resting layout header progress) → AreDeeds reading seals start deeds
    → (work : Work) → (state_after start deeds).work ≡ Some work → (one : List ℕ)
    → MayBe (stage_of work.phase) (from_of work.zone work.phase).means
    (to_of work.zone work.phase).means one → Tells reading header.means work one
