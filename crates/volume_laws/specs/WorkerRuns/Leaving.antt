-- What steps of a conversion's worker leave, and clients beside it: what headers say that a stop may leave, and the atoms of
-- the disk that are neither the volume's nor the conversion's.
use Rattle.std.specs.Prelude.{ℕ, ◌≡◌, ◌≢◌, ◌+◌, ◌*◌, ◌<◌, ◌⊎◌, ◌++◌, List, length, Contains, Some, false}
use Rattle.crash_laws.specs.HeaderAreas.Areas.{Area}
use Rattle.crash_laws.specs.HeaderAreas.Commits.{MayBe}
use Rattle.crash_laws.specs.HeaderAreas.Headers.{Copy, Header, Layout, place_of}
use Rattle.sector_disk.specs.DiskViews.Parts.{block_at, cell_in}
use Rattle.sector_disk.specs.DiskViews.Views.{IsOutside}
use Rattle.crash_laws.specs.HotZones.Zones.{datashift, from_of, stage_of, to_of}
use Rattle.reenc_worker.specs.declared.ends.WorkAnswer.{WorkAnswer}
use Rattle.sector_disk.specs.Steps.{Told}
use Rattle.segment_map.specs.declared.Side.{Side}
use Rattle.segment_map.specs.declared.Side.TheVariants.{New}
use Rattle.volume_laws.specs.Converting.{IsInOrder}
use Rattle.volume_laws.specs.Rest.{KeepsCell}
use Rattle.volume_machine.specs.Deeds.{AreDeeds, Deed, state_after}
use Rattle.volume_machine.specs.Pieces.{place_in}
use Rattle.volume_machine.specs.Readings.{Reading}
use Rattle.volume_machine.specs.Seals.{Seals}
use Rattle.volume_machine.specs.States.{State}
use Rattle.volume_machine.specs.Works.{Progress, Work, converting, resting}
use Rattle.volume_machine.specs.declared.keys.Keys.{Keys}
use Rattle.volume_laws.specs.WorkerRuns.Conversions.{MayConvert}
use Rattle.volume_laws.specs.WorkerRuns.Steps.{HasWorked}

-- ---- headers
-- A header says what the first one said: of both sides, of what guards zones and in which area, and
-- where keyslots lie.
pub record SaysAs (reading : Reading) (first header : List ℕ) : Type 0 where
  pub sealing : (side : Side) → reading.sealing header side ≡ reading.sealing first side
  pub guard : reading.guard header ≡ reading.guard first
  pub store : reading.store header ≡ reading.store first
  pub keyslots : reading.keyslots header ≡ reading.keyslots first

-- by a header the conversion is at its end: it says of the new side what the first one said
pub record SaysItEnds (reading : Reading) (first header : List ℕ) : Type 0 where
  pub rests : reading.converts header ≡ false
  pub sealing : reading.sealing header New ≡ reading.sealing first New

-- each header that the commit at hand may leave says the one or the other
abbrev pub HeadersSay : {K : Type 0} → Reading → List ℕ → State K → Type 0
HeadersSay reading first state = (work : Work) → state.work ≡ Some work → (one : List ℕ)
    → MayBe (stage_of work.phase) (from_of work.zone work.phase).means
    (to_of work.zone work.phase).means one
    → SaysAs reading first one ⊎ SaysItEnds reading first one

-- ---- the rest
-- Neither a copy of the header nor a block of the volume lies at the place, and it isn't in the area
-- that guards zones.
pub record IsElsewhere {K : Type 0} (reading : Reading) (layout : Layout) (header : List ℕ)
    (state : State K) (place : ℕ) : Type 0 where
  pub copies : (copy : Copy)
      → IsOutside (place_of layout copy).start (place_of layout copy).count place
  pub store : IsOutside (reading.store header).start (reading.store header).count place
  pub blocks : (b : ℕ) → b < state.map.blocks → place_in state.map b ≢ place

-- An atom holds what it held: by the disk's bytes, unless a call failed, and by its tables, where a
-- stop may leave only that or what it might have left before.
pub record KeepsAtom {K : Type 0} (old new : State K) (place : ℕ) : Type 0 where
  pub bytes : new.broken ≡ false → (bytes : List ℕ) → old.disk.values ≡ Some bytes
      → length bytes ≡ old.disk.atoms * old.map.atom
      → (now : List ℕ) × (new.disk.values ≡ Some now) × (length now ≡ length bytes)
      × (block_at old.map.atom now place ≡ block_at old.map.atom bytes place)
  pub cells : (told : Told) → new.disk.told ≡ Some told
      → (before : Told) × (old.disk.told ≡ Some before)
      × KeepsCell (cell_in before.now place) (cell_in told.now place)

-- By the last header, which no commit leads on from, the conversion is at its end, and the place is
-- in an area in which the first one has a keyslot, and the last one hasn't.
pub record IsDropped {K : Type 0} (reading : Reading) (first : List ℕ) (state : State K)
    (place : ℕ) : Type 0 where
  pub layout : Layout
  pub last : Header (List ℕ)
  pub progress : Progress
  pub stands : state.work ≡ Some (resting layout last progress)
  pub ended : progress ≢ converting
  pub says : SaysItEnds reading first last.means
  pub area : Area
  pub had : Contains (reading.keyslots first) area
  pub gone : Contains (reading.keyslots last.means) area → ⊥
  pub inside : (k : ℕ) × (k < area.count) × (place ≡ area.start + k)

-- both
pub record LeavesRest {K : Type 0} (reading : Reading) (layout : Layout) (first : List ℕ)
    (old now : State K) : Type 0 where
  pub headers : HeadersSay reading first now
  pub rest : (place : ℕ) → IsElsewhere reading layout first old place
      → KeepsAtom old now place ⊎ IsDropped reading first now place

-- Behind each deed, also where clients' events stand between the worker's steps, where blocks stay in
-- their places.
abbrev pub DeedsLeaveTheRest : Type 0 → Type 0
DeedsLeaveTheRest C =
    (reading : Reading) (seals : Seals) (layout : Layout) (header : Header (List ℕ))
    (old : State (Keys C)) (deeds : List (Deed (Keys C))) → IsInOrder reading old
    → old.work ≡ Some (resting layout header converting) → reading.guard header.means ≢ datashift
    → AreDeeds reading seals old deeds
    → LeavesRest reading layout header.means old (state_after old deeds)

-- Wherever steps of the worker alone stop, whatever they ended with, where blocks stay in their places.
abbrev pub WorksLeaveTheRest : Type 0 → Type 0
WorksLeaveTheRest C =
    (reading : Reading) (seals : Seals) (layout : Layout) (header : Header (List ℕ))
    (old new : State (Keys C)) (answers : List WorkAnswer) → MayConvert reading layout header old
    → reading.guard header.means ≢ datashift
    → (worked : HasWorked reading seals old new answers) → (earlier later : List (Deed (Keys C)))
    → worked.deeds ≡ earlier ++ later
    → LeavesRest reading layout header.means old (state_after old earlier)
