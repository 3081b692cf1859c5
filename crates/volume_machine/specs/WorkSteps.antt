-- One step of the conversion's worker: what it asks of the state before, and what it leaves.
use Rattle.std.specs.Prelude.{ℕ, ◌↔◌, suc, ◌≡◌, ◌≢◌, ◌+◌, ◌-◌, ◌*◌, ◌^◌, ◌<◌, ◌≤◌, Bool, true, false}
use Rattle.std.specs.Prelude.{List, [], ◌∷◌}
use Rattle.std.specs.Prelude.{length, replicate, Contains, Option, Some, None}
use Rattle.crash_laws.specs.HeaderAreas.Areas.{Area}
use Rattle.crash_laws.specs.HeaderAreas.Commits.{Stage, begun, first_written, second_written}
use Rattle.crash_laws.specs.HeaderAreas.Headers.{Layout, Header, IsHeader}
use Rattle.crash_laws.specs.HotZones.Calls.{IsFirst, IsLast}
use Rattle.sector_disk.specs.DiskViews.Parts.{block_at}
use Rattle.crash_laws.specs.HotZones.Zones.{Phase, saving, opening, writing, moving, shifting, checksum}
use Rattle.range_lock.specs.declared.Standing.TheVariants.{Waiting}
use Rattle.range_lock.specs.Locks.{IsStandingOf, without}
use Rattle.sector_disk.specs.Devices.{ReadCall, SyncCall, succeeded, failed_call}
use Rattle.segment_map.specs.declared.Side.{Side}
use Rattle.segment_map.specs.declared.Side.TheVariants.{New}
use Rattle.segment_map.specs.declared.map.Map.{Map}
use Rattle.sha2.specs.Sha256.{sha256}
use Rattle.volume_machine.specs.Asks.{IsWrite, range_of, wrong_ask}
use Rattle.volume_machine.specs.Courses.{IsAtRest, IsPlanned, Leads, LeadsOn, Succeeds, Turns}
use Rattle.volume_machine.specs.Events.{Outcome, held, waits}
use Rattle.volume_machine.specs.Pieces.{side_in}
use Rattle.volume_machine.specs.Readings.{Reading}
use Rattle.volume_machine.specs.Seals.{Seals}
use Rattle.volume_machine.specs.States.{State, open_at, size_of, LaneBecomes}
use Rattle.volume_machine.specs.Steps.{IsAdmitted}
use Rattle.volume_machine.specs.WorkCalls.{Puts, PutsCopy, ZoneStep, StepFails, resealed}
use Rattle.volume_machine.specs.Working.{HoldsZone, IsSpare}
use Rattle.volume_machine.specs.Works.{Work, Part, wanted, fetched, converting, wiping}
use Rattle.volume_machine.specs.Works.{complete, advanced, empty_zone, named, no_blocks, resting}
use Rattle.volume_machine.specs.declared.ask.Ask.{Ask}
use Rattle.volume_machine.specs.declared.grant.Grant.{Grant}
use Rattle.volume_machine.specs.declared.open.Open.{Open}

-- what hinders a zone or the finish: the old atom and the new one of this block have the same digest;
-- so many numbers are left, and so many headers are to come; the text of one is this long, and there
-- is room for so much; memory ran out
pub data Hindrance : Type 0 where
  clashes : (block : ℕ) (digest : List ℕ) → Hindrance
  no_number : (left needed : ℕ) → Hindrance
  no_room : (length limit : ℕ) → Hindrance
  no_memory : Hindrance

-- what the worker is answered
pub data Worked : Type 0 where
  -- a step was made
  stepped : Worked
  -- the entry of this lane is earlier and conflicts with the blocks of the next zone
  awaits : (lane : ℕ) → Worked
  -- no step is left
  finished : Worked
  -- the device call failed
  faulted : Worked
  -- the zone can't be made, or the finish
  hindered : (cause : Hindrance) → Worked
  -- an earlier write or sync failed, or a read behind a zone's first commit or, by datashift, behind
  -- its first write
  was_broken : Worked

-- all stays but the map, the zone at hand, whether the volume is broken, and the disk
pub record Proceeds {K : Type 0} (old new : State K) (map : Map) (next : Work)
    (is_broken : Bool) : Type 0 where
  pub map_is : new.map ≡ map
  pub keys : new.keys ≡ old.keys
  pub room : new.room ≡ old.room
  pub entries : new.entries ≡ old.entries
  pub lanes : new.lanes ≡ old.lanes
  pub broken_is : new.broken ≡ is_broken
  pub work : new.work ≡ Some next

-- the last lane's operation ends, where it has one
pub record Frees {K : Type 0} (old new : State K) (is_broken : Bool) (next : Option Work) : Type 0
  where
    pub lane : ℕ
    pub last : suc lane ≡ length old.lanes
    pub map : new.map ≡ old.map
    pub keys : new.keys ≡ old.keys
    pub room : new.room ≡ old.room
    pub entries : new.entries ≡ without lane old.entries
    pub lanes : LaneBecomes old.lanes new.lanes lane None
    pub broken_is : new.broken ≡ is_broken
    pub work : new.work ≡ next

-- all blocks of the volume, or of the operation, are on this side
abbrev pub AreAllOn : Map → Side → Type 0
AreAllOn map side = (b : ℕ) → b < map.blocks → side_in map b ≡ side

abbrev pub AreOn : Map → Open → Side → Type 0
AreOn map o side = (b : ℕ) → o.range.start ≤ b → b < o.range.end → side_in map b ≡ side

-- ---- the blocks of the next zone are taken: the last lane enters the table
pub record Takes {K : Type 0} (reading : Reading) (old new : State K) (outcome : Outcome) : Type 0
  where
    pub layout : Layout
    pub header : Header (List ℕ)
    pub was : old.work ≡ Some (resting layout header converting)
    pub unbroken : old.broken ≡ false
    pub lane : ℕ
    pub last : suc lane ≡ length old.lanes
    pub free : open_at old.lanes lane ≡ None
    pub session : ℕ
    pub ask : Ask
    pub writes : IsWrite ask
    pub proper : wrong_ask old.map.atom (size_of old.map) ask ≡ None
    pub next : Work
    pub planned : IsPlanned reading old layout header next
    pub covers : range_of old.map.atom ask ≡ next.range
    pub admitted : IsAdmitted old lane session ask outcome new

-- it asks again, and the entry of another lane is still in its way
pub record AsksAgain {K : Type 0} (reading : Reading) (old new : State K) (other : ℕ) : Type 0
  where
    pub layout : Layout
    pub header : Header (List ℕ)
    pub was : old.work ≡ Some (resting layout header converting)
    pub unbroken : old.broken ≡ false
    pub lane : ℕ
    pub last : suc lane ≡ length old.lanes
    pub o : Open
    pub at : open_at old.lanes lane ≡ Some o
    pub next : Work
    pub planned : IsPlanned reading old layout header next
    pub covers : o.range ≡ next.range
    pub stands : IsStandingOf lane old.entries (Waiting other)
    pub same : new ≡ old

-- ---- the zone begins with a sync, once its blocks are held
pub record Begins {K : Type 0} (reading : Reading) (old new : State K) : Type 0 where
  pub layout : Layout
  pub header : Header (List ℕ)
  pub was : old.work ≡ Some (resting layout header converting)
  pub unbroken : old.broken ≡ false
  pub work : Work
  pub planned : IsPlanned reading old layout header work
  pub held : HoldsZone old work
  pub call : SyncCall old.disk new.disk succeeded
  pub goes : Proceeds old new old.map work false

-- A step of it that leaves the map. Its first write names the headers that it leads to; until then
-- they may be any, and from then on they stay.
pub record NamesNext {K : Type 0} (reading : Reading) (old : State K) (work : Work)
    (opened moved : Header (List ℕ)) (phase : Phase) : Type 0 where
  pub stay : (IsFirst work.phase → ⊥)
      → (opened ≡ work.zone.opened) × (moved ≡ work.zone.moved)
  pub is : IsHeader reading.reader opened × IsHeader reading.reader moved
  pub leads : IsFirst work.phase → (IsFirst phase → ⊥)
      → Leads reading old (named work opened moved)
  pub keeps : IsFirst work.phase → (IsFirst phase → ⊥) → LeadsOn reading (named work opened moved)

pub record StepsOn {K : Type 0} (reading : Reading) (seals : Seals) (old new : State K) : Type 0
  where
    pub work : Work
    pub was : old.work ≡ Some work
    pub unbroken : old.broken ≡ false
    pub at_hand : IsAtRest work → ⊥
    pub opened : Header (List ℕ)
    pub moved : Header (List ℕ)
    pub phase : Phase
    pub part : Part
    pub names : NamesNext reading old work opened moved phase
    pub step : ZoneStep seals old.map.atom (named work opened moved) old.disk new.disk work.phase
        work.part phase part
    pub goes : Proceeds old new old.map (advanced (named work opened moved) phase part) false

-- the last call of the commit 'zone open': the map is that of the open zone
pub record OpensZone {K : Type 0} (reading : Reading) (old new : State K) : Type 0 where
  pub work : Work
  pub was : old.work ≡ Some work
  pub unbroken : old.broken ≡ false
  pub phase : work.phase ≡ opening second_written
  pub call : SyncCall old.disk new.disk succeeded
  pub goes : Proceeds old new (reading.map_of work.zone.opened.means)
      (advanced work (writing 0) work.part) false

-- the last call of the zone: the map is that of the moved boundary, and no zone is at hand
pub record EndsZone {K : Type 0} (reading : Reading) (old new : State K) : Type 0 where
  pub work : Work
  pub was : old.work ≡ Some work
  pub unbroken : old.broken ≡ false
  pub last : IsLast work.phase
  pub call : SyncCall old.disk new.disk succeeded
  pub goes : Proceeds old new (reading.map_of work.zone.moved.means)
      (resting work.layout work.zone.moved work.progress) false

-- its blocks are left
pub record LeavesBlocks {K : Type 0} (old new : State K) : Type 0 where
  pub layout : Layout
  pub header : Header (List ℕ)
  pub was : old.work ≡ Some (resting layout header converting)
  pub unbroken : old.broken ≡ false
  pub lane : ℕ
  pub last : suc lane ≡ length old.lanes
  pub o : Open
  pub at : open_at old.lanes lane ≡ Some o
  pub new_side : AreOn old.map o New
  pub frees : Frees old new false old.work
  pub rests : new.disk ≡ old.disk

-- ---- the finish: a commit of the last header by a zone without blocks, then areas are wiped
abbrev pub closing : Layout → Header (List ℕ) → Header (List ℕ) → Stage → List Area → Work
closing layout header last stage areas = record {
  layout = layout;
  zone = empty_zone header last;
  phase = moving stage;
  range = no_blocks;
  part = wanted 0;
  progress = wiping areas;
}

-- its first write, of a header that leaves every block where it is, sealed as it is, and converts
-- nothing; the areas of the keyslots that it hasn't any more, in which no block lies, are to be wiped
pub record MayConclude {K : Type 0} (reading : Reading) (old : State K) (layout : Layout)
    (header next : Header (List ℕ)) (areas : List Area) : Type 0 where
  pub was : old.work ≡ Some (resting layout header converting)
  pub unbroken : old.broken ≡ false
  pub converted : AreAllOn old.map New
  pub lane : ℕ
  pub last : suc lane ≡ length old.lanes
  pub free : open_at old.lanes lane ≡ None
  pub succeeds : Succeeds reading.reader header next
  pub turns : Turns old.disk.atoms no_blocks New 0 old.map (reading.map_of next.means)
  pub rests : reading.converts next.means ≡ false
  pub sealing : reading.sealing next.means New ≡ reading.sealing header.means New
  pub dropped : (area : Area) → Contains areas area ↔ (Contains (reading.keyslots header.means) area
      × (Contains (reading.keyslots next.means) area → ⊥))
  pub spare : (area : Area) → Contains areas area → IsSpare old layout area

pub record Concludes {K : Type 0} (reading : Reading) (old new : State K) : Type 0 where
  pub layout : Layout
  pub header : Header (List ℕ)
  pub next : Header (List ℕ)
  pub areas : List Area
  pub may : MayConclude reading old layout header next areas
  pub call : PutsCopy old.map.atom layout next begun old.disk new.disk succeeded
  pub goes : Proceeds old new old.map (closing layout header next first_written areas) false

abbrev pub zeros_of : ℕ → Area → List ℕ
zeros_of atom area = replicate (area.count * atom) 0

pub record Wipes {K : Type 0} (old new : State K) : Type 0 where
  pub layout : Layout
  pub header : Header (List ℕ)
  pub area : Area
  pub areas : List Area
  pub was : old.work ≡ Some (resting layout header (wiping (area ∷ areas)))
  pub unbroken : old.broken ≡ false
  pub call : Puts old.map.atom area.start area.count (zeros_of old.map.atom area) old.disk new.disk
      succeeded
  pub goes : Proceeds old new old.map (resting layout header (wiping areas)) false

pub record IsWiped {K : Type 0} (old new : State K) : Type 0 where
  pub layout : Layout
  pub header : Header (List ℕ)
  pub was : old.work ≡ Some (resting layout header (wiping []))
  pub unbroken : old.broken ≡ false
  pub call : SyncCall old.disk new.disk succeeded
  pub goes : Proceeds old new old.map (resting layout header complete) false

pub record IsDone {K : Type 0} (old new : State K) : Type 0 where
  pub layout : Layout
  pub header : Header (List ℕ)
  pub was : old.work ≡ Some (resting layout header complete)
  pub unbroken : old.broken ≡ false
  pub lane : ℕ
  pub last : suc lane ≡ length old.lanes
  pub free : open_at old.lanes lane ≡ None
  pub same : new ≡ old

-- ---- A zone of which nothing was written but what is saved is given up: its blocks are left as
-- they are, and the volume goes on. The finish may be hindered too.
abbrev pub IsGivable : Phase → Type 0
IsGivable (saving n) = Unit {0}
IsGivable (shifting n) = n ≡ 0
IsGivable _ = ⊥

pub record GivesUp {K : Type 0} (old new : State K) (work : Work) : Type 0 where
  pub was : old.work ≡ Some work
  pub unbroken : old.broken ≡ false
  pub some : work.range.start < work.range.end
  pub phase : IsGivable work.phase
  pub frees : Frees old new false (Some (resting work.layout work.zone.before work.progress))

pub record MissesPart {K : Type 0} (old new : State K) : Type 0 where
  pub work : Work
  pub first : ℕ
  pub part : work.part ≡ wanted first
  pub text : List ℕ
  pub call : ReadCall old.map.atom (work.zone.own.start + first) text old.disk new.disk failed_call
  pub gives_up : GivesUp old new work

-- the first block of a part whose old atom and new one have the same digest, one of the zone's, and
-- that digest
pub record IsFirstClash (seals : Seals) (atom : ℕ) (work : Work) (first : ℕ) (text : List ℕ)
    (block : ℕ) (digest : List ℕ) : Type 0 where
  pub by_digests : work.zone.resilience ≡ checksum
  pub count : ℕ
  pub size : length text ≡ count * atom
  pub k : ℕ
  pub within : k < count
  pub is : block ≡ work.range.start + first + k
  pub inside : block < work.range.end
  pub old : sha256 (block_at atom text k) ≡ digest
  pub new : sha256 (resealed seals block (block_at atom text k)) ≡ digest
  pub lower : (i : ℕ) → i < k → sha256 (block_at atom text i)
      ≢ sha256 (resealed seals (work.range.start + first + i) (block_at atom text i))

abbrev pub Hinders : Seals → ℕ → Work → ℕ → List ℕ → Hindrance → Type 0
Hinders seals atom work first text (clashes block digest) =
    IsFirstClash seals atom work first text block digest
Hinders seals atom work first text _ = Unit {0}

abbrev pub IsNoClash : Hindrance → Type 0
IsNoClash (clashes block digest) = ⊥
IsNoClash _ = Unit {0}

-- What so many headers that are to follow this one lack, each of which takes a number: fewer numbers
-- are left than are needed, the last one being 2^64 - 1; or there are enough, and the text of one has
-- no room. Of memory nothing is told.
abbrev pub Lacks : Reading → Header (List ℕ) → ℕ → Hindrance → Type 0
Lacks reading header count (clashes block digest) = ⊥
Lacks reading header count (no_number left needed) =
    (reading.reader.seq header.means + left ≡ 2 ^ 64 - 1) × (needed ≡ count) × (left < needed)
Lacks reading header count (no_room length limit) =
    (reading.reader.seq header.means + count ≤ 2 ^ 64 - 1) × (limit ≡ reading.room header.means)
    × (limit < length)
Lacks reading header count no_memory = Unit {0}

-- A part of the zone was read, which is guarded as its header says. Two headers are to follow the zone's, and what they lack hinders it
-- before anything of it was saved; or the part has a clash.
pub record IsHindered {K : Type 0} (reading : Reading) (seals : Seals) (old new : State K)
    (cause : Hindrance) : Type 0 where
  pub work : Work
  pub first : ℕ
  pub text : List ℕ
  pub part : work.part ≡ fetched first text
  pub guard : work.zone.resilience ≡ reading.guard work.zone.before.means
  pub hinders : Hinders seals old.map.atom work first text cause
  pub lacks : IsNoClash cause → Lacks reading work.zone.before 2 cause
  pub unsaved : IsNoClash cause → work.phase ≡ saving 0
  pub rests : new.disk ≡ old.disk
  pub gives_up : GivesUp old new work

-- every block is new, and what the last header lacks hinders the finish
pub record IsUnfinished {K : Type 0} (reading : Reading) (old new : State K) (cause : Hindrance)
    : Type 0 where
  pub layout : Layout
  pub header : Header (List ℕ)
  pub was : old.work ≡ Some (resting layout header converting)
  pub unbroken : old.broken ≡ false
  pub converted : AreAllOn old.map New
  pub lane : ℕ
  pub last : suc lane ≡ length old.lanes
  pub free : open_at old.lanes lane ≡ None
  pub lacks : Lacks reading header 1 cause
  pub same : new ≡ old

-- ---- A write or a sync that fails breaks the volume, and so does a read behind the first commit:
-- the zone's blocks are left, and no step of it follows.
pub record Faults {K : Type 0} (seals : Seals) (old new : State K) : Type 0 where
  pub work : Work
  pub was : old.work ≡ Some work
  pub unbroken : old.broken ≡ false
  pub phase : Phase
  pub fails : StepFails seals old.map.atom work old.disk new.disk work.phase work.part phase
  pub frees : Frees old new true (Some (advanced work phase work.part))

pub record MissesConclusion {K : Type 0} (reading : Reading) (old new : State K) : Type 0 where
  pub layout : Layout
  pub header : Header (List ℕ)
  pub next : Header (List ℕ)
  pub areas : List Area
  pub may : MayConclude reading old layout header next areas
  pub call : PutsCopy old.map.atom layout next begun old.disk new.disk failed_call
  pub frees : Frees old new true (Some (closing layout header next first_written areas))

pub record MissesWipe {K : Type 0} (old new : State K) : Type 0 where
  pub layout : Layout
  pub header : Header (List ℕ)
  pub area : Area
  pub areas : List Area
  pub was : old.work ≡ Some (resting layout header (wiping (area ∷ areas)))
  pub unbroken : old.broken ≡ false
  pub call : Puts old.map.atom area.start area.count (zeros_of old.map.atom area) old.disk new.disk
      failed_call
  pub frees : Frees old new true old.work

-- on a broken volume blocks that are held, or waited for, are left
pub record LeavesBroken {K : Type 0} (old new : State K) : Type 0 where
  pub work : Work
  pub was : old.work ≡ Some work
  pub broken : old.broken ≡ true
  pub frees : Frees old new true old.work
  pub rests : new.disk ≡ old.disk

-- What one step does, by what it is answered.
pub data WorkStep {K : Type 0} (reading : Reading) (seals : Seals) (old new : State K) : Worked
    → Type 0 where
  takes : (grant : Grant) → Takes reading old new (held grant)
      → WorkStep reading seals old new stepped
  queues : (lane : ℕ) → Takes reading old new (waits lane)
      → WorkStep reading seals old new (awaits lane)
  stays : (lane : ℕ) → AsksAgain reading old new lane → WorkStep reading seals old new (awaits lane)
  begins : Begins reading old new → WorkStep reading seals old new stepped
  steps : StepsOn reading seals old new → WorkStep reading seals old new stepped
  opens_zone : OpensZone reading old new → WorkStep reading seals old new stepped
  ends_zone : EndsZone reading old new → WorkStep reading seals old new stepped
  leaves_blocks : LeavesBlocks old new → WorkStep reading seals old new stepped
  concludes : Concludes reading old new → WorkStep reading seals old new stepped
  wipes : Wipes old new → WorkStep reading seals old new stepped
  wiped : IsWiped old new → WorkStep reading seals old new stepped
  ends : IsDone old new → WorkStep reading seals old new finished
  misses_part : MissesPart old new → WorkStep reading seals old new faulted
  is_hindered : (cause : Hindrance) → IsHindered reading seals old new cause
      → WorkStep reading seals old new (hindered cause)
  is_unfinished : (cause : Hindrance) → IsUnfinished reading old new cause
      → WorkStep reading seals old new (hindered cause)
  faults : Faults seals old new → WorkStep reading seals old new faulted
  misses_conclusion : MissesConclusion reading old new → WorkStep reading seals old new faulted
  misses_wipe : MissesWipe old new → WorkStep reading seals old new faulted
  leaves_broken : LeavesBroken old new → WorkStep reading seals old new was_broken
