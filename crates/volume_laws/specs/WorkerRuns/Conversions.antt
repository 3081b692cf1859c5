-- A conversion that is led to its end: how it begins, and what its ends leave.
use Rattle.std.specs.Prelude.{ℕ, ◌≡◌, ◌≢◌, ◌+◌, ◌*◌, ◌++◌, ◌<◌, ◌↔◌, ◌⊎◌, false, true, List, length}
use Rattle.std.specs.Prelude.{All, Contains, Some, replicate}
use Rattle.base_terms.specs.Causes.{Rose}
use Rattle.crash_laws.specs.HeaderAreas.Areas.{Area}
use Rattle.crash_laws.specs.HeaderAreas.Headers.{Header, IsHeader, Layout}
use Rattle.sector_disk.specs.DiskViews.Parts.{block_at, cell_in}
use Rattle.crash_laws.specs.HotZones.Zones.{checksum}
use Rattle.reenc_worker.specs.Answers.{AreAnswers}
use Rattle.reenc_worker.specs.declared.ends.NoFit.{NoFit as Unfit}
use Rattle.reenc_worker.specs.declared.ends.NoFit.TheVariants.{JsonFull, SeqEnd}
use Rattle.reenc_worker.specs.declared.ends.WorkAnswer.{WorkAnswer}
use Rattle.reenc_worker.specs.declared.ends.WorkAnswer.TheVariants.{Waiting}
use Rattle.reenc_worker.specs.declared.ends.WorkerEnd.{WorkerEnd}
use Rattle.reenc_worker.specs.declared.ends.WorkerEnd.TheVariants.{Broken, Clash, Device, Finished}
use Rattle.reenc_worker.specs.declared.ends.WorkerEnd.TheVariants.{Memory, NoFit, Spent}
use Rattle.sector_disk.specs.Devices.{Device as Disk}
use Rattle.sector_disk.specs.Steps.{Told}
use Rattle.segment_map.specs.declared.Side.TheVariants.{New, Old}
use Rattle.sha2.specs.Sha256.{sha256}
use Rattle.volume_laws.specs.Converting.{IsInOrder}
use Rattle.volume_machine.specs.Deeds.{Deed, state_after}
use Rattle.volume_machine.specs.Pieces.{side_in}
use Rattle.volume_machine.specs.Readings.{Reading}
use Rattle.volume_machine.specs.Seals.{Seals}
use Rattle.volume_machine.specs.States.{IsIdle, State}
use Rattle.volume_machine.specs.WorkCalls.{resealed}
use Rattle.volume_machine.specs.WorkSteps.{AreAllOn, Hindrance, Lacks, no_number, no_room}
use Rattle.volume_machine.specs.Works.{complete, converting, resting, wiping}
use Rattle.volume_laws.specs.WorkerRuns.Steps.{HasWorked}

-- ---- before: no operation is under way and no zone is at hand, and by this header the volume is
-- being converted
pub record MayConvert {K : Type 0} (reading : Reading) (layout : Layout)
    (header : Header (List ℕ)) (state : State K) : Type 0 where
  pub order : IsInOrder reading state
  pub idle : IsIdle state
  pub at_rest : state.work ≡ Some (resting layout header converting)

-- ---- the end
-- by place, an atom of the area holds zeros
abbrev pub IsZeroed : ℕ → List ℕ → Area → Type 0
IsZeroed atom bytes area =
    (k : ℕ) → k < area.count → block_at atom bytes (area.start + k) ≡ replicate atom 0

-- where a disk tells its tables, what each atom holds is certain to be kept
abbrev pub IsCertain : Disk → Type 0
IsCertain disk = (told : Told) → disk.told ≡ Some told → (place : ℕ) (value : List ℕ)
    → Contains (cell_in told.now place).candidates value
    → value ≡ (cell_in told.now place).current

-- from one state on, whose disk told all its bytes, to another one these areas were wiped
abbrev pub WipesAll : {K : Type 0} → State K → State K → List Area → Type 0
WipesAll old new areas = (bytes : List ℕ) → old.disk.values ≡ Some bytes
    → length bytes ≡ old.disk.atoms * old.map.atom
    → (now : List ℕ) × (new.disk.values ≡ Some now)
    × ((area : Area) → Contains areas area → IsZeroed old.map.atom now area)

-- Behind some of the deeds no zone was left and the last header stood; from there on the areas of all
-- keyslots were wiped that the first header has and the last one hasn't.
pub record HasWiped {K : Type 0} (reading : Reading) (layout : Layout)
    (first last : Header (List ℕ)) (old : State K) (deeds : List (Deed K)) (new : State K) : Type 0
  where
    pub earlier : List (Deed K)
    pub later : List (Deed K)
    pub parts : deeds ≡ earlier ++ later
    pub areas : List Area
    pub stood : (state_after old earlier).work ≡ Some (resting layout last (wiping areas))
    pub dropped : (area : Area) → Contains areas area
        ↔ (Contains (reading.keyslots first.means) area
        × (Contains (reading.keyslots last.means) area → ⊥))
    pub wipes : WipesAll (state_after old earlier) new areas

-- Every block is new, and by the header, whose copies lie where they did, nothing is converted. It
-- says of the new side how that is sealed as the first header did. The keyslots that went were wiped,
-- and all is certain to be kept.
pub record IsConverted {K : Type 0} (reading : Reading) (layout : Layout)
    (first : Header (List ℕ)) (old : State K) (deeds : List (Deed K)) (new : State K) : Type 0 where
  pub header : Header (List ℕ)
  pub is : IsHeader reading.reader header
  pub at_end : new.work ≡ Some (resting layout header complete)
  pub unbroken : new.broken ≡ false
  pub idle : IsIdle new
  pub map : new.map ≡ reading.map_of header.means
  pub blocks : new.map.blocks ≡ old.map.blocks
  pub converted : AreAllOn new.map New
  pub rests : reading.converts header.means ≡ false
  pub sealing : reading.sealing header.means New ≡ reading.sealing first.means New
  pub wiped : HasWiped reading layout first header old deeds new
  pub certain : IsCertain new.disk

-- the volume is in use as far as it was converted, and may be converted further
pub record StaysInUse {K : Type 0} (reading : Reading) (layout : Layout) (old new : State K) : Type
    0 where
  pub header : Header (List ℕ)
  pub may : MayConvert reading layout header new
  pub unbroken : new.broken ≡ false
  pub blocks : new.map.blocks ≡ old.map.blocks

-- a call failed, and the volume is broken, or the zone at hand was given up
pub record HasFailed {K : Type 0} (reading : Reading) (layout : Layout) (old new : State K) : Type
    0 where
  pub rose : Rose old.disk.faults new.disk.faults
  pub left : (new.broken ≡ true) ⊎ StaysInUse reading layout old new

-- the volume was broken, and nothing was done
pub record WasBroken {K : Type 0} (old new : State K) : Type 0 where
  pub was : old.broken ≡ true
  pub broken : new.broken ≡ true
  pub rests : new.disk ≡ old.disk
  pub map : new.map ≡ old.map

-- Zones are guarded by checksum, and of a block that isn't converted an old atom and the new one have
-- this digest both.
pub record IsClash {K : Type 0} (reading : Reading) (seals : Seals) (header : Header (List ℕ))
    (state : State K) (block : ℕ) (digest : List ℕ) : Type 0 where
  pub guard : reading.guard header.means ≡ checksum
  pub within : block < state.map.blocks
  pub side : side_in state.map block ≡ Old
  pub value : List ℕ
  pub size : length value ≡ state.map.atom
  pub old : sha256 value ≡ digest
  pub new : sha256 (resealed seals block value) ≡ digest

-- What hinders it: of a zone, which leads to two headers, or, where every block is new, of the end,
-- which leads to one.
abbrev pub hindrance_by : Unfit → Hindrance
hindrance_by (SeqEnd left wanted) = no_number left wanted
hindrance_by (JsonFull length limit) = no_room length limit

abbrev pub DoesNotFit : {K : Type 0} → Reading → Header (List ℕ) → State K → Unfit → Type 0
DoesNotFit reading header state what =
    Lacks reading header 2 (hindrance_by what)
    ⊎ (AreAllOn state.map New × Lacks reading header 1 (hindrance_by what))

-- what an end leaves
abbrev pub EndsSo : {K : Type 0} → Reading → Seals → Layout → Header (List ℕ) → State K
    → List (Deed K) → State K → WorkerEnd → Type 0
EndsSo reading seals layout header old deeds new Finished = IsConverted reading layout header old deeds new
EndsSo reading seals layout header old deeds new Device = HasFailed reading layout old new
EndsSo reading seals layout header old deeds new (Clash block digest) =
    (stays : StaysInUse reading layout old new)
    × IsClash reading seals stays.header new block digest
EndsSo reading seals layout header old deeds new (NoFit what) =
    (stays : StaysInUse reading layout old new) × DoesNotFit reading stays.header new what
EndsSo reading seals layout header old deeds new Broken = WasBroken old new
EndsSo reading seals layout header old deeds new Spent = Unit {0}
EndsSo reading seals layout header old deeds new Memory = StaysInUse reading layout old new

-- The worker's steps alone lead from the old state to the new one; all but the last one went on, and
-- the last one was answered by the end, which leaves what it says, with no operation under way. None
-- had to wait.
pub record HasConverted {K : Type 0} (reading : Reading) (seals : Seals) (layout : Layout)
    (header : Header (List ℕ)) (old new : State K) (end : WorkerEnd) : Type 0 where
  pub answers : List WorkAnswer
  pub worked : HasWorked reading seals old new answers
  pub ends : AreAnswers end answers
  pub unwaiting : All (λ answer. answer ≢ Waiting) answers
  pub leaves : EndsSo reading seals layout header old worked.deeds new end
  pub idle : end ≢ Spent → IsIdle new
  pub keys : new.keys ≡ old.keys

-- an end that no failed call brings
abbrev pub IsFaultless : WorkerEnd → Type 0
IsFaultless Device = ⊥
IsFaultless Broken = ⊥
IsFaultless _ = Unit {0}
