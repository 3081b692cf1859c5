-- What is promised of the steps of a zone: each is a step of the volume's worker.
use Rattle.std.specs.Prelude.{ℕ, suc, ◌≡◌, ◌<◌, ◌≤◌, Bool, true, false, List, length, Option, Some, None}
use Rattle.std.specs.Prelude.{Result, Ok, Err}
use Rattle.cipher_laws.specs.Bytes.{AreBytes}
use Rattle.crash_laws.specs.HeaderAreas.Headers.{Layout}
use Rattle.hotzone.specs.Promises.{seals_in}
use Rattle.hotzone.specs.Sites.{part_at}
use Rattle.hotzone.specs.Steps.{Goes, Steps}
use Rattle.hotzone.specs.Workers.{IsWorking}
use Rattle.hotzone.specs.declared.site.Site.{Site}
use Rattle.hotzone.specs.declared.worker.Halt.{Halt}
use Rattle.hotzone.specs.declared.worker.Halt.TheVariants.{GivenUp, Failed, InCommit}
use Rattle.hotzone.specs.declared.worker.NextCall.{NextCall}
use Rattle.hotzone.specs.declared.worker.NextCall.TheVariants.{Begin, Read, Save, Finish}
use Rattle.hotzone.specs.declared.worker.Stepped.{Stepped}
use Rattle.hotzone.specs.declared.worker.Stepped.TheVariants.{ZoneDone}
use Rattle.hotzone.specs.declared.worker.Worker.{Worker}
use Rattle.hotzone.specs.declared.worker.ZoneFault.{ZoneFault}
use Rattle.hotzone.specs.declared.worker.ZoneFault.TheVariants as faults
use Rattle.sector_disk.specs.JoinedDisks.Counts.{HasSizes}
use Rattle.luks_rules.specs.States.{IsSound as IsRuled}
use Rattle.luks_store.specs.Loads.{IsStored}
use Rattle.sector_disk.specs.Devices.{Device}
use Rattle.segment_map.specs.declared.Side.TheVariants.{New}
use Rattle.volume_machine.specs.Courses.{Courses}
use Rattle.volume_machine.specs.Pieces.{side_in}
use Rattle.volume_machine.specs.Seals.{Seals}
use Rattle.volume_machine.specs.States.{State, open_at}
use Rattle.volume_machine.specs.WorkSteps.{Frees, Proceeds, Worked, WorkStep, stepped, hindered}
use Rattle.volume_machine.specs.WorkSteps.{clashes, faulted, no_memory, no_number, no_room}
use Rattle.volume_machine.specs.Working.{HoldsZone}
use Rattle.volume_machine.specs.Works.{Work, wanted}
use Rattle.volume_machine.specs.declared.keys.Keys.{Keys}
use Rattle.hotzone.specs.ZoneEvents.Readings.{reading_of}
use Rattle.hotzone.specs.ZoneEvents.Works.{layout_of, map_in, unnamed, work_of}

-- ---- between two steps
-- a part that is read, or saved, behind the first one is one of several
abbrev pub IsLater : Site → NextCall → Type 0
IsLater site (Read done headers) = part_at site 0 ≤ done
IsLater site (Save done headers) = part_at site 0 ≤ done
IsLater site _ = Unit {0}

-- the last lane has no operation under way
pub record IsLaneFree {K : Type 0} (state : State K) : Type 0 where
  pub lane : ℕ
  pub last : suc lane ≡ length state.lanes
  pub free : open_at state.lanes lane ≡ None

-- A worker that goes on, and the state of the volume whose work its zone is.
pub record IsOf {C : Type 0} (sector : C → ℕ) (seals : Seals) (layout : Layout) (worker : Worker C)
    (state : State (Keys C)) : Type 0 where
  pub working : IsWorking sector worker
  pub later : IsLater worker.site worker.next
  pub runs : worker.halted ≡ None
  pub bytes : AreBytes worker.buffer
  pub stored : IsStored worker.loaded
  pub salts : (length worker.loaded.copies.primary.salt ≡ 64)
      × (length worker.loaded.copies.secondary.salt ≡ 64)
  pub ruled : IsRuled worker.loaded.valid.meta worker.loaded.valid.sizes
  pub sizes : HasSizes worker.loaded.valid.sizes state.disk
  pub work : state.work ≡ Some (work_of seals layout worker)
  pub keys : worker.keys ≡ state.keys
  pub unbroken : state.broken ≡ false
  pub courses : Courses (reading_of worker.loaded.valid.sizes) state
  -- a zone begins once its blocks are held, the finish once none are
  pub held : worker.next ≡ Begin → HoldsZone state (unnamed layout worker (wanted 0))
  pub free : worker.next ≡ Finish → IsLaneFree state

-- ---- what becomes of the state
-- what the worker is answered
abbrev pub answer_of : Result Stepped ZoneFault → Worked
answer_of (Ok step) = stepped
answer_of (Err faults.Device) = faulted
answer_of (Err (faults.DigestClash block digest)) = hindered (clashes block digest)
answer_of (Err (faults.SeqEnd left needed)) = hindered (no_number left needed)
answer_of (Err (faults.JsonFull len limit)) = hindered (no_room len limit)
answer_of (Err faults.Memory) = hindered no_memory

-- how a conversion is halted breaks the volume, or not
abbrev pub breaks : Option Halt → Bool
breaks (Some Failed) = true
breaks (Some (InCommit stage)) = true
breaks _ = false

-- a step that failed leaves the zone's blocks; a finish that isn't made changes nothing
abbrev pub Leaves : {K : Type 0} → State K → State K → Work → NextCall → Option Halt → Type 0
Leaves old new work Finish (Some GivenUp) = new ≡ old
Leaves old new work next halted = Frees old new (breaks halted) (Some work)

abbrev pub Becomes : {C : Type 0} → Seals → Layout → Worker C → State (Keys C) → State (Keys C)
    → Result Stepped ZoneFault → Type 0
Becomes seals layout after old new (Ok step) =
    Proceeds old new (map_in seals layout after) (work_of seals layout after) false
Becomes seals layout after old new (Err fault) =
    Leaves old new (work_of seals layout after) after.next after.halted

-- ---- the laws
abbrev pub StepsAreWorks : {C : Type 0} → (C → ℕ) → (C → ℕ → List ℕ → List ℕ)
    → (C → ℕ → List ℕ → List ℕ) → Type 0
StepsAreWorks {C} sector seal unseal =
    (layout : Layout) (before after : Worker C) (old new : State (Keys C))
    (result : Result Stepped ZoneFault)
    → IsOf sector (seals_in seal unseal before) layout before old
    → Steps (seals_in seal unseal before) old.disk new.disk before after result
    → Becomes (seals_in seal unseal before) layout after old new result
    → WorkStep (reading_of before.loaded.valid.sizes) (seals_in seal unseal before) old new
    (answer_of result)

-- a part behind the first one is one of several behind each step too
abbrev pub StepsKeepParts : {C : Type 0} → (C → ℕ) → (C → ℕ → List ℕ → List ℕ)
    → (C → ℕ → List ℕ → List ℕ) → Type 0
StepsKeepParts {C} sector seal unseal =
    (before after : Worker C) (old new : Device) (step : Stepped) → IsWorking sector before
    → IsLater before.site before.next
    → Goes (seals_in seal unseal before) old new before after step
    → IsLater after.site after.next

-- A step leaves the sizes, the seals and where the header's copies lie.
pub record IsSameGround {C : Type 0} (seal unseal : C → ℕ → List ℕ → List ℕ)
    (before after : Worker C) : Type 0 where
  pub sizes : after.loaded.valid.sizes ≡ before.loaded.valid.sizes
  pub keys : after.keys ≡ before.keys
  pub seals : seals_in seal unseal after ≡ seals_in seal unseal before
  pub layout : layout_of after ≡ layout_of before

abbrev pub StepsKeepGround : {C : Type 0} → (C → ℕ) → (C → ℕ → List ℕ → List ℕ)
    → (C → ℕ → List ℕ → List ℕ) → Type 0
StepsKeepGround {C} sector seal unseal =
    (before after : Worker C) (old new : Device) (result : Result Stepped ZoneFault)
    → IsWorking sector before
    → Steps (seals_in seal unseal before) old new before after result
    → IsSameGround seal unseal before after

-- The last step of a zone leaves its blocks new.
abbrev pub StepsLeaveNew : {C : Type 0} → (C → ℕ) → (C → ℕ → List ℕ → List ℕ)
    → (C → ℕ → List ℕ → List ℕ) → Type 0
StepsLeaveNew {C} sector seal unseal =
    (layout : Layout) (before after : Worker C) (old new : Device) (b : ℕ)
    → IsWorking sector before → IsStored before.loaded
    → IsRuled before.loaded.valid.meta before.loaded.valid.sizes → before.halted ≡ None
    → Goes (seals_in seal unseal before) old new before after ZoneDone
    → before.site.blocks.start ≤ b → b < before.site.blocks.end
    → side_in (map_in (seals_in seal unseal before) layout after) b ≡ New
