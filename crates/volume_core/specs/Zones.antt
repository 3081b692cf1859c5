-- A volume that is converted while it is in use: the work of its worker that a zone's state is, and
-- what holds of both between two calls.
use Rattle.std.specs.Prelude.{ℕ, suc, ◌≡◌, ◌<◌, ◌⊎◌, false, List, length, Option, Some}
use Rattle.std.specs.Prelude.{None, Err}
use Rattle.base_terms.specs.declared.disk_sizes.Sizes.{Sizes}
use Rattle.hotzone.specs.Promises.{seals_in}
use Rattle.hotzone.specs.Sites.{count_of}
use Rattle.hotzone.specs.declared.worker.Halt.{Halt}
use Rattle.hotzone.specs.declared.worker.Halt.TheVariants.{GivenUp}
use Rattle.hotzone.specs.declared.worker.NextCall.{NextCall}
use Rattle.hotzone.specs.declared.worker.NextCall.TheVariants.{Begin, Finish, End, Wipe, Rest, Over}
use Rattle.hotzone.specs.declared.worker.Worker.{Worker}
use Rattle.sector_disk.specs.JoinedDisks.Counts.{HasSizes}
use Rattle.luks_store.specs.declared.loaded.Stored.{Stored}
use Rattle.segment_map.specs.declared.Side.TheVariants.{New}
use Rattle.segment_map.specs.declared.map.Map.{Map}
use Rattle.volume_core.specs.declared.answers.Worked.{Worked}
use Rattle.volume_core.specs.declared.answers.Worked.TheVariants as answers
use Rattle.volume_laws.specs.Converting.{IsInOrder}
use Rattle.volume_machine.specs.Courses.{Courses}
use Rattle.volume_machine.specs.States.{State, open_at}
use Rattle.volume_machine.specs.WorkSteps.{Worked as Step, AreOn, awaits, finished, stepped}
use Rattle.volume_machine.specs.WorkSteps.{was_broken}
use Rattle.volume_machine.specs.Works.{Work, converting, resting}
use Rattle.volume_machine.specs.declared.keys.Keys.{Keys}
use Rattle.volume_machine.specs.declared.open.Open.{Open}
use Rattle.hotzone.specs.ZoneEvents.Promises.{IsLater, answer_of}
use Rattle.hotzone.specs.ZoneEvents.Readings.{reading_of}
use Rattle.hotzone.specs.ZoneEvents.Heads.{header_on}
use Rattle.hotzone.specs.ZoneEvents.Works.{layout_for, layout_of, work_of}

-- ---- what is shown
-- the work of a zone, where there is one
abbrev pub work_in : {C : Type 0} → (C → ℕ → List ℕ → List ℕ) → (C → ℕ → List ℕ → List ℕ)
    → Option (Worker C) → Option Work
work_in seal unseal None = None
work_in seal unseal (Some worker) =
    Some (work_of (seals_in seal unseal worker) (layout_of worker) worker)

-- The volume's header is read by these sizes: they are those of its disk, and the header that the
-- commit at hand leads from, or the next one, gives the volume's map.
pub record IsReadBy {K : Type 0} (sizes : Sizes) (state : State K) : Type 0 where
  pub sizes_are : HasSizes sizes state.disk
  pub some : 0 < sizes.header_atoms
  pub courses : Courses (reading_of sizes) state

-- A volume has what its conversion takes: the zone behind this header is the work of its worker, and
-- all else stays.
abbrev pub HasArmed : {K : Type 0} → Stored → State K → State K → Type 0
HasArmed loaded old new =
    new ≡ record old {
      work = Some (resting
          (layout_for loaded.valid.sizes.atom loaded.copies.used.header.hdr_size)
          (header_on loaded) converting);
    }

-- what the worker's call tells
abbrev pub worked_of : Worked → Step
worked_of answers.Stepped = stepped
worked_of (answers.Waiting lane) = awaits lane
worked_of answers.Finished = finished
worked_of (answers.Fault fault) = answer_of (Err fault)
worked_of answers.Broken = was_broken

-- ---- what holds of a volume and its zone
-- While a zone is at hand the last lane holds its blocks. Between two zones it may have those of the
-- next one, or of the one before, which are new; it has none from the finish on, and none of a zone
-- that was given up.
abbrev pub FitsCall : {C : Type 0} → Worker C → Map → Open → NextCall → Type 0
FitsCall worker map o Begin = (o.range ≡ worker.site.blocks) ⊎ AreOn map o New
FitsCall worker map o Finish = AreOn map o New
FitsCall worker map o (End ending) = ⊥
FitsCall worker map o (Wipe done ending) = ⊥
FitsCall worker map o (Rest ending) = ⊥
FitsCall worker map o (Over ending) = ⊥
FitsCall worker map o _ = Unit {0}

abbrev pub FitsZone : {C : Type 0} → Worker C → Map → Open → Option Halt → Type 0
FitsZone worker map o None = FitsCall worker map o worker.next
FitsZone worker map o (Some halt) = ⊥

-- the finished header is made, or stands
abbrev pub IsEnded : NextCall → Type 0
IsEnded (End ending) = Unit {0}
IsEnded (Wipe done ending) = Unit {0}
IsEnded (Rest ending) = Unit {0}
IsEnded (Over ending) = Unit {0}
IsEnded _ = ⊥

-- A zone that leads a volume: a part is where it is expected, no block is left behind the finish, the
-- keys are the volume's, the sizes its disk's, and the volume is in order by its header. A volume
-- that isn't broken has a zone that goes on, or was given up.
pub record IsLed {C : Type 0} (worker : Worker C) (state : State (Keys C)) : Type 0 where
  pub later : IsLater worker.site worker.next
  pub none : IsEnded worker.next → count_of worker.site ≡ 0
  pub keys : worker.keys ≡ state.keys
  pub sizes : HasSizes worker.loaded.valid.sizes state.disk
  pub order : IsInOrder (reading_of worker.loaded.valid.sizes) state
  pub goes_on : state.broken ≡ false → (worker.halted ≡ None) ⊎ (worker.halted ≡ Some GivenUp)
  pub lane : state.broken ≡ false → (lane : ℕ) (o : Open) → suc lane ≡ length state.lanes
      → open_at state.lanes lane ≡ Some o → FitsZone worker state.map o worker.halted
