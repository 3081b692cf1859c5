-- Sessions over a volume whose conversion is led on beside them: what its clients were put, what a stop
-- leaves of its disk, and how the conversion's worker ended.
use Rattle.std.specs.Prelude.{ℕ, ◌≡◌, ◌≢◌, ◌⊎◌, ◌-◌, ◌^◌, ◌<◌, ◌≤◌, false, true, List, ◌∷◌}
use Rattle.std.specs.Prelude.{◌++◌, length, map, Some, IsSomeAnd}
use Rattle.base_terms.specs.Causes.{Rose}
use Rattle.bays.specs.Stories.{LinkState}
use Rattle.block_server.specs.Serving.{KnowsDeeds}
use Rattle.volume_laws.specs.BesideConversions.Ends.{IsConvertedBeside, MayConvertBeside}
use Rattle.crash_laws.specs.HeaderAreas.Headers.{Handed, Header, Layout}
use Rattle.base_terms.specs.declared.disk_sizes.Sizes.{Sizes}
use Rattle.volume_laws.specs.BesideLanes.Executing.{ExecutesBeside}
use Rattle.volume_laws.specs.BesideLanes.Lanes.{deeds_of, works_over}
use Rattle.plain_disk.specs.Outcomes.{AreServed}
use Rattle.plain_disk.specs.Plain.{Block, Exchange, Legal}
use Rattle.reenc_tool.specs.Outcomes.{Coming}
use Rattle.reenc_tool.specs.Runs.{HasServed, StoodStill, VolumeKeys}
use Rattle.reenc_tool.specs.Sessions.{HavePlayed, cause_by, most_events}
use Rattle.reenc_tool.specs.declared.ended.Cause.TheVariants.{Fine}
use Rattle.reenc_worker.specs.declared.ends.WorkerEnd.{WorkerEnd}
use Rattle.reenc_worker.specs.declared.ends.WorkerEnd.TheVariants.{Broken, Device, Finished, Spent}
use Rattle.sector_disk.specs.Devices.{Device as DiskState}
use Rattle.sector_disk.specs.Steps.{Told}
use Rattle.volume_laws.specs.BesideServing.Failing.{GoesByDeeds}
use Rattle.volume_laws.specs.BesideServing.Replies.{DeviceErrorsAreExact, PlacesAreExact}
use Rattle.volume_laws.specs.BesideServing.Stops.{StopsAfter}
use Rattle.volume_laws.specs.BesideServing.Tables.{TellsDeeds}
use Rattle.recovery_laws.specs.Served.Clients.{happening_without_work, without_work}
use Rattle.shared_volume.specs.Histories.{IsReadSo}
use Rattle.shared_volume.specs.Serving.{EndsBy, WentOn}
use Rattle.volume_laws.specs.Converting.{StartsCertain, StartsUnder}
use Rattle.volume_laws.specs.Imaging.{AreDated}
use Rattle.volume_machine.specs.Answers.{Tagged, untagged}
use Rattle.volume_machine.specs.Deeds.{Deed, state_after}
use Rattle.volume_machine.specs.Readings.{Reading}
use Rattle.volume_machine.specs.Runs.{Happening}
use Rattle.volume_machine.specs.Seals.{Seals, AreLawful}
use Rattle.volume_machine.specs.States.{State, size_of}
use Rattle.volume_machine.specs.WorkSteps.{WorkStep}
use Rattle.volume_machine.specs.Works.{Progress}
use Rattle.volume_laws.specs.WorkerRuns.Conversions.{IsFaultless}
use Rattle.hotzone.specs.ZoneEvents.Readings.{reading_of}

-- ---- stops
-- Wherever deeds stop that begin behind a header with a certain disk, each image that is taken stands for
-- what the operations answered by then allow, by a header that the commit at hand may have left. The
-- copies' places were handed these texts before.
abbrev pub MayStopBeside : {K : Type 0} → Reading → State K → Seals → List (Deed K)
    → List Exchange → Type 0
MayStopBeside {K} reading start seals deeds exchanges =
    (layout : Layout) (header : Header (List ℕ)) (progress : Progress) (blocks : List Block)
    (bytes : List ℕ) (handed : Handed)
    → StartsUnder reading layout header progress start seals blocks bytes
    → StartsCertain layout header start seals blocks → AreDated reading start handed
    → (earlier later : List (Deed K)) → deeds ≡ earlier ++ later
    → StopsAfter reading start seals blocks handed exchanges earlier

-- ---- the worker
-- the last step of the worker, by which it was answered this end, was one that the machine makes
pub record EndsByStep {K : Type 0} (reading : Reading) (seals : Seals) (start : State K)
    (deeds : List (Deed K)) (end : WorkerEnd) : Type 0 where
  pub by : EndsBy end deeds
  pub step : WorkStep reading seals (state_after start by.deed.earlier) by.deed.one.after by.last

-- What a worker's end says. Its last step was answered so, and all before it went on; only that the
-- history is full comes without a step, and then all went on. One by which a call failed, or the volume
-- was broken, comes only where the count of the disk's faults rose. Once it is `Finished` the volume that
-- is left is converted, whatever clients did beside it and since: every block is new, by a header that
-- converts nothing.
pub record HasEndedBeside {K : Type 0} (reading : Reading) (seals : Seals) (start final : State K)
    (deeds : List (Deed K)) (end : WorkerEnd) : Type 0 where
  pub by : end ≢ Spent → EndsByStep reading seals start deeds end
  pub full : end ≡ Spent → (most_events ≤ length deeds) × WentOn (works_over deeds)
  pub rose : (end ≡ Device) ⊎ (end ≡ Broken) → Rose start.disk.faults final.disk.faults
  pub converted : end ≡ Finished → (layout : Layout) (header : Header (List ℕ))
      → MayConvertBeside reading layout header start
      → IsConvertedBeside reading layout header start final

-- after each of the deeds an operation has failed, and the volume is broken, exactly where one of them
-- brought it
abbrev pub GoesAlongDeeds : {K : Type 0} → State K → List (Deed K) → Type 0
GoesAlongDeeds {K} start deeds = (earlier later : List (Deed K)) → deeds ≡ earlier ++ later
    → GoesByDeeds start earlier

-- each operation that isn't wrong is answered 5 exactly where it has failed, and a read with the place
-- of its piece that has failed
abbrev pub ErrorsAreExactBeside : {K : Type 0} → State K → Seals → List (Deed K) → Type 0
ErrorsAreExactBeside {K} start seals deeds = (earlier later : List (Deed K)) (one : Deed K)
    → deeds ≡ earlier ++ one ∷ later
    → DeviceErrorsAreExact seals start earlier one × PlacesAreExact seals start earlier one

-- ---- sessions
-- Sessions were served on a volume that began so, over these links, while the worker of its conversion
-- led that on, and left its disk so. What the clients were put are the answers of one plain disk that was
-- asked their operations in one history, whatever was converted meanwhile.
pub record HasServedConverting {L : Type 0} (state : L → LinkState) (sizes : Sizes)
    (start : State VolumeKeys) (seals : Seals) (left : DiskState) (begun : List L) (came : Coming L)
    : Type 0 where
  pub final : State VolumeKeys
  -- the deeds, events of clients and steps of the worker, that executed the operations, each of which
  -- makes at most one call of the disk and is an entry of the history that the pass tells; and the
  -- disk, which is handed back as they left it
  pub deeds : List (Deed VolumeKeys)
  pub told : IsSomeAnd came.pass (λ pass. KnowsDeeds start pass deeds)
  pub operations : List Tagged
  pub did : ExecutesBeside (reading_of sizes) seals start final deeds operations
  pub left_is : left ≡ final.disk
  pub lawful : AreLawful start.map.atom seals
  -- how the worker ended
  pub end : WorkerEnd
  pub ended : HasEndedBeside (reading_of sizes) seals start final deeds end
  -- the sessions and links that tell of the operations, and the cause
  pub played : HavePlayed state start final (length deeds) (Some end) begun came operations
  -- one history: legal from the blocks of the plain disk that deeds start from
  pub history : (layout : Layout) (header : Header (List ℕ)) (progress : Progress)
      (blocks : List Block) (bytes : List ℕ)
      → StartsUnder (reading_of sizes) layout header progress start seals blocks bytes
      → (now : List Block) × Legal start.map.atom blocks (untagged operations) now
  -- stops: the disk holds what this history allows wherever the deeds stop; and each table that it tells
  -- in the end is one behind some of them
  pub stops : MayStopBeside (reading_of sizes) start seals deeds (untagged operations)
  pub tables : (now : Told) → final.disk.told ≡ Some now → TellsDeeds start deeds now
  -- when the cause may come that the volume is broken
  pub broke : final.broken ≡ true → Rose start.disk.faults final.disk.faults
  -- error 5, and when an operation has failed and the volume is broken
  pub errors : ErrorsAreExactBeside start seals deeds
  pub fails : GoesAlongDeeds start deeds
  -- where no count moved, each operation was served, no failed call ended the worker, and the cause is
  -- what its end says, or want of memory, or that the history is full
  pub complete : final.disk.faults ≡ start.disk.faults → final.disk.faults < 2 ^ 64 - 1
      → StoodStill state begun came.links
      → AreServed start.map.atom (size_of start.map) (untagged operations) × IsFaultless end
      × (length deeds < most_events
      → came.cause ≡ cause_by (Some end) final.disk.faults false 0 0 came.memory)
  -- all was fine only where the conversion is at its end
  pub fine : came.cause ≡ Fine → (end ≡ Finished) × (final.broken ≡ false)

-- ---- a conversion that lies idle
-- The same run on the volume with what its conversion takes: the same events and outcomes, which as deeds
-- of that volume executed the same operations. The pass tells these deeds, entry by entry.
pub record IsRunOfWhole {L : Type 0} {state : L → LinkState} {seals : Seals} {left : DiskState}
    {begun : List L} {came : Coming L} (sizes : Sizes) (volume : State VolumeKeys)
    (served : HasServed state (without_work volume) seals left begun came) : Type 0 where
  pub run : List (Happening VolumeKeys)
  pub run_is : served.run ≡ map happening_without_work run
  pub final : State VolumeKeys
  pub final_is : served.final ≡ without_work final
  pub did : ExecutesBeside (reading_of sizes) seals volume final (deeds_of run) served.operations
  pub told : IsSomeAnd came.pass (λ pass. KnowsDeeds volume pass (deeds_of run))

-- Sessions were served on a volume while what its conversion takes lay idle: so they were on the volume
-- without that, and by the same run on the whole one, by each sizes by which its header is read.
abbrev pub IsServedAlone : {L : Type 0} → (L → LinkState) → State VolumeKeys → Seals → DiskState
    → List L → Coming L → Type 0
IsServedAlone state volume seals left begun came =
    (served : HasServed state (without_work volume) seals left begun came)
    × ((sizes : Sizes) → IsReadSo sizes volume → IsRunOfWhole sizes volume served)
