-- Sessions over a volume of which nothing is converted meanwhile: what its clients were put, and what
-- a stop leaves of its disk.
use Rattle.std.specs.Prelude.{ℕ, ◌≡◌, ◌-◌, ◌^◌, ◌<◌, true, if◌then◌else◌, List, ◌∷◌}
use Rattle.std.specs.Prelude.{◌++◌, length, None, Some, IsSomeAnd, option_map, slice_index_or}
use Rattle.base_terms.specs.Causes.{Rose}
use Rattle.bays.specs.Stories.{LinkState}
use Rattle.volume_laws.specs.BesideLanes.Lanes.{deeds_of}
use Rattle.plain_disk.specs.Outcomes.{AreServed}
use Rattle.plain_disk.specs.Plain.{Block, Exchange, Legal}
use Rattle.aes_core.specs.declared.cipher.Aes.{Aes}
use Rattle.sector_cipher.specs.declared.disk.DiskCipher.{DiskCipher}
use Rattle.sector_disk.specs.Devices.{Device as DiskState}
use Rattle.sector_disk.specs.Steps.{Told}
use Rattle.recovery_laws.specs.Served.Clients.{without_work}
use Rattle.shared_volume.specs.Ciphers.{Context}
use Rattle.shared_volume.specs.Histories.{Tells}
use Rattle.shared_volume.specs.Lanes.{Knowing}
use Rattle.volume_machine.specs.Answers.{Tagged, untagged}
use Rattle.volume_machine.specs.Runs.{Happening, last_of}
use Rattle.volume_machine.specs.Seals.{Seals, AreLawful}
use Rattle.volume_machine.specs.States.{State, size_of}
use Rattle.volume_machine.specs.declared.keys.Keys.{Keys}
use Rattle.volume_laws.specs.Executing.{Executes, StopsAlong, TellsRun}
use Rattle.volume_laws.specs.Promises.{DeviceErrorsAreExact, PlacesAreExact, GoesByEvents, Starts}
use Rattle.volume_laws.specs.Promises.{StartsCovered, TellsSettled}
use Rattle.reenc_tool.specs.declared.ended.Cause.TheVariants.{Fine, Memory}
use Rattle.reenc_tool.specs.Outcomes.{Coming}
use Rattle.reenc_tool.specs.Sessions.{HavePlayed, most_events}

-- the keys of a volume: contexts of ciphers over AES
abbrev pub VolumeKeys : Type 0
VolumeKeys = Keys (DiskCipher Aes)

-- A stop after each event leaves only contents that the plain disk of these blocks allows there, in
-- every block, since no zone is at hand; and each table that the disk tells in the end is one after
-- some of the events.
pub record MayStop (start : State VolumeKeys) (seals : Seals) (blocks : List Block)
    (run : List (Happening VolumeKeys)) (exchanges : List Exchange) : Type 0 where
  pub allowed : StopsAlong start seals blocks run exchanges
  pub tables : (now : Told) → (last_of start run).disk.told ≡ Some now → TellsRun start run now

-- After each event of a run an operation has failed, and the volume is broken, exactly where events
-- of theirs failed; sides, keys and places are those of the start, and no zone is at hand.
abbrev pub GoesAlong : State VolumeKeys → List (Happening VolumeKeys) → Type 0
GoesAlong start run = (earlier later : List (Happening VolumeKeys)) → run ≡ earlier ++ later →
    GoesByEvents start earlier

-- each operation that isn't wrong is answered 5 exactly where it has failed, and a read with the
-- place of its piece that has failed
abbrev pub ErrorsAreExact : State VolumeKeys → Seals → List (Happening VolumeKeys) → Type 0
ErrorsAreExact start seals run =
    (earlier later : List (Happening VolumeKeys)) (one : Happening VolumeKeys) →
    run ≡ earlier ++ one ∷ later →
    DeviceErrorsAreExact seals start earlier one × PlacesAreExact seals start earlier one

-- no link's count of faults moved, nor stands at its last value
abbrev pub StoodStill : {L : Type 0} → (L → LinkState) → List L → List L → Type 0
StoodStill {L} state olds news = (k : ℕ) (link : L) → k < length olds →
    ((state (slice_index_or news k link)).faults ≡ (state (slice_index_or olds k link)).faults)
    × ((state (slice_index_or news k link)).faults < 2 ^ 64 - 1)

-- By the pass the whole history of a volume is known, which began as this one, whatever its conversion
-- takes: these events, entry by entry.
pub record KnowsRun (start : State VolumeKeys) (run : List (Happening VolumeKeys))
    (pass : Knowing Context) : Type 0 where
  pub start_is : option_map (λ volume. without_work volume) pass.start ≡ Some start
  pub tells : Tells (length start.lanes) pass.history (deeds_of run)

-- Sessions were served on a volume that began so, over these links, and left its disk so, and nothing was
-- converted. What the clients were put are the answers of one plain disk that was asked their operations
-- in one history. Of a volume whose conversion lies idle the start and what follows it are told without
-- what the conversion takes.
pub record HasServed {L : Type 0} (state : L → LinkState) (start : State VolumeKeys)
    (seals : Seals) (left : DiskState) (begun : List L) (came : Coming L) : Type 0 where
  pub final : State VolumeKeys
  -- the run of events that executed the operations, each of which makes at most one call of the
  -- disk and is an entry of the history that the pass tells; and the disk, which is handed back as
  -- they left it
  pub run : List (Happening VolumeKeys)
  pub told : IsSomeAnd came.pass (KnowsRun start run)
  pub operations : List Tagged
  pub did : Executes seals start final run operations
  pub left_is : left ≡ final.disk
  pub lawful : AreLawful start.map.atom seals
  -- the sessions and links that tell of the operations, and the cause
  pub played : HavePlayed state start final (length run) None begun came operations
  -- one history: legal from the blocks of the plain disk that runs start from
  pub history : (blocks : List Block) (bytes : List ℕ) → Starts start seals blocks bytes →
      (now : List Block) × Legal start.map.atom blocks (untagged operations) now
  -- stops: where each image stood for values of these blocks, as where each atom was certain, the disk
  -- holds what this history allows wherever the run stops
  pub covered : (blocks : List Block) (bytes : List ℕ) → Starts start seals blocks bytes →
      TellsSettled start bytes → StartsCovered start seals blocks
  pub stops : (blocks : List Block) (bytes : List ℕ) → Starts start seals blocks bytes →
      StartsCovered start seals blocks → MayStop start seals blocks run (untagged operations)
  -- when the cause may come that the volume is broken
  pub broke : final.broken ≡ true → Rose start.disk.faults final.disk.faults
  -- error 5, and when an operation has failed and the volume is broken
  pub errors : ErrorsAreExact start seals run
  pub fails : GoesAlong start run
  -- where no count moved, each operation was served, and only want of memory ends it otherwise, or that
  -- the history is full
  pub complete : final.disk.faults ≡ start.disk.faults → final.disk.faults < 2 ^ 64 - 1 →
      StoodStill state begun came.links →
      AreServed start.map.atom (size_of start.map) (untagged operations)
      × (length run < most_events → came.cause ≡ (if came.memory then Memory else Fine))
