-- What `serve` did on a plain disk.
use Rattle.std.specs.Prelude.{ℕ, ◌≡◌, ◌⊎◌, ◌<◌, List, length, Some, None}
use Rattle.bays.specs.Stories.{LinkState}
use Rattle.command_line.specs.Commands.{Serving}
use Rattle.plain_disk.specs.Plain.{Block, Exchange, Legal, newest_bytes}
use Rattle.sector_disk.specs.Cells.{AreSettled}
use Rattle.sector_disk.specs.Devices.{Device as DiskState}
use Rattle.sector_disk.specs.Steps.{Told}
use Rattle.volume_laws.specs.Contents.{plain_blocks}
use Rattle.volume_laws.specs.Promises.{Starts, TellsSettled}
use Rattle.volume_machine.specs.Answers.{untagged}
use Rattle.volume_machine.specs.Beginnings.{ChangeNothing, IsFresh, IsWholeDisk}
use Rattle.volume_machine.specs.Seals.{Seals}
use Rattle.volume_machine.specs.Sound.{IsSound, AreApart}
use Rattle.volume_machine.specs.States.{State}
use Rattle.reenc_tool.specs.declared.ended.Cause.TheVariants.{Fine, Memory, NoFit}
use Rattle.reenc_tool.specs.declared.ended.Fit.TheVariants.{Blocks}
use Rattle.reenc_tool.specs.Asking.{BayView, IsLinked}
use Rattle.reenc_tool.specs.Outcomes.{Coming, Outcome, ended_by, ended_with, unserved}
use Rattle.reenc_tool.specs.Runs.{HasServed, VolumeKeys}
use Rattle.reenc_tool.specs.Sessions.{most_events}

-- the volume of a disk, as it is, before any operation
pub record IsPlainVolume (device : DiskState) (seals : Seals) (start : State VolumeKeys) : Type
    0 where
  pub fresh : IsFresh start
  pub sound : IsSound start
  pub size : start.map.atom ≡ device.size
  pub disk : start.disk ≡ device
  -- its blocks are the disk's atoms, each at a place of its own, and no key changes their bytes
  pub whole : IsWholeDisk start.map.atom start.disk.atoms start.map
  pub apart : AreApart start.map
  pub nothing : ChangeNothing seals

-- The operations are legal on the plain disk of these blocks, and what a disk tells are the newest
-- values that they leave, one after the other.
pub record TellsNewest (atom : ℕ) (blocks : List Block) (exchanges : List Exchange)
    (disk : DiskState) : Type 0 where
  pub left : List Block
  pub legal : Legal atom blocks exchanges left
  pub told : disk.values ≡ Some (newest_bytes left)

-- Sessions were served on a disk that was handed in, over these links, and it is handed back. Runs
-- start from the plain disk that the disk told then; where it told each atom for certain, they
-- start so. Where all was fine, and the history isn't full, the disk tells the newest values that
-- clients gave: those that the operations of its sessions leave.
pub record Ran {D L : Type 0} (device : D → DiskState) (state : L → LinkState) (disk : D)
    (begun : List L) (outcome : Outcome D L) : Type 0 where
  pub start : State VolumeKeys
  pub seals : Seals
  pub volume : IsPlainVolume (device disk) seals start
  pub back : D
  pub came : Coming L
  pub served : HasServed state start seals (device back) begun came
  pub back_is : outcome ≡ ended_by came (Some back) None
  pub size : (device back).size ≡ (device disk).size
  pub starts : (bytes : List ℕ) → start.disk.values ≡ Some bytes →
      Starts start seals (plain_blocks start bytes) bytes
  pub certain : (bytes : List ℕ) (before : Told) → start.disk.values ≡ Some bytes →
      start.disk.told ≡ Some before → AreSettled before.now → TellsSettled start bytes
  pub at_rest : (bytes : List ℕ) → start.disk.values ≡ Some bytes → came.cause ≡ Fine
      → length served.run < most_events
      → TellsNewest start.map.atom (plain_blocks start bytes) (untagged served.operations)
      (device back)

-- Memory was wanted before the first session, once the volume was made: a disk is handed back that shows
-- what it showed.
pub record IsUnserved {D L : Type 0} (device : D → DiskState) (disk : D) (begun : List L)
    (outcome : Outcome D L) : Type 0 where
  pub back : D
  pub shows : device back ≡ device disk
  pub outcome_is : outcome ≡ unserved Memory (Some back) begun

-- The disk has no block, which comes before the links are asked for: nothing more was asked.
pub record HasNoBlock {B D L : Type 0} (device : D → DiskState) (disk : D) (between new : B)
    (outcome : Outcome D L) : Type 0 where
  pub none : (device disk).atoms ≡ 0
  pub stands : new ≡ between
  pub outcome_is : outcome ≡ ended_with (NoFit Blocks 0 1) (Some disk) None

-- the disk has a block, and links were asked for
pub record HasBlock {B D L : Type 0} (bay : BayView B D L) (serve : Serving) (disk : D)
    (between new : B) (outcome : Outcome D L) : Type 0 where
  pub blocks : 0 < (bay.device disk).atoms
  pub linked : IsLinked bay serve between new
      (λ cause links. outcome ≡ unserved cause (Some disk) links)
      (λ begun. Ran bay.device bay.state disk begun outcome
      ⊎ IsUnserved bay.device disk begun outcome)

-- what came of the disk that a bay gave
abbrev pub ServesPlain : {B D L : Type 0} → BayView B D L → Serving → D → B → B → Outcome D L
    → Type 0
ServesPlain bay serve disk between new outcome =
    HasNoBlock bay.device disk between new outcome
    ⊎ HasBlock bay serve disk between new outcome
