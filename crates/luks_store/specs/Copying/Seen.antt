-- The device calls of commits and repairs, as they move what the disk shows.
use Rattle.std.specs.Prelude.{ℕ, ◌≡◌, ◌<◌, List, length, Some}
use Rattle.crash_laws.specs.HeaderAreas.Commits.{CommitCall, CommitFails, begun, first_written, first_kept}
use Rattle.crash_laws.specs.HeaderAreas.Commits.{second_written, WritesCopy, TriesCopy}
use Rattle.crash_laws.specs.HeaderAreas.Commits.{Stage as CommitStage}
use Rattle.crash_laws.specs.HeaderAreas.Headers.{Copy, byte_of, text_of, IsLaidOut, Layout}
use Rattle.sector_disk.specs.DiskViews.Views.{view_of_cells, IsSynced, IsThinned}
use Rattle.luks_store.specs.Copying.Meanings.{header_of}
use Rattle.luks_store.specs.Copying.Steps.{CopyCall, RepairCall}
use Rattle.luks_store.specs.declared.header_copies.commit.Stage.{Stage}
use Rattle.luks_store.specs.declared.header_copies.commit.Stage.TheVariants.{Begun, FirstWritten, FirstKept}
use Rattle.luks_store.specs.declared.header_copies.commit.Stage.TheVariants.{SecondWritten, Ended}
use Rattle.luks_store.specs.declared.header_copies.repair.RepairStage.TheVariants.{Broken, Written}
use Rattle.sector_disk.specs.Devices.{Device, succeeded, failed_call}
use Rattle.sector_disk.specs.Steps.{Told}

-- the stage of a commit that is under way, as the laws of headers name it
abbrev pub stage_of : Stage → CommitStage
stage_of Begun = begun
stage_of FirstWritten = first_written
stage_of FirstKept = first_kept
stage_of SecondWritten = second_written
stage_of Ended = begun

-- a disk whose tables have so many atoms, and the copies that lie on it
pub record HasRoomFor (size : ℕ) (one two : List ℕ) (layout : Layout) (disk : Device) : Type 0 where
  pub some : 0 < disk.size
  pub laid : IsLaidOut disk.size disk.atoms size layout
  pub first : length one ≡ size
  pub second : length two ≡ size
  pub even : (told : Told) → disk.told ≡ Some told → length told.now ≡ disk.atoms

-- Where a disk tells its table after a call of a commit it told it before, and the call moved what
-- the disk shows as the laws of headers say; so did one that failed.
abbrev pub CallsAreSeen : Type 0
CallsAreSeen =
    (stage : Stage) (one two : List ℕ) (size : ℕ) (layout : Layout) (old new : Device) (now : Told)
    → HasRoomFor size one two layout old → new.told ≡ Some now
    → (CopyCall stage one two size old new succeeded → (before : Told) × (old.told ≡ Some before)
    × CommitCall old.size layout (header_of one two) (stage_of stage) (view_of_cells before.now)
    (view_of_cells now.now))
    × (CopyCall stage one two size old new failed_call → (before : Told) × (old.told ≡ Some before)
    × CommitFails old.size layout (header_of one two) (stage_of stage) (view_of_cells before.now)
    (view_of_cells now.now))

-- So with the two calls of a repair of one of the copies.
abbrev pub RepairsAreSeen : Type 0
RepairsAreSeen =
    (one two : List ℕ) (bad : Copy) (size : ℕ) (layout : Layout) (old new : Device) (now : Told)
    → HasRoomFor size one two layout old → new.told ≡ Some now
    → (RepairCall Broken (text_of (header_of one two) bad) (byte_of size bad) old new succeeded
    → (before : Told) × (old.told ≡ Some before)
    × WritesCopy old.size layout (header_of one two) bad (view_of_cells before.now)
    (view_of_cells now.now))
    × (RepairCall Broken (text_of (header_of one two) bad) (byte_of size bad) old new failed_call
    → (before : Told) × (old.told ≡ Some before)
    × TriesCopy old.size layout (header_of one two) bad (view_of_cells before.now)
    (view_of_cells now.now))
    × (RepairCall Written (text_of (header_of one two) bad) (byte_of size bad) old new succeeded
    → (before : Told) × (old.told ≡ Some before)
    × IsSynced (view_of_cells before.now) (view_of_cells now.now))
    × (RepairCall Written (text_of (header_of one two) bad) (byte_of size bad) old new failed_call
    → (before : Told) × (old.told ≡ Some before)
    × IsThinned (view_of_cells before.now) (view_of_cells now.now))
