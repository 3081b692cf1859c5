-- The device calls that write a new keyslot, and the header that names it.
use Rattle.std.specs.Prelude.{ℕ, ◌≡◌, ◌/◌, ◌⊎◌, List, [], ◌∷◌, length, Result}
use Rattle.base_terms.specs.declared.failed.Failed.{Failed}
use Rattle.sector_disk.specs.JoinedDisks.Counts.{HasSizes}
use Rattle.luks_store.specs.Copying.Held.{primary_of, secondary_of, stage_in}
use Rattle.luks_store.specs.Copying.Steps.{CopyCall}
use Rattle.luks_store.specs.declared.header_copies.commit.Stage.{Stage}
use Rattle.luks_store.specs.declared.header_copies.commit.Stage.TheVariants.{Begun, FirstWritten, FirstKept}
use Rattle.luks_store.specs.declared.header_copies.commit.Stage.TheVariants.{SecondWritten, Ended}
use Rattle.sector_disk.specs.Devices.{Device, SyncCall, WriteCall, failed_call, succeeded}
use Rattle.sector_disk.specs.Geometry.{IsInDisk}
use Rattle.luks_store.specs.declared.slot_commit.writing.SlotCommit.{SlotCommit}

-- both copies of the header, and how many bytes each of them has
abbrev pub primary_in : SlotCommit → List ℕ
primary_in slot = primary_of slot.commit.copies

abbrev pub secondary_in : SlotCommit → List ℕ
secondary_in slot = secondary_of slot.commit.copies

abbrev pub copy_size : SlotCommit → ℕ
copy_size slot = slot.commit.header.hdr_size

-- a write of the keyslot's area, a sync of it, and the calls of a commit
pub data SlotCall : Type 0 where
  writes_area : SlotCall
  syncs_area : SlotCall
  commits : Stage → SlotCall

-- those of a commit from one on: write the primary, sync, write the secondary, sync
abbrev pub calls_from : Stage → List SlotCall
calls_from Begun =
    commits Begun ∷ commits FirstWritten ∷ commits FirstKept ∷ commits SecondWritten ∷ []
calls_from FirstWritten = commits FirstWritten ∷ commits FirstKept ∷ commits SecondWritten ∷ []
calls_from FirstKept = commits FirstKept ∷ commits SecondWritten ∷ []
calls_from SecondWritten = commits SecondWritten ∷ []
calls_from Ended = []

-- they follow one another in this order
abbrev pub slot_calls : List SlotCall
slot_calls = writes_area ∷ syncs_area ∷ calls_from Begun

-- what one of them does
abbrev pub MakesCall : SlotCommit → SlotCall → Device → Device → Result (Unit {0}) Failed → Type 0
MakesCall slot writes_area old new result =
    WriteCall old.size (slot.area_offset / old.size) slot.area old new result
MakesCall slot syncs_area old new result = SyncCall old new result
MakesCall slot (commits stage) old new result =
    CopyCall stage (primary_in slot) (secondary_in slot) (copy_size slot) old new result

-- Calls that are made in a row: each succeeded, or the last one that is made failed.
unfoldable pub MakesCalls : SlotCommit → List SlotCall → Device → Device
    → Result (Unit {0}) Failed → Type 0
MakesCalls slot [] old new result = (new ≡ old) × (result ≡ succeeded)
MakesCalls slot (call ∷ calls) old new result =
    (MakesCall slot call old new failed_call × (result ≡ failed_call))
    ⊎ ((between : Device) × MakesCall slot call old between succeeded
    × MakesCalls slot calls between new result)

abbrev pub WritesSlot : SlotCommit → Device → Device → Result (Unit {0}) Failed → Type 0
WritesSlot slot old new result = MakesCalls slot slot_calls old new result

-- none of it is written yet, and all of it lies on the disk
pub record FitsSlot (slot : SlotCommit) (device : Device) : Type 0 where
  pub begun : stage_in slot.commit.copies ≡ Begun
  pub sizes : HasSizes slot.commit.sizes device
  pub area : IsInDisk device.size device.atoms (slot.area_offset / device.size) (length slot.area)
