-- What is checked and made before anything is written, and the calls that then begin a conversion.
use Rattle.std.specs.Prelude.{ℕ, ◌≡◌, ◌⊎◌, List, Option, Some, Result, IfSome}
use Rattle.base_terms.specs.declared.failed.Failed.{Failed}
use Rattle.base_terms.specs.declared.disk_sizes.Sizes.{Sizes}
use Rattle.luks_init.specs.DiskInit.Makings.{IsMade, IsUnready, draw_of}
use Rattle.luks_init.specs.DiskInit.Slips.{LosesNothing}
use Rattle.luks_init.specs.DiskInit.Tables.{HasBegun, KeepsNext, TellsOn}
use Rattle.luks_init.specs.declared.init_disk.making.MakeFault.TheVariants as makes
use Rattle.luks_init.specs.declared.init_disk.refusal.Refusal.{Refusal}
use Rattle.luks_init.specs.declared.init_disk.refusal.Refusal.TheVariants as refusals
use Rattle.luks_store.specs.declared.header_copies.repair.Repair.{Repair}
use Rattle.luks_init.specs.declared.fault.InitFault.TheVariants.{InProgress}
use Rattle.luks_init.specs.declared.wish.Wish.{Wish}
use Rattle.luks_store.specs.Commits.{FitsDisks}
use Rattle.luks_store.specs.Devices.{front_of}
use Rattle.luks_store.specs.Loads.{stored_in}
use Rattle.luks_store.specs.declared.loaded.Stored.{Stored}
use Rattle.reenc_meta.specs.declared.placement.Placement.{Placement}
use Rattle.reenc_recovery.specs.Calls.{DiskOpeningRun, DiskSyncsAndReads}
use Rattle.reenc_recovery.specs.Causes.{HasCauseIn, IsCauseIn}
use Rattle.reenc_recovery.specs.Keys.{IsKeyOf, used_by}
use Rattle.reenc_recovery.specs.Tables.{IsFoundOn, TellsSince}
use Rattle.reenc_recovery.specs.declared.fault.OpenCause.{OpenCause}
use Rattle.reenc_recovery.specs.declared.fault.OpenCause.TheVariants as causes
use Rattle.sector_disk.specs.Cells.{content}
use Rattle.sector_disk.specs.Devices.{Device, SyncCall, failed_call, succeeded}
use Rattle.sector_disk.specs.Steps.{Told}
use Rattle.luks_store.specs.SlotCommits.Calls.{WritesSlot}
use Rattle.luks_store.specs.declared.slot_commit.writing.SlotCommit.{SlotCommit}
use Rattle.volume_opening.specs.declared.refusal.Refusal.TheVariants as openings

-- ---- before anything is written
-- The header passed all checks: it is the one that the disk holds, where the disk tells what it
-- holds; nothing is being converted by it, the key is that of its segment's digest, and the repair
-- that it asks for lies on the disk.
pub record IsChecked (sizes : Sizes) (key : Option (List ℕ)) (device : Device) (header : Stored)
    (repair : Option Repair) : Type 0 where
  pub placement : Placement
  pub found : IsFoundOn sizes header placement repair device
  pub key_is : IsKeyOf header.valid.meta placement.new
      (used_by placement.new.encryption key)
  pub fits : IfSome repair (FitsDisks sizes)

-- By this header nothing is lost, and the keyslot was made.
pub record IsReady (sizes : Sizes) (key : Option (List ℕ)) (w : Wish) (pass seed : List ℕ)
    (device : Device) (header : Stored) (repair : Option Repair) (slot : SlotCommit) : Type 0 where
  pub checked : IsChecked sizes key device header repair
  pub safe : LosesNothing w header.valid.meta header.valid.sizes device.tail
  pub made : IsMade header w pass seed slot

-- why the volume isn't opened by a header and a key that were read
pub record IsRefusedAs (sizes : Sizes) (key : Option (List ℕ)) (old new : Device)
    (cause : OpenCause) : Type 0 where
  pub cause_is : HasCauseIn old new cause
  pub refused : (first : List ℕ) → old.values ≡ Some first
      → IsCauseIn sizes key (stored_in sizes (front_of sizes first)) cause

-- ---- the calls
-- All checks passed, nothing is lost, and all was made; then came a sync, the reads, the calls of the header's repair,
-- and those by which the keyslot and the next header are written, of which the last one was done or
-- failed. Each image of each table that the disk told, from that of the first sync on, stands for
-- what the disk's bytes stood for before, under the passphrase; and where all was done, what the
-- disk tells now holds, for certain, the next header in both copies, by which a conversion is under
-- way; and so do the bytes that it tells, whether it tells tables or not.
pub record IsBegunOf (sizes : Sizes) (key : Option (List ℕ)) (w : Wish) (pass seed : List ℕ)
    (old new : Device) (result : Result (Unit {0}) Failed) : Type 0 where
  pub header : Stored
  pub repair : Option Repair
  pub slot : SlotCommit
  pub ready : IsReady sizes key w pass seed old header repair slot
  pub between : Device
  pub opening : DiskOpeningRun repair old between succeeded
  pub slot_calls : WritesSlot slot between new result
  pub opened : TellsSince sizes old between
  pub tables : (first : List ℕ) → old.values ≡ Some first
      → TellsOn sizes pass header slot first between new
  pub done : (first : List ℕ) → old.values ≡ Some first → result ≡ succeeded
      → (now : Told) → new.told ≡ Some now
      → HasBegun sizes pass (draw_of w seed).key first (content now.now)
  pub kept : (first : List ℕ) → old.values ≡ Some first → result ≡ succeeded
      → (now : Told) → new.told ≡ Some now → KeepsNext sizes slot ready.made.begun.meta now.now
  pub held : (first : List ℕ) → old.values ≡ Some first → result ≡ succeeded → (now : List ℕ)
      → new.values ≡ Some now → HasBegun sizes pass (draw_of w seed).key first now

-- No volume is opened: the first sync failed.
abbrev pub IsUnsynced : Device → Device → OpenCause → Type 0
IsUnsynced old new cause = SyncCall old new failed_call × (cause ≡ causes.Device)

-- The disk was synced, and then only read.
pub record IsOnlyRead (sizes : Sizes) (old new : Device) : Type 0 where
  pub calls : DiskSyncsAndReads old new
  pub tables : TellsSince sizes old new

-- All checks passed and all was made, and a call of the repair that the header asks for failed.
pub record IsUnrepaired (sizes : Sizes) (key : Option (List ℕ)) (w : Wish) (pass seed : List ℕ)
    (old new : Device) (cause : OpenCause) : Type 0 where
  pub header : Stored
  pub repair : Repair
  pub slot : SlotCommit
  pub ready : IsReady sizes key w pass seed old header (Some repair) slot
  pub calls : DiskOpeningRun (Some repair) old new failed_call
  pub by : cause ≡ causes.Device
  pub tables : TellsSince sizes old new

-- So one of these came, and this is why.
pub record IsUnopenedOf (sizes : Sizes) (key : Option (List ℕ)) (w : Wish) (pass seed : List ℕ)
    (old new : Device) (cause : OpenCause) : Type 0 where
  pub unopened : IsUnsynced old new cause
      ⊎ (IsOnlyRead sizes old new ⊎ IsUnrepaired sizes key w pass seed old new cause)
  pub why : IsRefusedAs sizes key old new cause

-- The disk was synced, and then only read. All checks passed; by that very header something would be
-- lost, or what is to be written can't be made, but never since a conversion is under way.
pub record IsUnreadyOf (sizes : Sizes) (key : Option (List ℕ)) (w : Wish) (pass seed : List ℕ)
    (old new : Device) (refusal : Refusal) : Type 0 where
  pub read : IsOnlyRead sizes old new
  pub header : Stored
  pub repair : Option Repair
  pub checked : IsChecked sizes key old header repair
  pub unready : IsUnready header w pass seed old.tail refusal
  pub idle : refusal ≡ refusals.Unmade (makes.Unready InProgress) → ⊥

-- Why no conversion is begun on a disk of these sizes by a key, and what that leaves.
abbrev pub IsUnbegunOf : Sizes → Option (List ℕ) → Wish → List ℕ → List ℕ → Device → Device
    → Refusal → Type 0
IsUnbegunOf sizes key w pass seed old new (refusals.Unopened (openings.Opening cause)) =
    IsUnopenedOf sizes key w pass seed old new cause
IsUnbegunOf sizes key w pass seed old new (refusals.Unopened refusal) = ⊥
IsUnbegunOf sizes key w pass seed old new refusals.Linear = ⊥
IsUnbegunOf sizes key w pass seed old new refusals.Memory =
    IsUnreadyOf sizes key w pass seed old new refusals.Memory
IsUnbegunOf sizes key w pass seed old new (refusals.Keyslots list) =
    IsUnreadyOf sizes key w pass seed old new (refusals.Keyslots list)
IsUnbegunOf sizes key w pass seed old new (refusals.Tail bytes) =
    IsUnreadyOf sizes key w pass seed old new (refusals.Tail bytes)
IsUnbegunOf sizes key w pass seed old new (refusals.Unmade fault) =
    IsUnreadyOf sizes key w pass seed old new (refusals.Unmade fault)
IsUnbegunOf sizes key w pass seed old new refusals.Writing =
    IsBegunOf sizes key w pass seed old new failed_call
