-- What a volume is that was opened, and what an opening leaves that made none.
use Rattle.std.specs.Prelude.{◌≡◌, ◌⊎◌, ℕ, false, List, Option, Some, Ok}
use Rattle.base_terms.specs.declared.disk_sizes.Sizes.{Sizes}
use Rattle.sector_disk.specs.JoinedDisks.Joined.{Joint, joined_disk}
use Rattle.luks_store.specs.declared.header_copies.repair.Repair.{Repair}
use Rattle.luks_meta.specs.declared.meta.Parts.{Parts}
use Rattle.luks_rules.specs.Segments.{in_progress}
use Rattle.luks_store.specs.Commits.{AreGood}
use Rattle.luks_store.specs.Devices.{front_of}
use Rattle.luks_store.specs.Loads.{stored_in}
use Rattle.luks_store.specs.declared.loaded.Stored.{Stored}
use Rattle.reenc_meta.specs.Placements.{IsPlacementOf}
use Rattle.reenc_meta.specs.declared.placement.Placement.{Placement}
use Rattle.reenc_recovery.specs.Calls.{IsRepairFor, OpeningRun, SyncsAndReads}
use Rattle.reenc_recovery.specs.Images.{StandsAs}
use Rattle.reenc_recovery.specs.Keys.{IsKeyOf, key_for, used_by}
use Rattle.reenc_recovery.specs.Openings.{IsOpened, IsOpening, StartsAsImage}
use Rattle.reenc_recovery.specs.Tables.{TellsSince}
use Rattle.reenc_recovery.specs.declared.fault.OpenCause.{OpenCause}
use Rattle.reenc_recovery.specs.declared.fault.OpenCause.TheVariants as causes
use Rattle.sector_disk.specs.Devices.{Device, SyncCall, failed_call, succeeded}
use Rattle.volume_laws.specs.Promises.{TellsSettled}
use Rattle.volume_machine.specs.States.{State}
use Rattle.volume_machine.specs.declared.keys.Keys.{Keys}

-- ---- a volume that was opened
-- Its disks held this header when the opening began. It is one that is opened of what they hold
-- now, for certain, in which both copies of the header are good; this holds the same metadata and
-- stands for what they stood for then; and runs start from it as from the plain disk of this
-- content.
pub record IsVolumeOf {C : Type 0} (sector : C → ℕ) (sealed opened : C → ℕ → List ℕ → List ℕ)
    (sizes : Sizes) (key : Option (List ℕ)) (header : Stored) (first : List ℕ)
    (volume : State (Keys C)) : Type 0 where
  pub now : List ℕ
  pub values : volume.disk.values ≡ Some now
  pub still : IsOpened sector sealed opened sizes key now volume
  pub good : AreGood still.stored.copies
  pub settled : TellsSettled volume now
  pub stands : StandsAs sizes header first now
  pub starts : StartsAsImage sealed opened sizes key now volume

-- where metadata place a volume, a key that was handed in is the one that an image's keyslots give
-- to a passphrase for the segment of each side
abbrev pub AreUnlocked : Sizes → Parts → List ℕ → List ℕ → Option (List ℕ) → Type 0
AreUnlocked sizes m image pass key =
    (p : Placement) → IsPlacementOf m sizes p
    → (key_for m image pass p.old ≡ Some (used_by p.old.encryption key))
    × (key_for m image pass p.new ≡ Some (used_by p.new.encryption key))

-- A volume was opened of disks, under this key: it lies where their header says, and its keys are
-- the ciphers of its segments under this key, which is that of their digest. The disks were synced,
-- their header was read, and the copy that lacked or was older was written anew, and synced.
pub record IsOpenedOf {C : Type 0} (sector : C → ℕ) (sealed opened : C → ℕ → List ℕ → List ℕ)
    (sizes : Sizes) (key : Option (List ℕ)) (old : Joint) (volume : State (Keys C)) : Type 0 where
  pub header : Stored
  pub placement : Placement
  pub opening : IsOpening sector sealed opened header.valid.meta sizes key placement volume.keys
  pub map : volume.map ≡ placement.map
  pub repair : Option Repair
  pub asked : IsRepairFor header.copies repair
  pub calls : OpeningRun repair old volume.disk succeeded
  pub held : (first : List ℕ) → (joined_disk old).values ≡ Some first
      → IsVolumeOf sector sealed opened sizes key header first volume

-- ---- an opening that made none
-- The disks weren't called: memory for the lanes was wanted.
abbrev pub IsUncalled : Joint → Joint → OpenCause → Type 0
IsUncalled old new cause = (new ≡ old) × (cause ≡ causes.Memory)

-- The first sync failed.
abbrev pub IsUnsynced : Joint → Joint → OpenCause → Type 0
IsUnsynced old new cause =
    SyncCall (joined_disk old) (joined_disk new) failed_call × (cause ≡ causes.Device)

-- The disks were synced, and then only read.
pub record IsOnlyRead (sizes : Sizes) (old new : Joint) : Type 0 where
  pub calls : SyncsAndReads old new
  pub tables : TellsSince sizes (joined_disk old) (joined_disk new)

-- All checks passed, and a call of the repair that the header asks for failed: nothing is being
-- converted by the header, which places the volume, and the key is that of its segment's digest.
pub record IsUnrepaired (sizes : Sizes) (key : Option (List ℕ)) (old : Joint) (new : Device)
    (cause : OpenCause) : Type 0 where
  pub header : Stored
  pub held : (first : List ℕ) → (joined_disk old).values ≡ Some first
      → stored_in sizes (front_of sizes first) ≡ Ok header
  pub idle : in_progress header.valid.meta.config ≡ false
  pub placement : Placement
  pub placed : IsPlacementOf header.valid.meta sizes placement
  pub key_is : IsKeyOf header.valid.meta placement.new (used_by placement.new.encryption key)
  pub repair : Repair
  pub asked : IsRepairFor header.copies (Some repair)
  pub calls : OpeningRun (Some repair) old new failed_call
  pub by : cause ≡ causes.Device
  pub tables : TellsSince sizes (joined_disk old) new

-- What is left of disks that had the first of these sizes and have the second. Where nothing was
-- written they are the same; where a call of the repair failed nothing is said of them.
abbrev pub IsUnopened : Sizes → Sizes → Option (List ℕ) → Joint → Joint → OpenCause → Type 0
IsUnopened sizes later key old new cause =
    ((later ≡ sizes)
    × (IsUncalled old new cause ⊎ (IsUnsynced old new cause ⊎ IsOnlyRead sizes old new)))
    ⊎ IsUnrepaired sizes key old (joined_disk new) cause
