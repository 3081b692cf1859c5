-- Why a disk's volume isn't opened by a passphrase, and what that leaves.
use Rattle.std.specs.Prelude.{ℕ, ◌≡◌, ◌⊎◌, ◌<◌, List, length, Option, Some, None, true, false}
use Rattle.std.specs.Prelude.{Err, IsSome, option_map}
use Rattle.header_report.specs.Examinations.{TellsFault, sizes_alone}
use Rattle.sector_disk.specs.JoinedDisks.Joined.{Joint, in_front, joined_disk, told_of_used}
use Rattle.base_terms.specs.declared.disk_sizes.Sizes.{Sizes}
use Rattle.luks_meta.specs.declared.digest.Digest.{Digest}
use Rattle.luks_meta.specs.declared.meta.Parts.{Parts}
use Rattle.luks_rules.specs.Idles.{idle_of}
use Rattle.luks_rules.specs.References.{value_at}
use Rattle.luks_rules.specs.Segments.{in_progress}
use Rattle.luks_rules.specs.declared.idle.Idle.{Idle}
use Rattle.luks_slots.specs.Unlocks.{IsUnlocked}
use Rattle.luks_slots.specs.declared.fault.SlotFault.{SlotFault}
use Rattle.luks_store.specs.Devices.{KeepsBytes}
use Rattle.luks_store.specs.Loads.{HasCause, stored_in}
use Rattle.luks_store.specs.declared.loaded.Stored.{Stored}
use Rattle.reenc_recovery.specs.Causes.{HasCauseIn, IsCauseIn}
use Rattle.reenc_recovery.specs.Volumes.{IsUnopened}
use Rattle.reenc_recovery.specs.declared.fault.OpenCause.{OpenCause}
use Rattle.sector_disk.specs.Devices.{Device}
use Rattle.sector_disk.specs.Steps.{Told}
use Rattle.volume_opening.specs.Openings.{IsFound, IsTried, IsUnderKey, alone}
use Rattle.volume_opening.specs.Shorts.{IsShort}
use Rattle.volume_opening.specs.declared.refusal.Refusal.{Refusal}
use Rattle.volume_opening.specs.declared.refusal.Refusal.TheVariants as refusals

-- a passphrase of another length is tried on no keyslot
abbrev pub IsNotTried : List ℕ → Type 0
IsNotTried pass = (length pass ≡ 0) ⊎ (512 < length pass)

-- The keyslots of an encrypted volume of which nothing is being converted answered no key to a
-- passphrase that was tried. Where the disk tells its bytes, that there is none is said exactly
-- where they give none.
pub record HasNoKey (m : Parts) (sizes : Sizes) (pass : List ℕ) (old new : Device)
    (fault : SlotFault) : Type 0 where
  pub tried : IsTried pass
  pub idle : Idle
  pub is : idle_of m sizes ≡ Some idle
  pub number : ℕ
  pub digest : Digest
  pub crypt : IsSome idle.segment.encryption
  pub wanted : idle.segment.digest ≡ Some number
  pub is_digest : value_at m.digests number ≡ Some digest
  pub answered : IsUnlocked m digest pass old new (Err fault)

-- why a header gives no key for a passphrase: a conversion is under way, the passphrase has a
-- length that is tried on no keyslot, or the keyslots answered none
abbrev pub IsNoKeyFound : Parts → Sizes → List ℕ → Device → Device → Refusal → Type 0
IsNoKeyFound m sizes pass old new refusals.InProgress = in_progress m.config ≡ true
IsNoKeyFound m sizes pass old new (refusals.Passphrase count) =
    (count ≡ length pass) × IsNotTried pass × (in_progress m.config ≡ false)
IsNoKeyFound m sizes pass old new (refusals.Slots fault) = HasNoKey m sizes pass old new fault
IsNoKeyFound m sizes pass old new _ = ⊥

-- The header and the key opened no volume. A disk that told its bytes has this header, and the key
-- is one of its segment's digest, so there memory was wanted, or a device call failed.
pub record IsUnopenedUnder (device : Device) (pass : List ℕ) (cause : OpenCause) (joint : Joint) :
    Type 0 where
  pub read : Device
  pub unwritten : KeepsBytes device read
  pub stored : Stored
  pub key : Option (List ℕ)
  pub under : IsUnderKey device stored pass key
  pub unopened : (later : Sizes) × IsUnopened (sizes_alone device) later key (alone read) joint cause
  pub cause_is : HasCauseIn (joined_disk (alone read)) (joined_disk joint) cause
  pub refused : (bytes : List ℕ) → device.values ≡ Some bytes →
      IsCauseIn (sizes_alone device) key (stored_in (sizes_alone device) bytes) cause
  pub short : (bytes : List ℕ) → device.values ≡ Some bytes → IsShort cause

-- the disks that are handed back are those of two that are joined, whose atoms have this size
pub record AreOf {D : Type 0} (device : D → Device) (joint : Joint) (header : Option D) (disk : D) :
    Type 0 where
  pub size : ℕ
  pub main : device disk ≡ joint.main
  pub head : in_front device size header ≡ joint.head

-- Where no disk of a header is handed back, the tables that were shown are those that the disk tells,
-- cut to the atoms that were shown.
abbrev pub TellsAlone : {D : Type 0} → (D → Device) → Device → Option D → D → Type 0
TellsAlone device shown header disk =
    header ≡ None → shown.told ≡ option_map {T = Told} (told_of_used shown.atoms) (device disk).told

-- No key was found under the header of a disk, which was only read.
pub record IsRefusedKey (device : Device) (pass : List ℕ) (new : Device) (refusal : Refusal) :
    Type 0 where
  pub stored : Stored
  pub found : IsFound device stored
  pub read : Device
  pub header_read : KeepsBytes device read
  pub slots_read : KeepsBytes read new
  pub none : IsNoKeyFound stored.valid.meta stored.valid.sizes pass read new refusal

-- Why no volume was opened on a disk by a passphrase, by what was refused, and what that leaves:
-- the disk was only read; or its volume was opened under its header and a key, which went wrong.
abbrev pub IsUnopenedBy : {D : Type 0} → (D → Device) → D → List ℕ → Refusal → Option D → D → Type 0
IsUnopenedBy device disk pass (refusals.Header fault) header back =
    (header ≡ None) × KeepsBytes (device disk) (device back)
    × TellsFault (device disk) fault × HasCause (device disk) (device back) fault
IsUnopenedBy device disk pass (refusals.Opening cause) header back =
    (joint : Joint) × AreOf device joint header back
    × IsUnopenedUnder (device disk) pass cause joint
IsUnopenedBy device disk pass refusal header back =
    (header ≡ None) × IsRefusedKey (device disk) pass (device back) refusal
