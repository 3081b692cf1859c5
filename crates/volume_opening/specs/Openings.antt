-- What a volume is that a passphrase opened.
use Rattle.std.specs.Prelude.{ℕ, ◌≡◌, ◌<◌, ◌≤◌, List, length, Option, Some, None, Ok}
use Rattle.base_terms.specs.declared.disk_sizes.Sizes.{Sizes}
use Rattle.header_report.specs.Examinations.{sizes_alone}
use Rattle.sector_disk.specs.JoinedDisks.Joined.{Joint, begun_joint, joined_disk, nothing}
use Rattle.luks_meta.specs.declared.digest.Digest.{Digest}
use Rattle.luks_rules.specs.References.{value_at}
use Rattle.luks_rules.specs.States.{IsSound as AreSound}
use Rattle.luks_rules.specs.Idles.{idle_of}
use Rattle.luks_rules.specs.declared.idle.Idle.{Idle}
use Rattle.luks_meta.specs.declared.meta.Parts.{Parts}
use Rattle.luks_slots.specs.Unlocks.{IsRight}
use Rattle.luks_meta.specs.declared.segment.Encryption.{Encryption}
use Rattle.luks_store.specs.Devices.{KeepsBytes}
use Rattle.luks_store.specs.Loads.{stored_in}
use Rattle.luks_store.specs.declared.loaded.Stored.{Stored}
use Rattle.plain_disk.specs.Plain.{settled_blocks}
use Rattle.reenc_recovery.specs.Images.{StandsFor}
use Rattle.reenc_recovery.specs.Keys.{key_for, used_by}
use Rattle.reenc_recovery.specs.Tables.{TellsSince}
use Rattle.reenc_recovery.specs.Volumes.{IsOpenedOf, IsVolumeOf}
use Rattle.sector_disk.specs.Devices.{Device}
use Rattle.volume_laws.specs.Promises.{Starts, TellsSettled}
use Rattle.volume_machine.specs.Beginnings.{IsFresh, new_volume}
use Rattle.volume_machine.specs.Seals.{seals_of}
use Rattle.volume_machine.specs.Sound.{IsSound}
use Rattle.volume_machine.specs.States.{State}
use Rattle.volume_machine.specs.declared.keys.Keys.{Keys}

-- a disk as the main one of disks that are joined now, with none in front
abbrev pub alone : Device → Joint
alone device = begun_joint (nothing device.size) device

-- ---- what is found on a disk
-- The header that was loaded from a disk: where the disk tells its bytes, it is the one that they
-- hold.
pub record IsFound (device : Device) (stored : Stored) : Type 0 where
  pub sizes : stored.valid.sizes ≡ sizes_alone device
  pub held : (bytes : List ℕ) → device.values ≡ Some bytes
      → stored_in (sizes_alone device) bytes ≡ Ok stored

-- a passphrase has 1 to 512 bytes
abbrev pub IsTried : List ℕ → Type 0
IsTried pass = (0 < length pass) × (length pass ≤ 512)

-- the key of a segment by the digest of its number; a linear segment has none
abbrev pub IsRightBy : Parts → Option Encryption → Option ℕ → Option (List ℕ) → Type 0
IsRightBy m None digest key = key ≡ None
IsRightBy m (Some e) None key = ⊥
IsRightBy m (Some e) (Some n) key =
    (found : List ℕ) × (key ≡ Some found)
    × ((d : Digest) × (value_at m.digests n ≡ Some d) × IsRight m d found)

-- The objects break no rule, nothing is being converted, and the key is one of the segment's
-- digest. Where the disk tells what it holds, it is the one that the keyslots there give to the
-- passphrase.
pub record IsKeyFound (m : Parts) (sizes : Sizes) (pass : List ℕ) (held : Option (List ℕ))
    (key : Option (List ℕ)) : Type 0 where
  pub tried : IsTried pass
  pub sound : AreSound m sizes
  pub idle : Idle
  pub is : idle_of m sizes ≡ Some idle
  pub key_is : IsRightBy m idle.segment.encryption idle.segment.digest key
  pub told : (image : List ℕ) → held ≡ Some image
      → key_for m image pass idle.segment ≡ Some (used_by idle.segment.encryption key)

-- the header of a volume of which nothing is being converted, and its key of a passphrase
pub record IsUnderKey (device : Device) (stored : Stored) (pass : List ℕ)
    (key : Option (List ℕ)) : Type 0 where
  pub found : IsFound device stored
  pub key_found : IsKeyFound stored.valid.meta stored.valid.sizes pass device.values key

-- ---- a volume that was opened
-- What the disk held when it was handed in stands for a content under the passphrase, and what it
-- holds now, for certain, stands for the same; runs start from the volume as from the plain disk
-- that holds this content for certain.
pub record StartsFor {C : Type 0} (sealed opened : C → ℕ → List ℕ → List ℕ) (sizes : Sizes)
    (pass first : List ℕ) (volume : State (Keys C)) : Type 0 where
  pub content : List (List ℕ)
  pub stood : StandsFor sizes pass first content
  pub now : List ℕ
  pub values : volume.disk.values ≡ Some now
  pub stands : StandsFor sizes pass now content
  pub settled : TellsSettled volume now
  pub starts : Starts volume (seals_of sealed opened volume.map.atom volume.keys)
      (settled_blocks content) now

-- A volume was opened on a disk by a passphrase, with so many lanes. The header and the keyslots
-- were read, and nothing was written meanwhile; then the volume was opened under the header and the
-- key. Where the disk told what it held, this is the key that the passphrase has there, and the
-- volume is that of the one content that stands there under the passphrase.
pub record IsOpenedBy {C : Type 0} (sector : C → ℕ) (sealed opened : C → ℕ → List ℕ → List ℕ)
    (device : Device) (pass : List ℕ) (lanes : ℕ) (volume : State (Keys C)) : Type 0 where
  pub read : Device
  pub unwritten : KeepsBytes device read
  pub stored : Stored
  pub key : Option (List ℕ)
  pub under : IsUnderKey device stored pass key
  pub calls : IsOpenedOf sector sealed opened (sizes_alone device) key (alone read) volume
  pub held : (first : List ℕ) → device.values ≡ Some first
      → IsVolumeOf sector sealed opened (sizes_alone device) key stored first volume
  pub tables : TellsSince (sizes_alone device) (joined_disk (alone read)) volume.disk
  pub is : volume ≡ new_volume volume.map volume.keys lanes volume.disk
  pub fresh : IsFresh volume
  pub sound : IsSound volume
  pub starts : (first : List ℕ) → device.values ≡ Some first
      → StartsFor sealed opened (sizes_alone device) pass first volume
