-- Why a conversion on a disk isn't at its end, and what that leaves.
use Rattle.std.specs.Prelude.{ℕ, ◌≡◌, List, Option, Some, None, true}
use Rattle.resume_disk.specs.OpenedMidway.Causes.{HasCauseIn, IsCauseIn}
use Rattle.resume_disk.specs.OpenedMidway.Openings.{IsUnopened}
use Rattle.resume_disk.specs.declared.midway.fault.ConversionCause.{ConversionCause}
use Rattle.resume_disk.specs.declared.midway.fault.ConversionCause.TheVariants as causes
use Rattle.base_terms.specs.declared.disk_sizes.Sizes.{Sizes}
use Rattle.header_report.specs.Examinations.{TellsFault, sizes_alone}
use Rattle.sector_disk.specs.JoinedDisks.Joined.{Joint, joined_disk}
use Rattle.luks_store.specs.Devices.{KeepsBytes}
use Rattle.luks_store.specs.Loads.{HasCause, stored_in}
use Rattle.luks_store.specs.declared.loaded.Stored.{Stored}
use Rattle.reenc_recovery.specs.declared.keys.SideKeys.{SideKeys}
use Rattle.luks_rules.specs.Segments.{has_tail}
use Rattle.resume_disk.specs.Keys.{AreKeysFound, IsNoKeysFound}
use Rattle.resume_disk.specs.Resuming.{AreUnderKeys, BeginsWith, IsHaltedBy}
use Rattle.resume_disk.specs.declared.refusal.Refusal.{Refusal}
use Rattle.resume_disk.specs.declared.refusal.Refusal.TheVariants as refusals
use Rattle.resume_disk.specs.declared.refusal.Unfinished.{Unfinished}
use Rattle.resume_disk.specs.declared.refusal.Unfinished.TheVariants as unfinished
use Rattle.sector_disk.specs.Devices.{Device}
use Rattle.volume_opening.specs.Openings.{IsFound, alone}
use Rattle.volume_opening.specs.Refusals.{AreOf}
use Rattle.volume_opening.specs.Shorts.{IsShort as IsOpeningShort}
use Rattle.image_laws.specs.Led.Holding.{TellsLawfully}

-- ---- no keys
-- No keys were found under the header of a disk, which was only read.
pub record IsRefusedKeys (device : Device) (pass : List ℕ) (new : Device) (refusal : Refusal) :
    Type 0 where
  pub stored : Stored
  pub found : IsFound device stored
  pub read : Device
  pub header_read : KeepsBytes device read
  pub slots_read : KeepsBytes read new
  pub none : IsNoKeysFound stored.valid.meta stored.valid.sizes pass read new refusal

-- The keys were found, and bytes that may be sectors of the volume lie behind the last whole atom of
-- the disk, which has so many there; it was only read.
pub record HasTailOn (device : Device) (pass : List ℕ) (bytes : ℕ) (new : Device) : Type 0 where
  pub unwritten : KeepsBytes device new
  pub stored : Stored
  pub found : IsFound device stored
  pub keys : SideKeys
  pub are : AreKeysFound stored.valid.meta stored.valid.sizes pass device.values keys
  pub bytes_are : bytes ≡ device.tail
  pub has : has_tail stored.valid.meta.segments device.tail ≡ true

-- why there are no keys of both sides on a disk, or none that may be used, which was only read
abbrev pub IsLockedBy : Device → List ℕ → Refusal → Device → Type 0
IsLockedBy device pass (refusals.Header fault) new =
    KeepsBytes device new × TellsFault device fault × HasCause device new fault
IsLockedBy device pass (refusals.Tail bytes) new = HasTailOn device pass bytes new
IsLockedBy device pass refusal new = IsRefusedKeys device pass new refusal

-- ---- not opened
-- what cuts an opening short under the header and the keys that a disk has: memory was wanted, or a
-- device call failed; or it can't be led on by this header
abbrev pub IsShort : ConversionCause → Type 0
IsShort (causes.Opening cause) = IsOpeningShort cause
IsShort causes.Idle = ⊥
IsShort causes.NotBuilt = Unit {0}
IsShort (causes.SeqEnd left wanted) = Unit {0}
IsShort (causes.JsonFull length limit) = Unit {0}

-- The header and the keys opened no volume. A disk that told its bytes has this header, and the keys
-- are those of its segments' digests. What is handed back tells its table and its bytes alike.
pub record IsUnopenedUnder {C : Type 0} (sector : C → ℕ)
    (sealed opened : C → ℕ → List ℕ → List ℕ) (device : Device) (pass : List ℕ)
    (cause : ConversionCause) (joint : Joint) : Type 0 where
  pub keys : SideKeys
  pub read : Device
  pub under : AreUnderKeys device pass keys read
  pub begins : BeginsWith device read
  pub unopened : (later : Sizes)
      × IsUnopened sector sealed opened (sizes_alone device) later keys (alone read) joint cause
  pub tells : TellsLawfully (joined_disk joint)
  pub cause_is : HasCauseIn (joined_disk (alone read)) (joined_disk joint) cause
  pub refused : (bytes : List ℕ) → device.values ≡ Some bytes →
      IsCauseIn (sizes_alone device) keys (stored_in (sizes_alone device) bytes) cause
  pub short : (bytes : List ℕ) → device.values ≡ Some bytes → IsShort cause

-- ---- the answers
-- Why a conversion on a disk wasn't led on, by what was refused, and what that leaves: the disk was
-- only read; or its volume was opened under its header and the keys, which went wrong.
abbrev pub IsRefusedBy : {C D : Type 0} → (C → ℕ) → (C → ℕ → List ℕ → List ℕ)
    → (C → ℕ → List ℕ → List ℕ) → (D → Device) → D → List ℕ → Refusal → Option D → D → Type 0
IsRefusedBy sector sealed opened device disk pass (refusals.Unopened cause) header back =
    (joint : Joint) × AreOf device joint header back
    × IsUnopenedUnder sector sealed opened (device disk) pass cause joint
IsRefusedBy sector sealed opened device disk pass refusal header back =
    (header ≡ None) × IsLockedBy (device disk) pass refusal (device back)

-- why it isn't at its end: it wasn't led on; or it was, and its worker ended otherwise
abbrev pub IsUnfinishedBy : {C D : Type 0} → (C → ℕ) → (C → ℕ → List ℕ → List ℕ)
    → (C → ℕ → List ℕ → List ℕ) → (D → Device) → D → List ℕ → Unfinished D → Type 0
IsUnfinishedBy sector sealed opened device disk pass (unfinished.Refused r) =
    IsRefusedBy sector sealed opened device disk pass r.refusal r.header r.disk
IsUnfinishedBy sector sealed opened device disk pass (unfinished.Halted h) =
    IsHaltedBy sector sealed opened device disk pass h.end h.header h.disk
