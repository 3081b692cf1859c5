-- Why a conversion of a disk that stands isn't led to its end though no device call failed.
use Rattle.std.specs.Prelude.{ℕ, ◌≡◌, ◌<◌, ◌-◌, ◌^◌, List, IfSome, Option, Some}
use Rattle.resume_disk.specs.declared.midway.fault.ConversionCause.{ConversionCause}
use Rattle.resume_disk.specs.declared.midway.fault.ConversionCause.TheVariants as causes
use Rattle.header_report.specs.Examinations.{sizes_alone}
use Rattle.luks_slots.specs.declared.fault.SlotFault.{SlotFault}
use Rattle.luks_slots.specs.declared.fault.SlotFault.TheVariants as slots
use Rattle.luks_store.specs.declared.fault.StoreFault.{StoreFault}
use Rattle.luks_store.specs.declared.fault.StoreFault.TheVariants as faults
use Rattle.image_laws.specs.Opened.Images.{ImageStandsFor}
use Rattle.reenc_recovery.specs.declared.fault.OpenCause.{OpenCause}
use Rattle.reenc_recovery.specs.declared.fault.OpenCause.TheVariants as openings
use Rattle.reenc_worker.specs.declared.ends.WorkerEnd.{WorkerEnd}
use Rattle.reenc_worker.specs.declared.ends.WorkerEnd.TheVariants as ends
use Rattle.resume_disk.specs.Refusals.{IsUnfinishedBy}
use Rattle.resume_disk.specs.Standing.{ConvertsIn}
use Rattle.resume_disk.specs.declared.refusal.Refusal.{Refusal}
use Rattle.resume_disk.specs.declared.refusal.Refusal.TheVariants as refusals
use Rattle.resume_disk.specs.declared.refusal.Unfinished.{Unfinished}
use Rattle.resume_disk.specs.declared.refusal.Unfinished.TheVariants as unfinished
use Rattle.sector_disk.specs.Devices.{Device}
use Rattle.volume_opening.specs.Openings.{IsTried}

-- ---- no device call failed
-- the count of the disk is as it was, and hasn't come to its last value; and a disk of the header that is
-- handed back counts none
abbrev pub NoneFailed : {D : Type 0} → (D → Device) → D → Option D → D → Type 0
NoneFailed device disk header back =
    ((device back).faults ≡ (device disk).faults) × ((device disk).faults < 2 ^ 64 - 1)
    × IfSome header (λ head. (device head).faults ≡ 0)

abbrev pub NoneFailedIn : {D : Type 0} → (D → Device) → D → Unfinished D → Type 0
NoneFailedIn device disk (unfinished.Refused r) = NoneFailed device disk r.header r.disk
NoneFailedIn device disk (unfinished.Halted h) = NoneFailed device disk h.header h.disk

-- ---- what is wanting
-- Memory; or where a zone was open, a number for the header with the boundary moved over it, or room for
-- its text. Nothing is wanting where bytes that may be sectors of the volume lie behind the last whole
-- atom of the disk, which is refused too: its refusal says exactly when.
abbrev pub WantsMemory : OpenCause → Type 0
WantsMemory openings.Memory = Unit {0}
WantsMemory _ = ⊥

abbrev pub WantsForOpening : ConversionCause → Type 0
WantsForOpening (causes.Opening cause) = WantsMemory cause
WantsForOpening causes.Idle = ⊥
WantsForOpening causes.NotBuilt = ⊥
WantsForOpening (causes.SeqEnd left wanted) = Unit {0}
WantsForOpening (causes.JsonFull length limit) = Unit {0}

abbrev pub WantsForHeader : StoreFault → Type 0
WantsForHeader faults.Memory = Unit {0}
WantsForHeader _ = ⊥

abbrev pub WantsForSlots : SlotFault → Type 0
WantsForSlots slots.Memory = Unit {0}
WantsForSlots _ = ⊥

abbrev pub WantsBefore : Refusal → Type 0
WantsBefore (refusals.Header fault) = WantsForHeader fault
WantsBefore refusals.Idle = ⊥
WantsBefore (refusals.Passphrase count) = ⊥
WantsBefore (refusals.Slots side fault) = WantsForSlots fault
WantsBefore (refusals.Tail bytes) = Unit {0}
WantsBefore (refusals.Unopened cause) = WantsForOpening cause

-- Memory, numbers, or room for a text, of the worker; or two atoms of one block, an old one and a new one,
-- that have one digest; or more steps than are counted.
abbrev pub WantsAtWork : WorkerEnd → Type 0
WantsAtWork ends.Finished = ⊥
WantsAtWork ends.Device = ⊥
WantsAtWork (ends.Clash block digest) = Unit {0}
WantsAtWork (ends.NoFit what) = Unit {0}
WantsAtWork ends.Broken = ⊥
WantsAtWork ends.Spent = Unit {0}
WantsAtWork ends.Memory = Unit {0}

abbrev pub Wants : {D : Type 0} → Unfinished D → Type 0
Wants (unfinished.Refused r) = WantsBefore r.refusal
Wants (unfinished.Halted h) = WantsAtWork h.end

-- Where a disk tells its bytes, which stand for a content under a passphrase of 1 to 512 bytes, by their
-- header a conversion is under way, and no device call failed, the conversion is at its end, unless
-- one of these was wanting, or bytes that may be sectors of the volume lie behind the last whole atom.
abbrev pub ConversionsEnd : {C D : Type 0} → (C → ℕ) → (C → ℕ → List ℕ → List ℕ)
    → (C → ℕ → List ℕ → List ℕ) → (D → Device) → Type 0
ConversionsEnd {C} {D} sector sealed opened device =
    (disk : D) (pass first : List ℕ) (content : List (List ℕ)) (left : Unfinished D)
    → (device disk).values ≡ Some first → IsTried pass
    → ImageStandsFor (sizes_alone (device disk)) pass first content
    → ConvertsIn (sizes_alone (device disk)) first
    → IsUnfinishedBy sector sealed opened device disk pass left
    → NoneFailedIn device disk left → Wants left
