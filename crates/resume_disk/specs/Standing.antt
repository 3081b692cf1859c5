-- Why a conversion of a disk that stands isn't led to its end.
use Rattle.std.specs.Prelude.{ℕ, ◌≡◌, List, Some, Ok, Err}
use Rattle.resume_disk.specs.declared.midway.fault.ConversionCause.{ConversionCause}
use Rattle.resume_disk.specs.declared.midway.fault.ConversionCause.TheVariants as causes
use Rattle.base_terms.specs.declared.disk_sizes.Sizes.{Sizes}
use Rattle.header_report.specs.Examinations.{sizes_alone}
use Rattle.hotzone.specs.Sites.{IsSaved}
use Rattle.luks_rules.specs.Shapes.{progress_of}
use Rattle.luks_rules.specs.declared.shape.Progress.{Progress}
use Rattle.luks_slots.specs.Unlocks.{IsCutShort}
use Rattle.luks_store.specs.Devices.{front_of}
use Rattle.luks_store.specs.Loads.{stored_in}
use Rattle.luks_store.specs.declared.loaded.Stored.{Stored}
use Rattle.image_laws.specs.Opened.Images.{ImageStandsFor}
use Rattle.resume_disk.specs.Refusals.{IsUnfinishedBy}
use Rattle.resume_disk.specs.declared.refusal.Refusal.{Refusal}
use Rattle.resume_disk.specs.declared.refusal.Refusal.TheVariants as refusals
use Rattle.resume_disk.specs.declared.refusal.Unfinished.{Unfinished}
use Rattle.resume_disk.specs.declared.refusal.Unfinished.TheVariants as unfinished
use Rattle.sector_disk.specs.Devices.{Device}
use Rattle.volume_opening.specs.Openings.{IsTried}
use Rattle.volume_opening.specs.Shorts.{IsUnread}
use Rattle.volume_opening.specs.Shorts.{IsShort as IsOpeningShort}

-- ---- a conversion that stands
-- By the header that bytes have a conversion is under way, of whose blocks something is saved: by
-- journal, or by checksum.
abbrev pub ConvertsIn : Sizes → List ℕ → Type 0
ConvertsIn sizes bytes = (stored : Stored) → stored_in sizes (front_of sizes bytes) ≡ Ok stored
    → (now : Progress) × (progress_of stored.valid.meta sizes ≡ Some now)
    × IsSaved now.conversion.resilience

-- ---- what cuts it short
-- Memory was wanted, or a device call failed; or where a zone was open, the header with the boundary
-- moved over it can't be made: no number is left, or its text has no room.
abbrev pub CutsOpening : ConversionCause → Type 0
CutsOpening (causes.Opening cause) = IsOpeningShort cause
CutsOpening causes.Idle = ⊥
CutsOpening causes.NotBuilt = ⊥
CutsOpening (causes.SeqEnd left wanted) = Unit {0}
CutsOpening (causes.JsonFull length limit) = Unit {0}

-- memory or a device call, also while the header was read, or the keyslots; or bytes that may be sectors
-- of the volume lie behind the last whole atom of its disk, as its refusal says exactly
abbrev pub IsCutBy : Refusal → Type 0
IsCutBy (refusals.Header fault) = IsUnread fault
IsCutBy refusals.Idle = ⊥
IsCutBy (refusals.Passphrase count) = ⊥
IsCutBy (refusals.Slots side fault) = IsCutShort (Err fault)
IsCutBy (refusals.Tail bytes) = Unit {0}
IsCutBy (refusals.Unopened cause) = CutsOpening cause

-- or it was led on, and its worker ended so as it says
abbrev pub IsCut : {D : Type 0} → Unfinished D → Type 0
IsCut (unfinished.Refused r) = IsCutBy r.refusal
IsCut (unfinished.Halted h) = Unit {0}

-- Where a disk tells its bytes, which stand for a content under a passphrase of 1 to 512 bytes, and by
-- their header a conversion is under way, it isn't led to its end for one of these alone.
abbrev pub ConversionsAreLedOn : {C D : Type 0} → (C → ℕ) → (C → ℕ → List ℕ → List ℕ)
    → (C → ℕ → List ℕ → List ℕ) → (D → Device) → Type 0
ConversionsAreLedOn {C} {D} sector sealed opened device =
    (disk : D) (pass first : List ℕ) (content : List (List ℕ)) (left : Unfinished D)
    → (device disk).values ≡ Some first → IsTried pass
    → ImageStandsFor (sizes_alone (device disk)) pass first content
    → ConvertsIn (sizes_alone (device disk)) first
    → IsUnfinishedBy sector sealed opened device disk pass left → IsCut left
