-- Why a volume isn't opened, of disks that tell what they hold.
use Rattle.std.proofs.Common.{◌≡◌, inl, inr, ℕ, ◌≤◌, List, Option, Some, None, Ok, Result, refl}
use Rattle.std.proofs.Common.{arith}
use Rattle.base_terms.specs.Causes.{Rose}
use Rattle.base_terms.specs.declared.disk_sizes.Sizes.{Sizes}
use Rattle.luks_store.specs.declared.header_copies.repair.Repair.{Repair}
use Rattle.luks_meta.specs.declared.meta.Parts.{Parts}
use Rattle.luks_store.specs.Loads.{HasCause, Says}
use Rattle.luks_store.specs.Used.{Refusal}
use Rattle.luks_store.specs.declared.fault.StoreFault.{StoreFault}
use Rattle.luks_store.specs.declared.fault.StoreFault.TheVariants as faults
use Rattle.luks_store.specs.declared.loaded.Stored.{Stored}
use Rattle.reenc_recovery.specs.Calls.{RepairRun}
use Rattle.reenc_recovery.specs.Causes.{HasCauseIn, IsCauseIn, IsRefusedVolume, cause_of}
use Rattle.reenc_recovery.specs.declared.fault.OpenCause.{OpenCause}
use Rattle.reenc_recovery.specs.declared.fault.OpenCause.TheVariants as causes
use Rattle.sector_disk.specs.Devices.{Device, failed_call}

-- a header that isn't loaded
pub said_cause : (sizes : Sizes) (key : Option (List ℕ)) (held : Result Stored Refusal)
    (fault : StoreFault) → Says fault held → IsCauseIn sizes key held (cause_of fault)
said_cause sizes key held faults.Memory says = tt
said_cause sizes key held faults.Device says = tt
said_cause sizes key held (faults.NoHeader primary secondary) says = says
said_cause sizes key held (faults.CopiesDiffer seqid place) says = says
said_cause sizes key held (faults.Json fault) says = says
said_cause sizes key held (faults.Rule fault) says = says

pub caused : (old new : Device) (fault : StoreFault) → HasCause old new fault
    → HasCauseIn old new (cause_of fault)
caused old new faults.Memory cause = tt
caused old new faults.Device cause = cause
caused old new (faults.NoHeader primary secondary) cause = tt
caused old new (faults.CopiesDiffer seqid place) cause = tt
caused old new (faults.Json fault) cause = tt
caused old new (faults.Rule fault) cause = tt

-- a volume that is refused
pub refused_cause : (sizes : Sizes) (key : Option (List ℕ)) (held : Result Stored Refusal)
    (stored : Stored) (cause : OpenCause) → held ≡ Ok stored
    → IsRefusedVolume stored.valid.meta sizes key cause → IsCauseIn sizes key held cause
refused_cause sizes key held stored causes.Memory is refusal = tt
refused_cause sizes key held stored causes.Device is refusal = tt
refused_cause sizes key held stored (causes.NoHeader primary secondary) is refusal =
    absurd (refusal.2)
refused_cause sizes key held stored (causes.CopiesDiffer seqid place) is refusal =
    absurd (refusal.2)
refused_cause sizes key held stored (causes.Json fault) is refusal = absurd (refusal.2)
refused_cause sizes key held stored (causes.Rule fault) is refusal = absurd (refusal.2)
refused_cause sizes key held stored causes.InProgress is refusal = (stored, is, refusal)
refused_cause sizes key held stored (causes.KeyDiffers computed digest) is refusal =
    (stored, is, refusal)

pub refused_without_reads : (m : Parts) (sizes : Sizes) (key : Option (List ℕ)) (old new : Device)
    (cause : OpenCause) → IsRefusedVolume m sizes key cause → HasCauseIn old new cause
refused_without_reads m sizes key old new causes.Memory refusal = tt
refused_without_reads m sizes key old new causes.Device refusal = absurd (refusal.2)
refused_without_reads m sizes key old new (causes.NoHeader primary secondary) refusal = tt
refused_without_reads m sizes key old new (causes.CopiesDiffer seqid place) refusal = tt
refused_without_reads m sizes key old new (causes.Json fault) refusal = tt
refused_without_reads m sizes key old new (causes.Rule fault) refusal = tt
refused_without_reads m sizes key old new causes.InProgress refusal = tt
refused_without_reads m sizes key old new (causes.KeyDiffers computed digest) refusal = tt

-- ---- counts that rose since an earlier moment
pub rose_since : (a b c : ℕ) → a ≤ b → Rose b c → Rose a c
rose_since a b c later (inl rose) = inl (omega (arith, later, rose))
rose_since a b c later (inr full) = inr full

pub cause_since : (a b c : Device) (cause : OpenCause) → a.faults ≤ b.faults
    → HasCauseIn b c cause → HasCauseIn a c cause
cause_since a b c causes.Memory later cause = tt
cause_since a b c causes.Device later cause = rose_since a.faults b.faults c.faults later cause
cause_since a b c (causes.NoHeader primary secondary) later cause = tt
cause_since a b c (causes.CopiesDiffer seqid place) later cause = tt
cause_since a b c (causes.Json fault) later cause = tt
cause_since a b c (causes.Rule fault) later cause = tt
cause_since a b c causes.InProgress later cause = tt
cause_since a b c (causes.KeyDiffers computed digest) later cause = tt

-- a call of a repair that failed
pub repair_rose : (repair : Option Repair) (old new : Device) → RepairRun repair old new failed_call
    → Rose old.faults new.faults
repair_rose None old new run = absurd run
repair_rose (Some repair) old new (inl write) = write.cause.failed refl
repair_rose (Some repair) old new (inr last) =
    rose_since old.faults last.written.faults new.faults last.write.cause.later
    (last.sync.cause.failed refl)
