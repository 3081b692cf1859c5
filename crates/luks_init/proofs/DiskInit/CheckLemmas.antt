-- What is read and checked of a disk while it is joined to none.
use Rattle.std.proofs.Common.{◌≡◌, inl, inr, ℕ, List, Option, Some, Result, Ok, Err}
use Rattle.std.proofs.Common.{IfErr, arith, subst}
use Rattle.base_terms.specs.declared.disk_sizes.Sizes.{Sizes}
use Rattle.header_report.specs.Examinations.{sizes_alone}
use Rattle.sector_disk.specs.JoinedDisks.Joined.{both_faults}
use Rattle.luks_store.specs.Devices.{front_of}
use Rattle.luks_store.specs.Loads.{stored_in}
use Rattle.reenc_recovery.specs.Causes.{HasCauseIn, IsCauseIn}
use Rattle.reenc_recovery.specs.declared.fault.OpenCause.{OpenCause}
use Rattle.reenc_recovery.specs.declared.fault.OpenCause.TheVariants as causes
use Rattle.sector_disk.specs.Devices.{Device}

-- behind no head the main disk's count alone decides
cause_alone : (old new main main' : Device) (cause : OpenCause)
    → old.faults ≡ both_faults 0 main.faults → new.faults ≡ both_faults 0 main'.faults
    → HasCauseIn old new cause → HasCauseIn main main' cause
cause_alone old new main main' causes.Memory was is by = tt
cause_alone old new main main' causes.Device was is (inl risen) =
    inl (omega (arith, risen, was, is))
cause_alone old new main main' causes.Device was is (inr last) = inr (omega (arith, last, is))
cause_alone old new main main' (causes.NoHeader p s) was is by = tt
cause_alone old new main main' (causes.CopiesDiffer s p) was is by = tt
cause_alone old new main main' (causes.Json f) was is by = tt
cause_alone old new main main' (causes.Rule f) was is by = tt
cause_alone old new main main' causes.InProgress was is by = tt
cause_alone old new main main' (causes.KeyDiffers c s) was is by = tt

pub causes_alone : {T : Type 0} (old new main main' : Device) (checked : Result T OpenCause)
    → old.faults ≡ both_faults 0 main.faults → new.faults ≡ both_faults 0 main'.faults
    → IfErr checked (HasCauseIn old new) → IfErr checked (HasCauseIn main main')
causes_alone old new main main' (Ok c) was is by = tt
causes_alone old new main main' (Err cause) was is by = cause_alone old new main main' cause was is by

-- so it is with what is said of a disk that tells its bytes
pub refused_alone : {T : Type 0} (device : Device) (sizes : Sizes) (values : Option (List ℕ))
    (key : Option (List ℕ)) (checked : Result T OpenCause) → sizes ≡ sizes_alone device
    → ((all : List ℕ) → device.values ≡ Some all → values ≡ Some all)
    → IfErr checked (λ cause. (all : List ℕ) → values ≡ Some all
    → IsCauseIn sizes key (stored_in sizes (front_of sizes all)) cause)
    → IfErr checked (λ cause. (all : List ℕ) → device.values ≡ Some all
    → IsCauseIn (sizes_alone device) key
    (stored_in (sizes_alone device) (front_of (sizes_alone device) all)) cause)
refused_alone device sizes values key (Ok c) same shown is = tt
refused_alone device sizes values key (Err cause) same shown is = λ all told.
    subst (λ (z : Sizes). IsCauseIn z key (stored_in z (front_of z all)) cause) same
    (is all (shown all told))
