-- Why a volume that is being converted isn't opened.
use Rattle.std.proofs.Common.{◌≡◌, inl, inr, ℕ, ◌≤◌, Bool, false, List, Option, Some, None}
use Rattle.std.proofs.Common.{Ok, Err, Result, refl, sym, ◌∙◌, subst, arith}
use Rattle.base_terms.specs.Causes.{Rose}
use Rattle.base_terms.specs.declared.failed.Failed.{Failed}
use Rattle.resume_disk.specs.OpenedMidway.Causes.{HasCauseIn, IsCauseIn, IsNotLed, IsNotMoved}
use Rattle.resume_disk.specs.OpenedMidway.Causes.{cause_of}
use Rattle.resume_disk.specs.OpenedMidway.Openings.{IsNotLedOn, unarmed, unmended, unrepaired}
use Rattle.resume_disk.specs.OpenedMidway.Sides.{IsNoSide}
use Rattle.resume_disk.specs.declared.midway.fault.ConversionCause.{ConversionCause}
use Rattle.resume_disk.specs.declared.midway.fault.ConversionCause.TheVariants as causes
use Rattle.base_terms.specs.declared.disk_sizes.Sizes.{Sizes}
use Rattle.luks_store.specs.Copying.Steps.{CopyCall}
use Rattle.luks_store.specs.declared.header_copies.commit.Stage.{Stage}
use Rattle.luks_store.specs.declared.header_copies.commit.Stage.TheVariants.{Begun, FirstWritten, FirstKept}
use Rattle.luks_store.specs.declared.header_copies.commit.Stage.TheVariants.{SecondWritten, Ended}
use Rattle.luks_store.specs.declared.header_copies.repair.Repair.{Repair}
use Rattle.luks_meta.specs.declared.meta.Parts.{Parts}
use Rattle.luks_rules.specs.declared.shape.Progress.{Progress}
use Rattle.luks_store.specs.Devices.{front_of}
use Rattle.luks_store.specs.Loads.{HasCause, Says, stored_in}
use Rattle.luks_store.specs.Used.{Refusal}
use Rattle.luks_store.specs.declared.fault.StoreFault.{StoreFault}
use Rattle.luks_store.specs.declared.fault.StoreFault.TheVariants as faults
use Rattle.luks_store.specs.declared.loaded.Stored.{Stored}
use Rattle.reenc_recovery.proofs.OpenCauseLemmas.{caused, cause_since as since, repair_rose, rose_since}
use Rattle.reenc_recovery.specs.Calls.{RepairRun}
use Rattle.reenc_recovery.specs.Causes.{IsNoKey, cause_of as opening_of}
use Rattle.reenc_recovery.specs.Keys.{IsKeyOf, used_by}
use Rattle.reenc_recovery.specs.declared.fault.OpenCause.{OpenCause}
use Rattle.reenc_recovery.specs.declared.fault.OpenCause.TheVariants as openings
use Rattle.reenc_recovery.specs.declared.keys.SideKeys.{SideKeys}
use Rattle.sector_disk.specs.Devices.{Device, SyncCall, failed_call, succeeded}
use Rattle.volume_machine.specs.Seals.{Seals}
use Rattle.volume_machine.specs.declared.keys.Keys.{Keys}
use Rattle.image_laws.specs.Led.Runs.{MendRun, none, one_more}
use Rattle.zone_mending.specs.Promises.{seals_in}
use Rattle.zone_mending.specs.Steps.{Fails, Goes, Steps}
use Rattle.zone_mending.specs.Steps.{reads, lays, finds, writes, settles, moves, ends, read_fails}
use Rattle.zone_mending.specs.Steps.{lay_fails, find_fails, write_fails, settle_fails, move_fails}
use Rattle.zone_mending.specs.Menders.{stage_of_move}
use Rattle.zone_mending.specs.declared.mender.MendFault.{MendFault}
use Rattle.zone_mending.specs.declared.mender.MendFault.TheVariants as mendings
use Rattle.zone_mending.specs.declared.mender.Mender.{Mender}

-- ---- keys
pub no_old : (m : Parts) (c : Progress) (handed : SideKeys) (cause : OpenCause)
    → IsNoKey m c.old handed.old cause → IsNoSide m c handed cause
no_old m c handed openings.Memory is = tt
no_old m c handed (openings.KeyDiffers computed stored) is = inl is
no_old m c handed openings.Device is = absurd is
no_old m c handed (openings.NoHeader primary secondary) is = absurd is
no_old m c handed (openings.CopiesDiffer seqid place) is = absurd is
no_old m c handed (openings.Json fault) is = absurd is
no_old m c handed (openings.Rule fault) is = absurd is
no_old m c handed openings.InProgress is = absurd is

pub no_new : (m : Parts) (c : Progress) (handed : SideKeys) (cause : OpenCause)
    → IsKeyOf m c.old (used_by c.old.encryption handed.old)
    → IsNoKey m c.new handed.new cause → IsNoSide m c handed cause
no_new m c handed openings.Memory old is = tt
no_new m c handed (openings.KeyDiffers computed stored) old is = inr (old, is)
no_new m c handed openings.Device old is = absurd is
no_new m c handed (openings.NoHeader primary secondary) old is = absurd is
no_new m c handed (openings.CopiesDiffer seqid place) old is = absurd is
no_new m c handed (openings.Json fault) old is = absurd is
no_new m c handed (openings.Rule fault) old is = absurd is
no_new m c handed openings.InProgress old is = absurd is

-- ---- a header that isn't loaded
said_cause : (sizes : Sizes) (handed : SideKeys) (held : Result Stored Refusal)
    (fault : StoreFault) → Says fault held
    → IsCauseIn sizes handed held (causes.Opening (opening_of fault))
said_cause sizes handed held faults.Memory says = tt
said_cause sizes handed held faults.Device says = tt
said_cause sizes handed held (faults.NoHeader primary secondary) says = says
said_cause sizes handed held (faults.CopiesDiffer seqid place) says = says
said_cause sizes handed held (faults.Json fault) says = says
said_cause sizes handed held (faults.Rule fault) says = says

pub said : (sizes : Sizes) (handed : SideKeys) (held : Result Stored Refusal)
    (fault : StoreFault) (cause : OpenCause) → cause ≡ opening_of fault → Says fault held
    → IsCauseIn sizes handed held (causes.Opening cause)
said sizes handed held fault cause is says =
    subst (λ (c : OpenCause). IsCauseIn sizes handed held (causes.Opening c)) (sym is)
    (said_cause sizes handed held fault says)

pub by_load : (old new : Device) (fault : StoreFault) (cause : OpenCause)
    → cause ≡ opening_of fault → HasCause old new fault
    → HasCauseIn old new (causes.Opening cause)
by_load old new fault cause is has =
    subst (λ (c : OpenCause). HasCauseIn old new (causes.Opening c)) (sym is)
    (caused old new fault has)

-- ---- metadata that aren't led on
refused_cause : (sizes : Sizes) (handed : SideKeys) (held : Result Stored Refusal)
    (stored : Stored) (cause : ConversionCause) → held ≡ Ok stored
    → IsNotLed stored.valid.meta sizes handed cause → IsCauseIn sizes handed held cause
refused_cause sizes handed held stored causes.Idle is refusal = (stored, is, refusal)
refused_cause sizes handed held stored causes.NotBuilt is refusal = (stored, is, refusal)
refused_cause sizes handed held stored (causes.SeqEnd left wanted) is refusal = absurd refusal
refused_cause sizes handed held stored (causes.JsonFull length limit) is refusal = absurd refusal
refused_cause sizes handed held stored (causes.Opening openings.Memory) is refusal = tt
refused_cause sizes handed held stored (causes.Opening openings.Device) is refusal = tt
refused_cause sizes handed held stored (causes.Opening (openings.KeyDiffers computed digest)) is
    refusal = (stored, is, refusal)
refused_cause sizes handed held stored (causes.Opening (openings.NoHeader primary secondary)) is
    refusal = absurd (refusal.3)
refused_cause sizes handed held stored (causes.Opening (openings.CopiesDiffer seqid place)) is
    refusal = absurd (refusal.3)
refused_cause sizes handed held stored (causes.Opening (openings.Json fault)) is refusal =
    absurd (refusal.3)
refused_cause sizes handed held stored (causes.Opening (openings.Rule fault)) is refusal =
    absurd (refusal.3)
refused_cause sizes handed held stored (causes.Opening openings.InProgress) is refusal =
    absurd (refusal.3)

pub refused_in : (sizes : Sizes) (handed : SideKeys) (header : Stored) (cause : ConversionCause)
    (held : Result Stored Refusal) → header.valid.sizes ≡ sizes → held ≡ Ok header
    → IsNotLed header.valid.meta header.valid.sizes handed cause
    → IsCauseIn sizes handed held cause
refused_in sizes handed header cause held same is refusal =
    refused_cause sizes handed held header cause is
    (subst (λ (z : Sizes). IsNotLed header.valid.meta z handed cause) same refusal)

pub refused_without_reads : (m : Parts) (sizes : Sizes) (handed : SideKeys) (old new : Device)
    (cause : ConversionCause) → IsNotLed m sizes handed cause → HasCauseIn old new cause
refused_without_reads m sizes handed old new causes.Idle refusal = tt
refused_without_reads m sizes handed old new causes.NotBuilt refusal = tt
refused_without_reads m sizes handed old new (causes.SeqEnd left wanted) refusal = tt
refused_without_reads m sizes handed old new (causes.JsonFull length limit) refusal = tt
refused_without_reads m sizes handed old new (causes.Opening openings.Memory) refusal = tt
refused_without_reads m sizes handed old new (causes.Opening openings.Device) refusal =
    absurd (refusal.3)
refused_without_reads m sizes handed old new
    (causes.Opening (openings.NoHeader primary secondary)) refusal = tt
refused_without_reads m sizes handed old new
    (causes.Opening (openings.CopiesDiffer seqid place)) refusal = tt
refused_without_reads m sizes handed old new (causes.Opening (openings.Json fault)) refusal = tt
refused_without_reads m sizes handed old new (causes.Opening (openings.Rule fault)) refusal = tt
refused_without_reads m sizes handed old new (causes.Opening openings.InProgress) refusal = tt
refused_without_reads m sizes handed old new
    (causes.Opening (openings.KeyDiffers computed digest)) refusal = tt

-- ---- a header that comes behind an open zone, and isn't made
not_moved : (sizes : Sizes) (handed : SideKeys) (header : Stored) (fault : MendFault)
    (held : Result Stored Refusal) → held ≡ Ok header → IsNotMoved sizes handed header fault
    → IsCauseIn sizes handed held (cause_of fault)
not_moved sizes handed header (mendings.SeqEnd left wanted) held is refusal = (header, is, refusal)
not_moved sizes handed header (mendings.JsonFull length limit) held is refusal =
    (header, is, refusal)
not_moved sizes handed header mendings.Memory held is refusal = tt

pub not_moved_in : (sizes : Sizes) (handed : SideKeys) (header : Stored) (fault : MendFault)
    (cause : ConversionCause) (held : Result Stored Refusal) → cause ≡ cause_of fault
    → held ≡ Ok header → IsNotMoved sizes handed header fault → IsCauseIn sizes handed held cause
not_moved_in sizes handed header fault cause held by is refusal =
    subst (λ (c : ConversionCause). IsCauseIn sizes handed held c) (sym by)
    (not_moved sizes handed header fault held is refusal)

not_device : (old new : Device) (fault : MendFault) → HasCauseIn old new (cause_of fault)
not_device old new (mendings.SeqEnd left wanted) = tt
not_device old new (mendings.JsonFull length limit) = tt
not_device old new mendings.Memory = tt

pub moved_without_calls : (old new : Device) (fault : MendFault) (cause : ConversionCause)
    → cause ≡ cause_of fault → HasCauseIn old new cause
moved_without_calls old new fault cause by =
    subst (λ (c : ConversionCause). HasCauseIn old new c) (sym by) (not_device old new fault)

-- ---- since an earlier moment
pub cause_since : (a b c : Device) (cause : ConversionCause) → a.faults ≤ b.faults
    → HasCauseIn b c cause → HasCauseIn a c cause
cause_since a b c (causes.Opening cause) later has = since a b c cause later has
cause_since a b c causes.Idle later has = tt
cause_since a b c causes.NotBuilt later has = tt
cause_since a b c (causes.SeqEnd left wanted) later has = tt
cause_since a b c (causes.JsonFull length limit) later has = tt

-- of disks whose sizes are still the same behind their sync
pub refused_later : (sizes later : Sizes) (handed : SideKeys) (cause : ConversionCause)
    (old synced : Device) → later ≡ sizes → SyncCall old synced succeeded
    → ((all : List ℕ) → synced.values ≡ Some all
    → IsCauseIn later handed (stored_in later (front_of later all)) cause)
    → (all : List ℕ) → old.values ≡ Some all
    → IsCauseIn sizes handed (stored_in sizes (front_of sizes all)) cause
refused_later sizes later handed cause old synced same sync refused all is =
    subst (λ (z : Sizes). IsCauseIn z handed (stored_in z (front_of z all)) cause) same
    (refused all (sync.values ∙ is))

-- ---- calls behind the checks
copy_later : (stage : Stage) (one two : List ℕ) (size : ℕ) (old new : Device)
    (result : Result (Unit {0}) Failed) → CopyCall stage one two size old new result
    → old.faults ≤ new.faults
copy_later Begun one two size old new result call = call.cause.later
copy_later FirstWritten one two size old new result call = call.cause.later
copy_later FirstKept one two size old new result call = call.cause.later
copy_later SecondWritten one two size old new result call = call.cause.later
copy_later Ended one two size old new result call = absurd call

copy_rose : (stage : Stage) (one two : List ℕ) (size : ℕ) (old new : Device)
    → CopyCall stage one two size old new failed_call → Rose old.faults new.faults
copy_rose Begun one two size old new call = call.cause.failed refl
copy_rose FirstWritten one two size old new call = call.cause.failed refl
copy_rose FirstKept one two size old new call = call.cause.failed refl
copy_rose SecondWritten one two size old new call = call.cause.failed refl
copy_rose Ended one two size old new call = absurd call

step_later : {C : Type 0} (seals : Seals) (old new : Device) (before after : Mender C) (last : Bool)
    → Goes seals old new before after last → old.faults ≤ new.faults
step_later seals old new before after last (reads done by at call filled) = call.cause.later
step_later seals old new before after last (lays done by at call laid) = call.cause.later
step_later seals old new before after last (finds done at call filled) = call.cause.later
step_later seals old new before after last (writes done at again filled) = again.call.cause.later
step_later seals old new before after last (settles at call to) = call.cause.later
step_later seals old new before after last (moves commit at call on far to) =
    copy_later (stage_of_move before) _ _ _ old new _ call
step_later seals old new before after last (ends commit at call on is_last to) =
    copy_later (stage_of_move before) _ _ _ old new _ call

step_rose : {C : Type 0} (seals : Seals) (old new : Device) (before after : Mender C)
    → Fails seals old new before after → Rose old.faults new.faults
step_rose seals old new before after (read_fails done by at call failed) = call.cause.failed refl
step_rose seals old new before after (lay_fails done by at call failed) = call.cause.failed refl
step_rose seals old new before after (find_fails done at call failed) = call.cause.failed refl
step_rose seals old new before after (write_fails done at again failed) =
    again.call.cause.failed refl
step_rose seals old new before after (settle_fails at call failed) = call.cause.failed refl
step_rose seals old new before after (move_fails at call failed) =
    copy_rose (stage_of_move before) _ _ _ old new call

-- a run of steps: the count doesn't fall, and rose where the last one failed
abbrev RosesBy : Device → Device → Result Bool Failed → Type 0
RosesBy old new (Ok last) = old.faults ≤ new.faults
RosesBy old new (Err failed) = Rose old.faults new.faults

last_roses : {C : Type 0} (seals : Seals) (old at new : Device) (before after : Mender C)
    (result : Result Bool Failed) → old.faults ≤ at.faults → Steps seals at new before after result
    → RosesBy old new result
last_roses seals old at new before after (Ok last) came step =
    (let made = step_later seals at new before after last step in omega (arith, came, made))
last_roses seals old at new before after (Err failed) came step =
    rose_since old.faults at.faults new.faults came (step_rose seals at new before after step)

run_roses : {C : Type 0} (sealed opened : C → ℕ → List ℕ → List ℕ) (first : Mender C)
    (old : Device) (now : Mender C) (device : Device) (result : Result Bool Failed)
    → MendRun sealed opened first old now device result → RosesBy old device result
run_roses sealed opened first old now device result none = omega arith
run_roses sealed opened first old now device result
    (one_more before after at new answer run step tells) =
    last_roses (seals_in sealed opened before) old at new before after answer
    (run_roses sealed opened first old before at (Ok false) run) step

repair_later : (repair : Option Repair) (old new : Device) → RepairRun repair old new succeeded
    → old.faults ≤ new.faults
repair_later None old new run =
    subst (λ (d : Device). old.faults ≤ d.faults) (sym run) (omega arith)
repair_later (Some repair) old new run =
    let first = run.write.cause.later in
    let last = run.sync.cause.later in
    omega (arith, first, last)

-- so a device call failed behind the checks only where the count of faults rose
pub behind_checks : {C : Type 0} (sector : C → ℕ) (sealed opened : C → ℕ → List ℕ → List ℕ)
    (header : Stored)
    (keys : Keys C) (repair : Option Repair) (old new : Device) (cause : ConversionCause)
    → IsNotLedOn sector sealed opened header keys repair old new cause → HasCauseIn old new cause
behind_checks sector sealed opened header keys repair old new cause (unrepaired run by) =
    subst (λ (c : ConversionCause). HasCauseIn old new c) (sym by) (repair_rose repair old new run)
behind_checks sector sealed opened header keys repair old new cause (unmended mended run zone by) =
    subst (λ (c : ConversionCause). HasCauseIn old new c) (sym by)
    (rose_since old.faults mended.faults new.faults (repair_later repair old mended run)
    (run_roses sealed opened zone.before mended zone.after new (Err (record {})) zone.run))
behind_checks sector sealed opened header keys repair old new cause (unarmed mended run last leads by) =
    subst (λ (c : ConversionCause). HasCauseIn old new c) (sym by) tt
