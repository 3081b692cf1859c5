-- No refusal is fine.
use Rattle.std.proofs.Common.{◌≢◌, ℕ}
use Rattle.resume_disk.specs.declared.midway.fault.ConversionCause.{ConversionCause}
use Rattle.resume_disk.specs.declared.midway.fault.ConversionCause.TheVariants as conversions
use Rattle.luks_format.specs.declared.format_disk.fault.FormatFault.{FormatFault}
use Rattle.luks_format.specs.declared.format_disk.fault.FormatFault.TheVariants as formats
use Rattle.luks_init.specs.declared.fault.InitFault.{InitFault}
use Rattle.luks_init.specs.declared.fault.InitFault.TheVariants as inits
use Rattle.luks_init.specs.declared.init_disk.making.MakeFault.{MakeFault}
use Rattle.luks_init.specs.declared.init_disk.making.MakeFault.TheVariants as makings
use Rattle.luks_init.specs.declared.init_disk.refusal.Refusal.{Refusal as StartRefusal}
use Rattle.luks_init.specs.declared.init_disk.refusal.Refusal.TheVariants as starts
use Rattle.luks_rules.specs.declared.fault.RuleFault.{RuleFault}
use Rattle.luks_rules.specs.declared.fault.RuleFault.TheVariants as rules
use Rattle.luks_slots.specs.declared.fault.SlotFault.{SlotFault}
use Rattle.luks_slots.specs.declared.fault.SlotFault.TheVariants as slots
use Rattle.luks_store.specs.declared.fault.StoreFault.{StoreFault}
use Rattle.luks_store.specs.declared.fault.StoreFault.TheVariants as faults
use Rattle.reenc_recovery.specs.declared.fault.OpenCause.{OpenCause}
use Rattle.reenc_recovery.specs.declared.fault.OpenCause.TheVariants as openings
use Rattle.resume_disk.specs.declared.refusal.Refusal.{Refusal as ResumeRefusal}
use Rattle.resume_disk.specs.declared.refusal.Refusal.TheVariants as resumes
use Rattle.volume_opening.specs.declared.refusal.Refusal.{Refusal}
use Rattle.volume_opening.specs.declared.refusal.Refusal.TheVariants as refusals
use Rattle.reenc_tool.specs.declared.ended.Cause.TheVariants.{Fine}
use Rattle.reenc_tool.specs.Status.{cause_of_conversion, cause_of_format, cause_of_init}
use Rattle.reenc_tool.specs.Status.{cause_of_making, cause_of_refusal, cause_of_resume, cause_of_rule}
use Rattle.reenc_tool.specs.Status.{cause_of_slots, cause_of_start, cause_of_store, cause_of_volume}

unfine_rule : (rule : RuleFault) → cause_of_rule rule ≢ Fine
unfine_rule (rules.Foreign text) fine = cc
unfine_rule rules.AreaBounds fine = cc
unfine_rule rules.AreaOverlap fine = cc
unfine_rule rules.DigestRef fine = cc
unfine_rule rules.SegmentGap fine = cc
unfine_rule rules.SectorSize fine = cc
unfine_rule rules.NotAtomMultiple fine = cc
unfine_rule rules.TweakRange fine = cc
unfine_rule rules.ReencryptShape fine = cc
unfine_rule rules.ResilTooSmall fine = cc
unfine_rule rules.ShiftRoom fine = cc

unfine_store : (fault : StoreFault) (count : ℕ) → cause_of_store fault count ≢ Fine
unfine_store faults.Memory count fine = cc
unfine_store faults.Device count fine = cc
unfine_store (faults.NoHeader primary secondary) count fine = cc
unfine_store (faults.CopiesDiffer seqid place) count fine = cc
unfine_store (faults.Json fault) count fine = cc
unfine_store (faults.Rule rule) count fine = unfine_rule rule fine

unfine_slots : (fault : SlotFault) (count : ℕ) → cause_of_slots fault count ≢ Fine
unfine_slots slots.Memory count fine = cc
unfine_slots slots.Device count fine = cc
unfine_slots (slots.NoKey list) count fine = cc
unfine_slots (slots.NoRoom wanted gap) count fine = cc

unfine_volume : (cause : OpenCause) (count : ℕ) → cause_of_volume cause count ≢ Fine
unfine_volume openings.Memory count fine = cc
unfine_volume openings.Device count fine = cc
unfine_volume (openings.NoHeader primary secondary) count fine = cc
unfine_volume (openings.CopiesDiffer seqid place) count fine = cc
unfine_volume (openings.Json fault) count fine = cc
unfine_volume (openings.Rule rule) count fine = unfine_rule rule fine
unfine_volume openings.InProgress count fine = cc
unfine_volume (openings.KeyDiffers computed stored) count fine = cc

pub unfine_refusal : (refusal : Refusal) (count : ℕ) → cause_of_refusal refusal count ≢ Fine
unfine_refusal (refusals.Header fault) count fine = unfine_store fault count fine
unfine_refusal refusals.InProgress count fine = cc
unfine_refusal (refusals.Passphrase length) count fine = cc
unfine_refusal (refusals.Slots fault) count fine = unfine_slots fault count fine
unfine_refusal (refusals.Opening cause) count fine = unfine_volume cause count fine

pub unfine_format : (fault : FormatFault) → cause_of_format fault ≢ Fine
unfine_format formats.Memory fine = cc
unfine_format (formats.Area wanted gap) fine = cc
unfine_format (formats.Json len limit) fine = cc
unfine_format (formats.Passphrase len) fine = cc
unfine_format formats.Blocks fine = cc

unfine_init : (fault : InitFault) → cause_of_init fault ≢ Fine
unfine_init inits.Memory fine = cc
unfine_init inits.InProgress fine = cc
unfine_init inits.Linear fine = cc
unfine_init (inits.Passphrase len) fine = cc
unfine_init (inits.Area wanted gap) fine = cc
unfine_init (inits.Json len limit) fine = cc

unfine_making : (fault : MakeFault) → cause_of_making fault ≢ Fine
unfine_making (makings.Unready fault) fine = unfine_init fault fine
unfine_making (makings.SeqEnd number) fine = cc

pub unfine_start : (refusal : StartRefusal) (count : ℕ) → cause_of_start refusal count ≢ Fine
unfine_start (starts.Unopened refusal) count fine = unfine_refusal refusal count fine
unfine_start starts.Linear count fine = cc
unfine_start starts.Memory count fine = cc
unfine_start (starts.Keyslots list) count fine = cc
unfine_start (starts.Tail bytes) count fine = cc
unfine_start (starts.Unmade fault) count fine = unfine_making fault fine
unfine_start starts.Writing count fine = cc

unfine_conversion : (cause : ConversionCause) (count : ℕ) → cause_of_conversion cause count ≢ Fine
unfine_conversion (conversions.Opening cause) count fine = unfine_volume cause count fine
unfine_conversion conversions.Idle count fine = cc
unfine_conversion conversions.NotBuilt count fine = cc
unfine_conversion (conversions.SeqEnd left wanted) count fine = cc
unfine_conversion (conversions.JsonFull length limit) count fine = cc

pub unfine_resume : (refusal : ResumeRefusal) (count : ℕ) → cause_of_resume refusal count ≢ Fine
unfine_resume (resumes.Header fault) count fine = unfine_store fault count fine
unfine_resume resumes.Idle count fine = cc
unfine_resume (resumes.Passphrase length) count fine = cc
unfine_resume (resumes.Slots side fault) count fine = unfine_slots fault count fine
unfine_resume (resumes.Tail bytes) count fine = cc
unfine_resume (resumes.Unopened cause) count fine = unfine_conversion cause count fine
