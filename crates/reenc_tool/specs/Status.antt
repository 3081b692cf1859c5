-- The exit statuses of a command.
use Rattle.std.specs.Prelude.{ℕ, ◌-◌, ◌^◌, ◌==◌, if◌then◌else◌}
use Rattle.reenc_tool.specs.declared.ended.Cause.{Cause}
use Rattle.reenc_tool.specs.declared.ended.Cause.TheVariants.{Fine, Usage, Device, NoHeader}
use Rattle.reenc_tool.specs.declared.ended.Cause.TheVariants.{Header, NoKey, WrongState, Foreign}
use Rattle.reenc_tool.specs.declared.ended.Cause.TheVariants.{NoFit, Clash, Link, Output, Seeds}
use Rattle.reenc_tool.specs.declared.ended.Cause.TheVariants.{Memory, Keyslots}
use Rattle.reenc_tool.specs.declared.ended.Failing.TheVariants.{Reading, Starting, Writing}
use Rattle.reenc_tool.specs.declared.ended.Failing.TheVariants.{Converting}
use Rattle.reenc_tool.specs.declared.ended.Fit.TheVariants.{Area, Blocks, Json, Passphrase, Seqid}
use Rattle.reenc_tool.specs.declared.ended.Fit.TheVariants.{Events, Numbers, Tail}
use Rattle.resume_disk.specs.declared.midway.fault.ConversionCause.{ConversionCause}
use Rattle.resume_disk.specs.declared.midway.fault.ConversionCause.TheVariants as conversions
use Rattle.luks_format.specs.declared.format_disk.fault.FormatFault.{FormatFault}
use Rattle.luks_format.specs.declared.format_disk.fault.FormatFault.TheVariants as formats
use Rattle.luks_init.specs.declared.init_disk.making.MakeFault.{MakeFault}
use Rattle.luks_init.specs.declared.init_disk.making.MakeFault.TheVariants as makings
use Rattle.luks_init.specs.declared.init_disk.refusal.Refusal.{Refusal as StartRefusal}
use Rattle.luks_init.specs.declared.init_disk.refusal.Refusal.TheVariants as starts
use Rattle.luks_init.specs.declared.fault.InitFault.{InitFault}
use Rattle.luks_init.specs.declared.fault.InitFault.TheVariants as inits
use Rattle.reenc_recovery.specs.declared.fault.OpenCause.{OpenCause}
use Rattle.reenc_recovery.specs.declared.fault.OpenCause.TheVariants as openings
use Rattle.reenc_worker.specs.declared.ends.NoFit.{NoFit as Unfit}
use Rattle.reenc_worker.specs.declared.ends.NoFit.TheVariants as unfits
use Rattle.reenc_worker.specs.declared.ends.WorkerEnd.{WorkerEnd}
use Rattle.reenc_worker.specs.declared.ends.WorkerEnd.TheVariants as ends
use Rattle.resume_disk.specs.declared.refusal.Refusal.{Refusal as ResumeRefusal}
use Rattle.resume_disk.specs.declared.refusal.Refusal.TheVariants as resumes
use Rattle.luks_slots.specs.declared.fault.SlotFault.{SlotFault}
use Rattle.luks_slots.specs.declared.fault.SlotFault.TheVariants as slots
use Rattle.luks_rules.specs.declared.fault.RuleFault.{RuleFault}
use Rattle.luks_rules.specs.declared.fault.RuleFault.TheVariants as rules
use Rattle.luks_store.specs.declared.fault.StoreFault.{StoreFault}
use Rattle.luks_store.specs.declared.fault.StoreFault.TheVariants as faults
use Rattle.volume_opening.specs.declared.refusal.Refusal.{Refusal}
use Rattle.volume_opening.specs.declared.refusal.Refusal.TheVariants as refusals

abbrev pub status_of : Cause → ℕ
status_of Fine = 0
status_of (Usage words) = 1
status_of (Device failing faults) = 2
status_of NoHeader = 3
status_of Header = 4
status_of NoKey = 5
status_of WrongState = 6
status_of Foreign = 7
status_of (NoFit what number limit) = 8
status_of (Clash block digest) = 9
status_of (Link failed faults) = 10
status_of (Output faults) = 11
status_of (Seeds faults) = 12
status_of Memory = 13
status_of Keyslots = 15

-- the cause of a command whose header wasn't read: another program's header has one of its own
abbrev pub cause_of_rule : RuleFault → Cause
cause_of_rule (rules.Foreign text) = Foreign
cause_of_rule _ = Header

-- of a disk so many calls failed
abbrev pub cause_of_store : StoreFault → ℕ → Cause
cause_of_store faults.Memory count = Memory
cause_of_store faults.Device count = Device Reading count
cause_of_store (faults.NoHeader primary secondary) count = NoHeader
cause_of_store (faults.CopiesDiffer seqid place) count = Header
cause_of_store (faults.Json fault) count = Header
cause_of_store (faults.Rule rule) count = cause_of_rule rule

-- the cause of a command that was given no key by the keyslots
abbrev pub cause_of_slots : SlotFault → ℕ → Cause
cause_of_slots slots.Memory count = Memory
cause_of_slots slots.Device count = Device Reading count
cause_of_slots (slots.NoKey list) count = NoKey
cause_of_slots (slots.NoRoom wanted gap) count = NoKey

-- the cause of a command that was given no volume by the header and a key
abbrev pub cause_of_volume : OpenCause → ℕ → Cause
cause_of_volume openings.Memory count = Memory
cause_of_volume openings.Device count = Device Starting count
cause_of_volume (openings.NoHeader primary secondary) count = NoHeader
cause_of_volume (openings.CopiesDiffer seqid place) count = Header
cause_of_volume (openings.Json fault) count = Header
cause_of_volume (openings.Rule rule) count = cause_of_rule rule
cause_of_volume openings.InProgress count = WrongState
cause_of_volume (openings.KeyDiffers computed stored) count = NoKey

-- how many bytes a passphrase of none, or of too many, is to have at least, or at most
abbrev pub passphrase_limit : ℕ → ℕ
passphrase_limit length = if length == 0 then 1 else 512

-- the cause of a command that opened no volume
abbrev pub cause_of_refusal : Refusal → ℕ → Cause
cause_of_refusal (refusals.Header fault) count = cause_of_store fault count
cause_of_refusal refusals.InProgress count = WrongState
cause_of_refusal (refusals.Passphrase length) count =
    NoFit Passphrase length (passphrase_limit length)
cause_of_refusal (refusals.Slots fault) count = cause_of_slots fault count
cause_of_refusal (refusals.Opening cause) count = cause_of_volume cause count

-- the cause of a command that made no volume
abbrev pub cause_of_format : FormatFault → Cause
cause_of_format formats.Memory = Memory
cause_of_format (formats.Area wanted gap) = NoFit Area wanted gap
cause_of_format (formats.Json len limit) = NoFit Json len limit
cause_of_format (formats.Passphrase len) = NoFit Passphrase len (passphrase_limit len)
cause_of_format formats.Blocks = NoFit Blocks 0 1

-- the cause of a command that can begin no conversion
abbrev pub cause_of_init : InitFault → Cause
cause_of_init inits.Memory = Memory
cause_of_init inits.InProgress = WrongState
cause_of_init inits.Linear = WrongState
cause_of_init (inits.Passphrase len) = NoFit Passphrase len (passphrase_limit len)
cause_of_init (inits.Area wanted gap) = NoFit Area wanted gap
cause_of_init (inits.Json len limit) = NoFit Json len limit

-- the cause of a command that could not make what a conversion begins with: a header may have any
-- number but the last one for another to follow
abbrev pub cause_of_making : MakeFault → Cause
cause_of_making (makings.Unready fault) = cause_of_init fault
cause_of_making (makings.SeqEnd number) = NoFit Seqid number (2 ^ 64 - 2)

-- the cause of a command that began no conversion
abbrev pub cause_of_start : StartRefusal → ℕ → Cause
cause_of_start (starts.Unopened refusal) count = cause_of_refusal refusal count
cause_of_start starts.Linear count = WrongState
cause_of_start starts.Memory count = Memory
cause_of_start (starts.Keyslots list) count = Keyslots
cause_of_start (starts.Tail bytes) count = NoFit Tail bytes 0
cause_of_start (starts.Unmade fault) count = cause_of_making fault
cause_of_start starts.Writing count = Device Writing count

-- the cause of a command that was given no volume by the header and the keys of a conversion. Where
-- a zone is open another header is to follow, which takes a number; one whose blocks are shifted isn't
-- led on yet.
abbrev pub cause_of_conversion : ConversionCause → ℕ → Cause
cause_of_conversion (conversions.Opening cause) count = cause_of_volume cause count
cause_of_conversion conversions.Idle count = WrongState
cause_of_conversion conversions.NotBuilt count = WrongState
cause_of_conversion (conversions.SeqEnd left wanted) count = NoFit Numbers wanted left
cause_of_conversion (conversions.JsonFull length limit) count = NoFit Json length limit

-- the cause of a command that opened no volume of which a conversion is under way
abbrev pub cause_of_resume : ResumeRefusal → ℕ → Cause
cause_of_resume (resumes.Header fault) count = cause_of_store fault count
cause_of_resume resumes.Idle count = WrongState
cause_of_resume (resumes.Passphrase length) count =
    NoFit Passphrase length (passphrase_limit length)
cause_of_resume (resumes.Slots side fault) count = cause_of_slots fault count
cause_of_resume (resumes.Tail bytes) count = NoFit Tail bytes 0
cause_of_resume (resumes.Unopened cause) count = cause_of_conversion cause count

-- what a zone needs, or the end of a conversion, and doesn't have: numbers for the headers that are
-- to follow, or room for their text
abbrev pub cause_of_unfit : Unfit → Cause
cause_of_unfit (unfits.SeqEnd left wanted) = NoFit Numbers wanted left
cause_of_unfit (unfits.JsonFull length limit) = NoFit Json length limit

-- the cause of a command whose conversion's worker ended so
abbrev pub cause_of_end : WorkerEnd → ℕ → Cause
cause_of_end ends.Finished count = Fine
cause_of_end ends.Device count = Device Converting count
cause_of_end (ends.Clash block digest) count = Clash block digest
cause_of_end (ends.NoFit unfit) count = cause_of_unfit unfit
cause_of_end ends.Broken count = Device Converting count
cause_of_end ends.Spent count = NoFit Events (2 ^ 64 - 1) (2 ^ 64 - 2)
cause_of_end ends.Memory count = Memory
