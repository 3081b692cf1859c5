-- What cuts an opening short: memory was wanted, or a device call failed.
use Rattle.std.specs.Prelude.{Err}
use Rattle.luks_slots.specs.Unlocks.{IsCutShort}
use Rattle.luks_store.specs.declared.fault.StoreFault.{StoreFault}
use Rattle.luks_store.specs.declared.fault.StoreFault.TheVariants as faults
use Rattle.reenc_recovery.specs.declared.fault.OpenCause.{OpenCause}
use Rattle.reenc_recovery.specs.declared.fault.OpenCause.TheVariants as causes
use Rattle.volume_opening.specs.declared.refusal.Refusal.{Refusal}
use Rattle.volume_opening.specs.declared.refusal.Refusal.TheVariants as refusals

-- while the header was read
abbrev pub IsUnread : StoreFault → Type 0
IsUnread faults.Memory = Unit {0}
IsUnread faults.Device = Unit {0}
IsUnread _ = ⊥

-- while the volume was opened under the header and a key
abbrev pub IsShort : OpenCause → Type 0
IsShort causes.Memory = Unit {0}
IsShort causes.Device = Unit {0}
IsShort _ = ⊥

-- at one of these, or while the keyslots were tried
abbrev pub IsShortOf : Refusal → Type 0
IsShortOf (refusals.Header fault) = IsUnread fault
IsShortOf (refusals.Slots fault) = IsCutShort (Err fault)
IsShortOf (refusals.Opening cause) = IsShort cause
IsShortOf _ = ⊥
