-- Why a volume that is being converted isn't opened.
use Rattle.std.specs.Prelude.{◌≡◌, ◌<◌, Some, false, Result, Ok}
use Rattle.resume_disk.specs.OpenedMidway.Sides.{IsNoSide}
use Rattle.resume_disk.specs.declared.midway.fault.ConversionCause.{ConversionCause}
use Rattle.resume_disk.specs.declared.midway.fault.ConversionCause.TheVariants as causes
use Rattle.base_terms.specs.declared.disk_sizes.Sizes.{Sizes}
use Rattle.hotzone.specs.Sites.{IsSaved}
use Rattle.luks_meta.specs.declared.meta.Parts.{Parts}
use Rattle.luks_rules.specs.Segments.{in_progress}
use Rattle.luks_rules.specs.Shapes.{progress_of}
use Rattle.luks_rules.specs.declared.shape.Progress.{Progress}
use Rattle.luks_store.specs.Used.{Refusal}
use Rattle.luks_store.specs.declared.loaded.Stored.{Stored}
use Rattle.reenc_recovery.specs.Causes.{HasCauseIn as HasOpeningCause}
use Rattle.reenc_recovery.specs.Causes.{IsCauseIn as IsOpeningCause}
use Rattle.reenc_recovery.specs.Keys.{IsKeyOf, used_by}
use Rattle.reenc_recovery.specs.declared.fault.OpenCause.{OpenCause}
use Rattle.reenc_recovery.specs.declared.fault.OpenCause.TheVariants as openings
use Rattle.reenc_recovery.specs.declared.keys.SideKeys.{SideKeys}
use Rattle.sector_disk.specs.Devices.{Device}
use Rattle.zone_mending.specs.OpenZones.{IsNotMade}
use Rattle.zone_mending.specs.declared.mender.MendFault.{MendFault}
use Rattle.zone_mending.specs.declared.mender.MendFault.TheVariants as mendings

-- memory was wanted; a device call failed
abbrev pub no_memory : ConversionCause
no_memory = causes.Opening openings.Memory

abbrev pub device_failed : ConversionCause
device_failed = causes.Opening openings.Device

-- why a zone isn't begun to be written again, as a cause of an opening
abbrev pub cause_of : MendFault → ConversionCause
cause_of (mendings.SeqEnd left wanted) = causes.SeqEnd left wanted
cause_of (mendings.JsonFull length limit) = causes.JsonFull length limit
cause_of mendings.Memory = no_memory

-- ---- why metadata are led on by no keys
-- a conversion is under way that may be led on, and the keys that were handed in for its sides are
-- those of their segments' digests
pub record HasSides (m : Parts) (sizes : Sizes) (handed : SideKeys) (now : Progress) : Type 0 where
  pub known : progress_of m sizes ≡ Some now
  pub guarded : IsSaved now.conversion.resilience
  pub old_key : IsKeyOf m now.old (used_by now.old.encryption handed.old)
  pub new_key : IsKeyOf m now.new (used_by now.new.encryption handed.new)

-- Nothing is being converted; or nothing is saved of the blocks of zones; or a key isn't that of its
-- segment's digest.
abbrev pub IsNotLed : Parts → Sizes → SideKeys → ConversionCause → Type 0
IsNotLed m sizes handed causes.Idle = in_progress m.config ≡ false
IsNotLed m sizes handed causes.NotBuilt =
    (now : Progress) × (progress_of m sizes ≡ Some now)
    × (IsSaved now.conversion.resilience → ⊥)
IsNotLed m sizes handed (causes.Opening cause) =
    (now : Progress) × (progress_of m sizes ≡ Some now) × IsSaved now.conversion.resilience
    × IsNoSide m now handed cause
IsNotLed m sizes handed _ = ⊥

-- a zone is open by a header, which else may be led on, and the one with the boundary moved over it
-- can't be made
abbrev pub IsNotMoved : Sizes → SideKeys → Stored → MendFault → Type 0
IsNotMoved sizes handed stored fault =
    (now : Progress) × HasSides stored.valid.meta sizes handed now × (0 < now.plan.zone)
    × IsNotMade stored fault

-- ---- why disks whose bytes hold this header, or none, open no volume; want of memory and a device
-- call that failed say nothing
abbrev pub IsOpeningCauseIn : Sizes → SideKeys → Result Stored Refusal → OpenCause → Type 0
IsOpeningCauseIn sizes handed held openings.InProgress = ⊥
IsOpeningCauseIn sizes handed held (openings.KeyDiffers computed digest) =
    (stored : Stored) × (held ≡ Ok stored)
    × IsNotLed stored.valid.meta sizes handed (causes.Opening (openings.KeyDiffers computed digest))
IsOpeningCauseIn sizes handed held cause = IsOpeningCause sizes handed.new held cause

abbrev pub IsCauseIn : Sizes → SideKeys → Result Stored Refusal → ConversionCause → Type 0
IsCauseIn sizes handed held (causes.Opening cause) = IsOpeningCauseIn sizes handed held cause
IsCauseIn sizes handed held causes.Idle =
    (stored : Stored) × (held ≡ Ok stored) × IsNotLed stored.valid.meta sizes handed causes.Idle
IsCauseIn sizes handed held causes.NotBuilt =
    (stored : Stored) × (held ≡ Ok stored)
    × IsNotLed stored.valid.meta sizes handed causes.NotBuilt
IsCauseIn sizes handed held (causes.SeqEnd left wanted) =
    (stored : Stored) × (held ≡ Ok stored)
    × IsNotMoved sizes handed stored (mendings.SeqEnd left wanted)
IsCauseIn sizes handed held (causes.JsonFull length limit) =
    (stored : Stored) × (held ≡ Ok stored)
    × IsNotMoved sizes handed stored (mendings.JsonFull length limit)

-- a device call failed only where the count of the disk's faults rose
abbrev pub HasCauseIn : Device → Device → ConversionCause → Type 0
HasCauseIn old new (causes.Opening cause) = HasOpeningCause old new cause
HasCauseIn old new _ = Unit {0}
