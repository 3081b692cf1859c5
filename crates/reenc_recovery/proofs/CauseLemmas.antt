-- Why a volume isn't opened, cause by cause.
use Rattle.std.proofs.Common.{ℕ, List, Option}
use Rattle.base_terms.specs.declared.disk_sizes.Sizes.{Sizes}
use Rattle.luks_meta.specs.declared.meta.Parts.{Parts}
use Rattle.reenc_meta.specs.Placements.{IsPlacementOf}
use Rattle.reenc_meta.specs.declared.placement.Placement.{Placement}
use Rattle.reenc_recovery.specs.Causes.{IsNoKey, IsRefusedVolume}
use Rattle.reenc_recovery.specs.declared.fault.OpenCause.{OpenCause}
use Rattle.reenc_recovery.specs.declared.fault.OpenCause.TheVariants as causes

-- a key that isn't its segment's refuses the volume
pub refused_volume : (m : Parts) (sizes : Sizes) (key : Option (List ℕ)) (p : Placement)
    (cause : OpenCause) → IsPlacementOf m sizes p → IsNoKey m p.new key cause
    → IsRefusedVolume m sizes key cause
refused_volume m sizes key p causes.Memory placed refusal = (p, placed, refusal)
refused_volume m sizes key p causes.Device placed refusal = absurd refusal
refused_volume m sizes key p (causes.NoHeader primary secondary) placed refusal = absurd refusal
refused_volume m sizes key p (causes.CopiesDiffer seqid place) placed refusal = absurd refusal
refused_volume m sizes key p (causes.Json fault) placed refusal = absurd refusal
refused_volume m sizes key p (causes.Rule fault) placed refusal = absurd refusal
refused_volume m sizes key p causes.InProgress placed refusal = absurd refusal
refused_volume m sizes key p (causes.KeyDiffers computed stored) placed refusal =
    (p, placed, refusal)
