-- Why a volume isn't opened.
use Rattle.std.specs.Prelude.{◌≡◌, ℕ, List, Option, true, Result, Ok, Err}
use Rattle.base_terms.specs.Causes.{Rose}
use Rattle.base_terms.specs.declared.disk_sizes.Sizes.{Sizes}
use Rattle.luks_meta.specs.declared.digest.Digest.{Digest}
use Rattle.luks_meta.specs.declared.meta.Parts.{Parts}
use Rattle.luks_rules.specs.Segments.{in_progress}
use Rattle.luks_rules.specs.declared.extents.Extent.{Extent}
use Rattle.luks_bin.specs.Shares.{DifferFirst}
use Rattle.luks_store.specs.Used.{Refusal, differ, no_header, rule, text}
use Rattle.luks_store.specs.declared.fault.StoreFault.{StoreFault}
use Rattle.luks_store.specs.declared.fault.StoreFault.TheVariants as faults
use Rattle.luks_store.specs.declared.loaded.Stored.{Stored}
use Rattle.reenc_meta.specs.Placements.{IsPlacementOf}
use Rattle.reenc_meta.specs.declared.placement.Placement.{Placement}
use Rattle.reenc_recovery.specs.Keys.{Differs, IsComputed}
use Rattle.reenc_recovery.specs.declared.fault.OpenCause.{OpenCause}
use Rattle.reenc_recovery.specs.declared.fault.OpenCause.TheVariants as causes
use Rattle.sector_cipher.specs.declared.spec.Spec.{Spec}
use Rattle.sector_disk.specs.Devices.{Device}

-- why no header is loaded, as a cause of an opening
abbrev pub cause_of : StoreFault → OpenCause
cause_of faults.Memory = causes.Memory
cause_of faults.Device = causes.Device
cause_of (faults.NoHeader primary secondary) = causes.NoHeader primary secondary
cause_of (faults.CopiesDiffer seqid place) = causes.CopiesDiffer seqid place
cause_of (faults.Json fault) = causes.Json fault
cause_of (faults.Rule fault) = causes.Rule fault

-- why a key isn't taken as that of a digest, for a cipher; want of memory says nothing
abbrev pub IsRefused : Digest → Spec → Option (List ℕ) → OpenCause → Type 0
IsRefused d spec key causes.Memory = Unit {0}
IsRefused d spec key (causes.KeyDiffers computed stored) =
    (stored ≡ d.digest) × IsComputed d spec key computed
IsRefused d spec key _ = ⊥

-- why it isn't taken as that of a segment
abbrev pub IsNoKey : Parts → Extent → Option (List ℕ) → OpenCause → Type 0
IsNoKey m e key causes.Memory = Unit {0}
IsNoKey m e key (causes.KeyDiffers computed stored) = Differs m e key computed stored
IsNoKey m e key _ = ⊥

-- why a header that breaks no rule opens no volume: a conversion is under way, or the key isn't the
-- one of its segment's digest
abbrev pub IsRefusedVolume : Parts → Sizes → Option (List ℕ) → OpenCause → Type 0
IsRefusedVolume m sizes key causes.InProgress = in_progress m.config ≡ true
IsRefusedVolume m sizes key cause =
    (p : Placement) × IsPlacementOf m sizes p × IsNoKey m p.new key cause

-- Why disks whose bytes hold this header, or none, open no volume under a key; want of memory and a
-- device call that failed say nothing.
abbrev pub IsCauseIn : Sizes → Option (List ℕ) → Result Stored Refusal → OpenCause → Type 0
IsCauseIn sizes key held causes.Memory = Unit {0}
IsCauseIn sizes key held causes.Device = Unit {0}
IsCauseIn sizes key held (causes.NoHeader primary secondary) =
    held ≡ Err (no_header primary secondary)
IsCauseIn sizes key held (causes.CopiesDiffer seqid place) =
    (a : List ℕ) × (b : List ℕ) × (held ≡ Err (differ seqid a b)) × DifferFirst a b place
IsCauseIn sizes key held (causes.Json fault) = held ≡ Err (text fault)
IsCauseIn sizes key held (causes.Rule fault) = held ≡ Err (rule fault)
IsCauseIn sizes key held causes.InProgress =
    (stored : Stored) × (held ≡ Ok stored) × (in_progress stored.valid.meta.config ≡ true)
IsCauseIn sizes key held (causes.KeyDiffers computed digest) =
    (stored : Stored) × (held ≡ Ok stored)
    × IsRefusedVolume stored.valid.meta sizes key (causes.KeyDiffers computed digest)

-- a device call failed only where the count of the disk's faults rose
abbrev pub HasCauseIn : Device → Device → OpenCause → Type 0
HasCauseIn old new causes.Device = Rose old.faults new.faults
HasCauseIn old new _ = Unit {0}
