-- What is known of a disk once its header was read and its keyslots were tried, before a conversion
-- of its volume is begun.
use Rattle.std.specs.Prelude.{ℕ, ◌≡◌, not, Bool, true, false, List, Option, Some, None, Ok}
use Rattle.std.specs.Prelude.{is_some}
use Rattle.header_report.specs.Examinations.{sizes_alone}
use Rattle.luks_init.specs.declared.init_disk.refusal.Refusal.{Refusal}
use Rattle.luks_init.specs.declared.init_disk.refusal.Refusal.TheVariants as refusals
use Rattle.luks_rules.specs.Idles.{idle_of}
use Rattle.luks_rules.specs.declared.idle.Idle.{Idle}
use Rattle.luks_store.specs.Devices.{KeepsBytes}
use Rattle.luks_store.specs.Loads.{stored_in}
use Rattle.luks_store.specs.declared.loaded.Stored.{Stored}
use Rattle.sector_disk.specs.Devices.{Device}
use Rattle.volume_opening.specs.Openings.{IsFound, IsUnderKey}
use Rattle.volume_opening.specs.Refusals.{IsUnopenedBy}
use Rattle.volume_opening.specs.declared.refusal.Refusal.{Refusal as Unopened}
use Rattle.volume_opening.specs.declared.refusal.Refusal.TheVariants as openings

-- whether a volume of which nothing is being converted isn't encrypted
abbrev pub linear_by : Option Idle → Bool
linear_by None = false
linear_by (Some v) = not (is_some v.segment.encryption)

abbrev pub is_linear : Stored → Bool
is_linear stored = linear_by (idle_of stored.valid.meta stored.valid.sizes)

-- The header was read, by which the volume is encrypted and nothing is being converted, and its
-- keyslots gave a key to the passphrase; nothing was written meanwhile.
pub record IsUnlockedOn (device : Device) (pass : List ℕ) (key : Option (List ℕ)) (read : Device) :
    Type 0 where
  pub unwritten : KeepsBytes device read
  pub stored : Stored
  pub encrypted : is_linear stored ≡ false
  pub under : IsUnderKey device stored pass key

-- the disk was only read: by its header the volume isn't encrypted
pub record IsLinearOn (old new : Device) : Type 0 where
  pub read : KeepsBytes old new
  pub stored : Stored
  pub found : IsFound old stored
  pub linear : is_linear stored ≡ true

-- What a disk holds, where it tells it, isn't a volume that isn't encrypted: that is told before all
-- else but the header's own faults.
abbrev pub IsNotLinear : Device → Unopened → Type 0
IsNotLinear device (openings.Header fault) = Unit {0}
IsNotLinear device refusal = (first : List ℕ) (stored : Stored) → device.values ≡ Some first
    → stored_in (sizes_alone device) first ≡ Ok stored → is_linear stored ≡ false

-- why no key was found on a disk, which was only read
abbrev pub IsLockedBy : {D : Type 0} → (D → Device) → D → List ℕ → Refusal → D → Type 0
IsLockedBy device disk pass (refusals.Unopened (openings.Opening cause)) back = ⊥
IsLockedBy device disk pass (refusals.Unopened refusal) back =
    IsUnopenedBy device disk pass refusal None back × IsNotLinear (device disk) refusal
IsLockedBy device disk pass refusals.Linear back = IsLinearOn (device disk) (device back)
IsLockedBy device disk pass refusals.Memory back = ⊥
IsLockedBy device disk pass (refusals.Keyslots list) back = ⊥
IsLockedBy device disk pass (refusals.Tail bytes) back = ⊥
IsLockedBy device disk pass (refusals.Unmade fault) back = ⊥
IsLockedBy device disk pass refusals.Writing back = ⊥
