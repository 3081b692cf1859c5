-- Why no conversion begins.
use Rattle.std.specs.Prelude.{ℕ, ◌≡◌, ◌-◌, ◌<◌, List, Some, None, IsSomeAnd}
use Rattle.base_terms.specs.declared.disk_sizes.Sizes.{Sizes}
use Rattle.luks_init.specs.Begins.{first_unready}
use Rattle.luks_init.specs.Metadata.{text_len, wish_for}
use Rattle.luks_init.specs.Places.{AreLowest, IsNoRoom}
use Rattle.luks_init.specs.declared.fault.InitFault.{InitFault}
use Rattle.luks_init.specs.declared.fault.InitFault.TheVariants as faults
use Rattle.luks_init.specs.declared.places.Places.{Places}
use Rattle.luks_init.specs.declared.wish.Wish.{Wish}
use Rattle.luks_meta.specs.declared.meta.Parts.{Parts}
use Rattle.luks_slots.specs.KeyMaking.Drawings.{Draw}
use Rattle.luks_rules.specs.Idles.{idle_of}
use Rattle.luks_rules.specs.declared.idle.Idle.{Idle}
use Rattle.reenc_meta.specs.Starts.{started}

-- The text of the metadata, with the areas at the lowest places, is longer than its area less one
-- byte.
pub record IsTooLong (m : Parts) (sizes : Sizes) (w : Wish) (d : Draw) (v : Idle) (p : Places)
    (len limit : ℕ) : Type 0 where
  pub places : AreLowest m sizes.atom w p
  pub text : len ≡ text_len (started sizes.atom (wish_for m.config sizes.atom w d p) m v)
  pub room : limit ≡ m.config.json_size - 1
  pub longer : limit < len

-- Why no conversion begins, the first cause: the volume or the passphrase, no room for an area, or
-- a text that is too long. Want of memory says nothing.
abbrev pub IsUnbegun : Parts → Sizes → Wish → List ℕ → Draw → InitFault → Type 0
IsUnbegun m sizes w pass d faults.Memory = Unit {0}
IsUnbegun m sizes w pass d faults.InProgress =
    first_unready m sizes pass ≡ Some faults.InProgress
IsUnbegun m sizes w pass d faults.Linear = first_unready m sizes pass ≡ Some faults.Linear
IsUnbegun m sizes w pass d (faults.Passphrase len) =
    first_unready m sizes pass ≡ Some (faults.Passphrase len)
IsUnbegun m sizes w pass d (faults.Area wanted gap) =
    (first_unready m sizes pass ≡ None) × IsNoRoom m sizes.atom w (faults.Area wanted gap)
IsUnbegun m sizes w pass d (faults.Json len limit) =
    (first_unready m sizes pass ≡ None)
    × IsSomeAnd (idle_of m sizes) (λ v. (p : Places) × IsTooLong m sizes w d v p len limit)
