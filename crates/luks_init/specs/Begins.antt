-- What a conversion begins with.
use Rattle.std.specs.Prelude.{ℕ, ◌≡◌, ◌-◌, ◌≤◌, ◌||◌, nat_lt, not, List, length, Option, Some, None}
use Rattle.std.specs.Prelude.{is_some, IsSome, IsSomeAnd, if◌then◌else◌}
use Rattle.base_terms.specs.declared.disk_sizes.Sizes.{Sizes}
use Rattle.luks_init.specs.Metadata.{HasBegun, text_len}
use Rattle.luks_init.specs.Places.{AreLowest}
use Rattle.luks_init.specs.declared.beginning.Begun.{Begun}
use Rattle.luks_init.specs.declared.fault.InitFault.{InitFault}
use Rattle.luks_init.specs.declared.fault.InitFault.TheVariants as faults
use Rattle.luks_init.specs.declared.wish.Wish.{Wish}
use Rattle.luks_meta.specs.declared.meta.Parts.{Parts}
use Rattle.luks_slots.specs.KeyMaking.Drawings.{Draw}
use Rattle.luks_rules.specs.Idles.{idle_of}
use Rattle.luks_rules.specs.declared.idle.Idle.{Idle}
use Rattle.luks_slots.specs.NewSlots.{IsSlotAt}

-- the most bytes of a passphrase
abbrev pub most_passphrase : ℕ
most_passphrase = 512

-- Why no conversion can begin, whatever room there is: one is under way, the volume isn't
-- encrypted, or the passphrase doesn't have 1 to 512 bytes.
unfoldable pub unready_by : Option Idle → List ℕ → Option InitFault
unready_by None pass = Some faults.InProgress
unready_by (Some v) pass =
    if not (is_some v.segment.encryption) then Some faults.Linear
    else (if nat_lt (length pass) 1 || nat_lt most_passphrase (length pass)
    then Some (faults.Passphrase (length pass)) else None)

abbrev pub first_unready : Parts → Sizes → List ℕ → Option InitFault
first_unready m sizes pass = unready_by (idle_of m sizes) pass

-- nothing of the volume is being converted, and its segment is encrypted
abbrev pub MayBegin : Option Idle → Type 0
MayBegin volume = IsSomeAnd volume (λ v. IsSome v.segment.encryption)

-- The areas lie at the lowest places. The keyslot is one that the passphrase opens to the key that
-- is drawn, in its area's place; the metadata are those of a conversion of which nothing is done;
-- and their text fits its area, with a byte to spare.
pub record IsBegun (m : Parts) (sizes : Sizes) (w : Wish) (pass : List ℕ) (d : Draw) (b : Begun)
    : Type 0 where
  pub ready : first_unready m sizes pass ≡ None
  pub places : AreLowest m sizes.atom w b.places
  pub slot : IsSlotAt b.places.key sizes.atom pass w.iterations d.key d.slot b.slot
  pub meta : HasBegun m sizes w d b.places b.meta
  pub text : text_len b.meta ≤ m.config.json_size - 1
