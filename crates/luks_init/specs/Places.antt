-- Where the areas of a conversion lie.
use Rattle.std.specs.Prelude.{ℕ, ◌⊎◌, List, [], ◌∷◌}
use Rattle.luks_init.specs.Wishes.{guard_len}
use Rattle.luks_init.specs.declared.fault.InitFault.{InitFault}
use Rattle.luks_init.specs.declared.fault.InitFault.TheVariants as faults
use Rattle.luks_init.specs.declared.places.Places.{Places}
use Rattle.luks_init.specs.declared.wish.Wish.{Wish}
use Rattle.luks_meta.specs.declared.meta.Parts.{Parts}
use Rattle.luks_rules.specs.declared.areas.Area.{Area}
use Rattle.luks_slots.specs.Gaps.{IsGapFault, IsLowest}
use Rattle.luks_slots.specs.NewSlots.{area_len}
use Rattle.luks_slots.specs.declared.fault.SlotFault.TheVariants.{NoRoom}

-- the new keyslot's area, from a place on
abbrev pub slot_area : Wish → ℕ → Area
slot_area w place = record { offset = place; size = area_len w.key_size }

-- the area that guards zones, on a disk of atoms of so many bytes
abbrev pub guard_area : Wish → ℕ → ℕ → Area
guard_area w atom place = record { offset = place; size = guard_len w atom }

-- The new keyslot's area takes the lowest place of a header that has room for it, and the one that
-- guards zones the lowest besides it.
pub record AreLowest (m : Parts) (atom : ℕ) (w : Wish) (p : Places) : Type 0 where
  pub key : IsLowest m [] atom (area_len w.key_size) p.key
  pub guard : IsLowest m (slot_area w p.key ∷ []) atom (guard_len w atom) p.guard

-- why there is no place for so many bytes: fewer are free at each; want of memory says nothing
abbrev pub IsNoPlace : Parts → List Area → ℕ → ℕ → InitFault → Type 0
IsNoPlace m besides atom wanted faults.Memory = Unit {0}
IsNoPlace m besides atom wanted faults.InProgress = ⊥
IsNoPlace m besides atom wanted faults.Linear = ⊥
IsNoPlace m besides atom wanted (faults.Passphrase len) = ⊥
IsNoPlace m besides atom wanted (faults.Area asked gap) =
    IsGapFault m besides atom wanted (NoRoom asked gap)
IsNoPlace m besides atom wanted (faults.Json len limit) = ⊥

-- none for the new keyslot's area, or none besides it for the one that guards zones
abbrev pub IsNoRoom : Parts → ℕ → Wish → InitFault → Type 0
IsNoRoom m atom w fault =
    IsNoPlace m [] atom (area_len w.key_size) fault
    ⊎ ((place : ℕ) × IsLowest m [] atom (area_len w.key_size) place
    × IsNoPlace m (slot_area w place ∷ []) atom (guard_len w atom) fault)
