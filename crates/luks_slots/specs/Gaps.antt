-- Runs of bytes in the keyslots area that no keyslot holds.
use Rattle.std.specs.Prelude.{ℕ, ◌≡◌, ◌+◌, ◌-◌, ◌<◌, ◌≤◌, ◌%◌, ◌^◌, ◌⊎◌, nat_le, min, max, List, []}
use Rattle.std.specs.Prelude.{◌∷◌, ◌++◌, Option, Some, None, if◌then◌else◌}
use Rattle.std.specs.List.{All}
use Rattle.luks_meta.specs.declared.config.Config.{Config}
use Rattle.luks_meta.specs.declared.meta.Parts.{Parts}
use Rattle.luks_rules.specs.Areas.{areas_begin, areas_end, areas_of, end_of}
use Rattle.luks_rules.specs.declared.areas.Area.{Area}
use Rattle.luks_slots.specs.Stripes.{rounded}
use Rattle.luks_slots.specs.declared.fault.SlotFault.{SlotFault}
use Rattle.luks_slots.specs.declared.fault.SlotFault.TheVariants as faults

-- the areas of a header's keyslots, and these besides
abbrev pub taken : Parts → List Area → List Area
taken m besides = areas_of m.keyslots ++ besides

-- an area has no byte, or ends before a run, or begins behind it
abbrev pub IsApart : ℕ → ℕ → Area → Type 0
IsApart offset size a = (a.size ≡ 0) ⊎ ((end_of a ≤ offset) ⊎ (offset + size ≤ a.offset))

-- So many bytes from a whole atom on lie in the keyslots area, and in none of the areas that are
-- taken; a place has 64 bits.
pub record IsFree (m : Parts) (besides : List Area) (atom size offset : ℕ) : Type 0 where
  pub whole : offset % atom ≡ 0
  pub behind : areas_begin m.config ≤ offset
  pub before : offset + size ≤ areas_end m.config
  pub within : offset + size ≤ 2 ^ 64
  pub apart : All (IsApart offset size) (taken m besides)

-- the lowest place of so many free bytes
pub record IsLowest (m : Parts) (besides : List Area) (atom size offset : ℕ) : Type 0 where
  pub free : IsFree m besides atom size offset
  pub lowest : (other : ℕ) → IsFree m besides atom size other → offset ≤ other

-- the most free bytes at one place; 0 where no byte is free
pub record IsLargest (m : Parts) (besides : List Area) (atom gap : ℕ) : Type 0 where
  pub there : (gap ≡ 0) ⊎ ((offset : ℕ) × IsFree m besides atom gap offset)
  pub most : (size offset : ℕ) → IsFree m besides atom size offset → size ≤ gap

-- why there is no place for so many bytes: fewer are free at each; want of memory says nothing
abbrev pub IsGapFault : Parts → List Area → ℕ → ℕ → SlotFault → Type 0
IsGapFault m besides atom wanted faults.Memory = Unit {0}
IsGapFault m besides atom wanted (faults.NoRoom asked gap) =
    (asked ≡ wanted) × (gap < wanted) × IsLargest m besides atom gap
IsGapFault m besides atom wanted faults.Device = ⊥
IsGapFault m besides atom wanted (faults.NoKey list) = ⊥

-- ---- as it is computed
-- from where on runs may begin, and where they end
abbrev pub runs_begin : Config → ℕ → ℕ
runs_begin c atom = rounded (areas_begin c) atom

abbrev pub runs_end : Config → ℕ
runs_end c = min (areas_end c) (2 ^ 64)

-- the bytes from a place on up to an area, or up to the end
abbrev pub room : ℕ → ℕ → Area → ℕ
room end place a = min end a.offset - place

-- the first whole atom that is behind an area, and not before a place
abbrev pub behind : ℕ → ℕ → Area → ℕ
behind atom place a = max place (rounded (end_of a) atom)

-- the lowest place from one on that has so many bytes, along areas by rising offset
unfoldable pub lowest_in : ℕ → ℕ → ℕ → ℕ → List Area → Option ℕ
lowest_in atom end wanted place [] = if nat_le wanted (end - place) then Some place else None
lowest_in atom end wanted place (a ∷ areas) =
    if nat_le wanted (room end place a) then Some place
    else lowest_in atom end wanted (behind atom place a) areas

-- the most bytes that one has
unfoldable pub widest_in : ℕ → ℕ → ℕ → List Area → ℕ
widest_in atom end place [] = end - place
widest_in atom end place (a ∷ areas) =
    max (room end place a) (widest_in atom end (behind atom place a) areas)
