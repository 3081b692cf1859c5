-- The areas of keyslots, and where they may lie.
use Rattle.std.specs.Prelude.{ℕ, ◌+◌, ◌*◌, ◌||◌, nat_lt, Bool, List, Option, Some, option_map}
use Rattle.std.specs.Prelude.{if◌then◌else◌}
use Rattle.std.specs.List.{list_any, filter_map}
use Rattle.luks_meta.specs.declared.config.Config.{Config}
use Rattle.luks_meta.specs.declared.keyslot.Keyslot.{Keyslot}
use Rattle.luks_meta.specs.declared.keyslot.Keyslot.TheVariants as keyslots
use Rattle.luks_meta.specs.declared.keyslot.OtherArea.{OtherArea}
use Rattle.luks_meta.specs.declared.meta.Parts.{Parts}
use Rattle.luks_rules.specs.declared.areas.Area.{Area}
use Rattle.base_terms.specs.declared.disk_sizes.Sizes.{Sizes}

abbrev pub other_area : OtherArea → Area
other_area a = record { offset = a.offset; size = a.size }

-- the area of a keyslot, where it has one
abbrev pub area_of : Keyslot → Option Area
area_of (keyslots.Luks2 s) = Some (record { offset = s.area.offset; size = s.area.size })
area_of (keyslots.Reencrypt s) = Some (record { offset = s.area.offset; size = s.area.size })
area_of (keyslots.Unknown s) = option_map other_area s.area

unfoldable pub areas_of : List (ℕ × Keyslot) → List Area
areas_of slots = filter_map (λ slot. area_of slot.1) slots

abbrev pub end_of : Area → ℕ
end_of a = a.offset + a.size

-- the first byte behind the two copies of the header, and that behind the keyslots area
abbrev pub areas_begin : Config → ℕ
areas_begin c = 2 * (c.json_size + 4096)

abbrev pub areas_end : Config → ℕ
areas_end c = areas_begin c + c.keyslots_size

abbrev pub header_bytes : Sizes → ℕ
header_bytes sizes = sizes.header_atoms * sizes.atom

abbrev pub main_bytes : Sizes → ℕ
main_bytes sizes = sizes.main_atoms * sizes.atom

-- ---- an area outside the keyslots area, or one that reaches too far
abbrev pub is_outside : Config → Area → Bool
is_outside c a = nat_lt a.offset (areas_begin c) || nat_lt (areas_end c) (end_of a)

abbrev pub passes_limit : Parts → Sizes → Bool
passes_limit m sizes =
    if sizes.detached then nat_lt (header_bytes sizes) (areas_end m.config)
    else list_any (λ s. nat_lt s.1.offset (areas_end m.config)) m.segments

unfoldable pub breaks_bounds : Parts → Sizes → Bool
breaks_bounds m sizes = list_any (is_outside m.config) (areas_of m.keyslots) || passes_limit m sizes
