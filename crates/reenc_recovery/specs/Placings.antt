-- Where the blocks of a volume lie, whether it is being converted or not, as long as no zone is
-- open.
use Rattle.std.specs.Prelude.{◌≡◌, ◌⊎◌, ℕ, List, Some, Ok, false}
use Rattle.base_terms.specs.declared.disk_sizes.Sizes.{Sizes}
use Rattle.luks_meta.specs.declared.meta.Parts.{Parts}
use Rattle.luks_rules.specs.Segments.{in_progress}
use Rattle.luks_rules.specs.Shapes.{progress_of}
use Rattle.luks_rules.specs.declared.shape.Progress.{Progress}
use Rattle.luks_store.specs.Devices.{front_of}
use Rattle.luks_store.specs.Loads.{stored_in}
use Rattle.luks_store.specs.declared.loaded.Stored.{Stored}
use Rattle.reenc_meta.specs.ConversionMaps.{IsMapAt}
use Rattle.reenc_meta.specs.Placements.{IsPlacementOf}
use Rattle.reenc_meta.specs.declared.placement.Placement.{Placement}

-- A conversion is under way, and no zone of it is open: each block lies where the conversion's map
-- has it, under the whole segment of its side.
pub record IsConvertingPlacement (sizes : Sizes) (c : Progress) (p : Placement) : Type 0 where
  pub closed : c.plan.zone ≡ 0
  pub map : IsMapAt sizes c p.map
  pub old : p.old ≡ c.old
  pub new : p.new ≡ c.new

abbrev pub PlacesConversion : Parts → Sizes → Placement → Type 0
PlacesConversion m sizes p =
    (c : Progress) × (progress_of m sizes ≡ Some c) × IsConvertingPlacement sizes c p

-- The objects of a header place the volume: nothing is being converted, or no zone is open.
abbrev pub PlacesVolume : Parts → Sizes → Placement → Type 0
PlacesVolume m sizes p = IsPlacementOf m sizes p ⊎ PlacesConversion m sizes p

-- nothing is being converted by the header that an image has
abbrev pub RestsIn : Sizes → List ℕ → Type 0
RestsIn sizes image = (stored : Stored) → stored_in sizes (front_of sizes image) ≡ Ok stored
    → in_progress stored.valid.meta.config ≡ false
