-- What a header tells of a side of its volume, and which other one tells the same.
use Rattle.std.specs.Prelude.{ℕ, ◌≡◌, ◌<◌, ◌⊎◌, List, Some, None, Ok}
use Rattle.base_terms.specs.declared.disk_sizes.Sizes.{Sizes}
use Rattle.luks_meta.specs.declared.meta.Parts.{Parts}
use Rattle.luks_rules.specs.Idles.{idle_of}
use Rattle.luks_rules.specs.Rules.{first_fault}
use Rattle.luks_rules.specs.Shapes.{progress_of}
use Rattle.luks_rules.specs.declared.extents.Extent.{Extent}
use Rattle.luks_rules.specs.declared.idle.Idle.{Idle}
use Rattle.luks_rules.specs.declared.shape.Progress.{Progress}
use Rattle.reenc_meta.specs.Layouts.{whole_on}
use Rattle.segment_map.specs.declared.Side.{Side}
use Rattle.hotzone.specs.ZoneEvents.Readings.{parts_in, sealing_in}
use Rattle.hotzone.specs.ZoneEvents.Tellings.{side_alone}

-- by these metadata this is the whole segment of the side: of a conversion, or the one of a volume of
-- which nothing is converted
abbrev pub IsSideOf : Sizes → Parts → Side → Extent → Type 0
IsSideOf sizes m side e =
    ((p : Progress) × (progress_of m sizes ≡ Some p) × (e ≡ whole_on p side))
    ⊎ ((progress_of m sizes ≡ None)
    × ((v : Idle) × (idle_of m sizes ≡ Some v) × (e ≡ v.segment)))

-- The header's metadata break no rule, and by itself the side is as by these others: of the same place,
-- encrypted the same under the same key, which the same keyslots give.
pub record TellsSide (sizes : Sizes) (m : Parts) (e : Extent) (to : List ℕ) (side : Side) : Type 0
  where
    pub meta : Parts
    pub parts : parts_in to ≡ Ok meta
    pub valid : first_fault meta sizes ≡ None
    pub segment : Extent
    pub is : IsSideOf sizes meta side segment
    pub same : side_alone meta segment ≡ side_alone m e

-- It is so of a header that tells the side as one does which breaks no rule.
abbrev pub SidesAreTold : Type 0
SidesAreTold =
    (sizes : Sizes) (from to : List ℕ) (m : Parts) (side : Side) (e : Extent) → 0 < sizes.atom
    → parts_in from ≡ Ok m → first_fault m sizes ≡ None → IsSideOf sizes m side e
    → sealing_in sizes to side ≡ sealing_in sizes from side → TellsSide sizes m e to side
