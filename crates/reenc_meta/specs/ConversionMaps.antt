-- Where the blocks of a volume lie while it is converted, as its live segments say.
use Rattle.std.specs.Prelude.{ℕ, ◌≡◌, ◌+◌, ◌-◌, ◌*◌, ◌<◌, nat_lt, List, [], ◌∷◌, ◌++◌, Option, Some}
use Rattle.std.specs.Prelude.{None, map, if◌then◌else◌}
use Rattle.base_terms.specs.declared.disk_sizes.Sizes.{Sizes}
use Rattle.luks_meta.specs.declared.meta.Parts.{Parts}
use Rattle.luks_meta.specs.declared.reencrypt.Direction.{Direction as order}
use Rattle.luks_meta.specs.declared.reencrypt.Direction.TheVariants as orders
use Rattle.luks_meta.specs.declared.segment.SegmentSize.{SegmentSize}
use Rattle.luks_meta.specs.declared.segment.SegmentSize.TheVariants.{Dynamic, Sized}
use Rattle.luks_rules.specs.Extents.{extent_of}
use Rattle.luks_rules.specs.Plans.{blocks_in, same_digest}
use Rattle.luks_rules.specs.Shapes.{progress_of}
use Rattle.luks_rules.specs.declared.extents.Extent.{Extent}
use Rattle.luks_rules.specs.declared.extents.Mark.{Mark}
use Rattle.luks_rules.specs.declared.extents.Mark.TheVariants as marks
use Rattle.luks_rules.specs.declared.plan.Plan.{Plan}
use Rattle.luks_rules.specs.declared.shape.Progress.{Progress}
use Rattle.reenc_meta.specs.Placements.{base_of, place_of}
use Rattle.reenc_meta.specs.declared.placement.Placement.{Placement}
use Rattle.segment_map.specs.Maps.{place_at, side_at}
use Rattle.segment_map.specs.declared.Direction.{Direction}
use Rattle.segment_map.specs.declared.Direction.TheVariants.{Forward, Backward}
use Rattle.segment_map.specs.declared.Side.{Side}
use Rattle.segment_map.specs.declared.Side.TheVariants.{Old, New, Zone}
use Rattle.segment_map.specs.declared.map.Map.{Map}

-- ---- the map of a conversion that is so far
abbrev pub direction_of : order → Direction
direction_of orders.Forward = Forward
direction_of orders.Backward = Backward

-- the block that parts new from old: forward the first that isn't new, backward the first that is
abbrev pub boundary_in : order → Plan → ℕ
boundary_in orders.Forward plan = plan.first
boundary_in orders.Backward plan = plan.first + plan.zone

pub record IsMapAt (sizes : Sizes) (p : Progress) (map : Map) : Type 0 where
  pub atom : map.atom ≡ sizes.atom
  pub blocks : map.blocks ≡ blocks_in p.plan
  pub boundary : map.boundary ≡ boundary_in p.conversion.direction p.plan
  pub direction : map.direction ≡ direction_of p.conversion.direction
  pub zone : map.zone ≡ p.plan.zone
  pub old_place : map.old_place ≡ place_of sizes p.old
  pub new_place : map.new_place ≡ place_of sizes p.new

-- the map of metadata of a conversion
abbrev pub IsMapOf : Parts → Sizes → Map → Type 0
IsMapOf m sizes map = (p : Progress) × (progress_of m sizes ≡ Some p) × IsMapAt sizes p map

-- ---- read off the live segments
abbrev pub live_size : SegmentSize → ℕ
live_size Dynamic = 0
live_size (Sized bytes) = bytes

-- the live segment that holds a byte of the volume, and how far behind its begin
unfoldable pub segment_at : ℕ → List Extent → Option (Extent × ℕ)
segment_at at [] = None
segment_at at (e ∷ es) =
    if nat_lt at (live_size e.size) then Some (e, at) else segment_at (at - live_size e.size) es

-- its side, by its flag and its digest
abbrev pub side_by : Mark → Side → Side
side_by marks.Zone side = Zone
side_by marks.Plain side = side
side_by marks.Previous side = side
side_by marks.Final side = side
side_by marks.Other side = side

abbrev pub side_under : Progress → Extent → Side
side_under p e = side_by e.mark (if same_digest p.new.digest e.digest then New else Old)

-- A block lies in a live segment: on its side, and where that has it.
pub record LiesIn (sizes : Sizes) (p : Progress) (live : List Extent) (map : Map) (b : ℕ)
    : Type 0 where
  pub segment : Extent
  pub behind : ℕ
  pub there : segment_at (b * sizes.atom) live ≡ Some (segment, behind)
  pub side : side_at map b ≡ Some (side_under p segment)
  pub place : (at : ℕ) → place_at map b ≡ Some at
      → at * sizes.atom ≡ base_of sizes * sizes.atom + (segment.offset + behind)

-- Each block of the volume lies where its live segment says.
abbrev pub IsReadOff : Parts → Sizes → Progress → Map → Type 0
IsReadOff m sizes p found =
    (live : List Extent) → map (extent_of m.digests) m.segments ≡ live ++ p.old ∷ p.new ∷ []
    → (b : ℕ) → b < found.blocks → LiesIn sizes p live found b

-- ---- the next map
-- the same volume, at the same places
pub record IsSameVolume (now next : Map) : Type 0 where
  pub atom : next.atom ≡ now.atom
  pub blocks : next.blocks ≡ now.blocks
  pub direction : next.direction ≡ now.direction
  pub old_place : next.old_place ≡ now.old_place
  pub new_place : next.new_place ≡ now.new_place

-- a zone of so many blocks is open beside the boundary, which stays
pub record OpensZone (blocks : ℕ) (now next : Map) : Type 0 where
  pub volume : IsSameVolume now next
  pub boundary : next.boundary ≡ now.boundary
  pub zone : next.zone ≡ blocks

abbrev pub BoundaryGoes : Direction → ℕ → ℕ → ℕ → Type 0
BoundaryGoes Forward blocks now next = next ≡ now + blocks
BoundaryGoes Backward blocks now next = next + blocks ≡ now

-- the boundary is so many blocks on, and no zone is open
pub record MovesBoundary (blocks : ℕ) (now next : Map) : Type 0 where
  pub volume : IsSameVolume now next
  pub boundary : BoundaryGoes now.direction blocks now.boundary next.boundary
  pub zone : next.zone ≡ 0

-- ---- the map that comes last
-- all blocks are new, each where it was
pub record MakesAllNew (now : Map) (next : Placement) : Type 0 where
  pub atom : next.map.atom ≡ now.atom
  pub blocks : next.map.blocks ≡ now.blocks
  pub boundary : next.map.boundary ≡ now.blocks
  pub direction : next.map.direction ≡ Forward
  pub zone : next.map.zone ≡ 0
  pub place : next.map.new_place ≡ now.new_place
