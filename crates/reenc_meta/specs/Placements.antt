-- Where the blocks of a volume lie, and the segment of each of its sides, as its header says.
use Rattle.std.specs.Prelude.{ℕ, ◌≡◌, ◌+◌, ◌/◌, Option, Some, None, if◌then◌else◌}
use Rattle.base_terms.specs.declared.disk_sizes.Sizes.{Sizes}
use Rattle.luks_meta.specs.declared.meta.Parts.{Parts}
use Rattle.luks_rules.specs.Idles.{idle_of}
use Rattle.luks_rules.specs.declared.extents.Extent.{Extent}
use Rattle.luks_rules.specs.declared.idle.Idle.{Idle}
use Rattle.reenc_meta.specs.declared.placement.Placement.{Placement}
use Rattle.segment_map.specs.declared.Direction.TheVariants.{Forward}

-- the atom at which the main disk begins: behind the header's, where that is one of its own
abbrev pub base_of : Sizes → ℕ
base_of sizes = if sizes.detached then sizes.header_atoms else 0

-- the atoms of both disks
abbrev pub all_atoms : Sizes → ℕ
all_atoms sizes = base_of sizes + sizes.main_atoms

-- the atom at which a segment begins
abbrev pub place_of : Sizes → Extent → ℕ
place_of sizes e = base_of sizes + e.offset / sizes.atom

-- Nothing is being converted: each block is new, and lies in the one segment.
pub record IsIdlePlacement (sizes : Sizes) (v : Idle) (p : Placement) : Type 0 where
  pub atom : p.map.atom ≡ sizes.atom
  pub blocks : p.map.blocks ≡ v.blocks
  pub boundary : p.map.boundary ≡ v.blocks
  pub direction : p.map.direction ≡ Forward
  pub zone : p.map.zone ≡ 0
  pub old_place : p.map.old_place ≡ place_of sizes v.segment
  pub new_place : p.map.new_place ≡ place_of sizes v.segment
  pub old : p.old ≡ v.segment
  pub new : p.new ≡ v.segment

-- by the state of the conversion; one that is under way isn't placed yet
abbrev pub PlacedBy : Sizes → Option Idle → Placement → Type 0
PlacedBy sizes (Some v) p = IsIdlePlacement sizes v p
PlacedBy sizes None p = ⊥

-- what the objects of a header say of a volume on disks of these sizes
abbrev pub IsPlacementOf : Parts → Sizes → Placement → Type 0
IsPlacementOf m sizes p = PlacedBy sizes (idle_of m sizes) p
