-- What a volume asks of its map and of the segments of its sides.
use Rattle.std.specs.Prelude.{ℕ, ◌≡◌, ◌+◌, ◌*◌, ◌/◌, ◌%◌, ◌^◌, ◌<◌, ◌≤◌, true, IfSome}
use Rattle.base_terms.specs.declared.disk_sizes.Sizes.{Sizes}
use Rattle.luks_meta.specs.Segments.{is_sector_size}
use Rattle.luks_meta.specs.declared.meta.Parts.{Parts}
use Rattle.luks_meta.specs.declared.segment.Encryption.{Encryption}
use Rattle.luks_rules.specs.Areas.{areas_end}
use Rattle.luks_rules.specs.States.{IsPlaced}
use Rattle.luks_rules.specs.declared.extents.Extent.{Extent}
use Rattle.reenc_meta.specs.Placements.{all_atoms}
use Rattle.reenc_meta.specs.declared.placement.Placement.{Placement}
use Rattle.segment_map.specs.declared.Side.TheVariants.{New}
use Rattle.segment_map.specs.declared.map.Map.{Map}
use Rattle.volume_machine.specs.Pieces.{place_in, side_in}
use Rattle.volume_machine.specs.Sound.{AreApart, MapFits}

-- The sectors of an encryption are whole parts of a block, and the IV numbers of all blocks, and of
-- the one behind the last, fit 64 bits.
pub record FitsBlocks (atom blocks : ℕ) (e : Encryption) : Type 0 where
  pub known : is_sector_size e.sector_size ≡ true
  pub whole : atom % e.sector_size ≡ 0
  pub numbers : e.iv_tweak + blocks * (atom / 512) < 2 ^ 64

-- A side has a segment whose sectors fit the blocks, and which is under its digest where it is
-- encrypted.
pub record IsSide (m : Parts) (sizes : Sizes) (blocks : ℕ) (e : Extent) : Type 0 where
  pub placed : IsPlaced m sizes e
  pub fits : IfSome e.encryption (FitsBlocks sizes.atom blocks)

-- The map fits the disk, each block has a place of its own, behind the copies of the header and the
-- keyslots' areas, and the sides have segments that fit.
pub record IsRightFor (m : Parts) (sizes : Sizes) (p : Placement) : Type 0 where
  pub atom : p.map.atom ≡ sizes.atom
  pub fits : MapFits p.map (all_atoms sizes)
  pub apart : AreApart p.map
  pub behind : (b : ℕ) → b < p.map.blocks → areas_end m.config ≤ place_in p.map b * p.map.atom
  pub old : IsSide m sizes p.map.blocks p.old
  pub new : IsSide m sizes p.map.blocks p.new

-- two placements are one: each block is on one side, at one place
pub record AreOne (p q : Placement) : Type 0 where
  pub atom : p.map.atom ≡ q.map.atom
  pub blocks : p.map.blocks ≡ q.map.blocks
  pub sides : (b : ℕ) → b < p.map.blocks → side_in p.map b ≡ side_in q.map b
  pub places : (b : ℕ) → b < p.map.blocks → place_in p.map b ≡ place_in q.map b
  pub old : p.old ≡ q.old
  pub new : p.new ≡ q.new

-- all blocks are new, one behind the other
pub record AreAllNew (map : Map) : Type 0 where
  pub sides : (b : ℕ) → b < map.blocks → side_in map b ≡ New
  pub places : (b : ℕ) → b < map.blocks → place_in map b ≡ map.new_place + b
