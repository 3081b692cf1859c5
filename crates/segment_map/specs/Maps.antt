-- A map as a table of all blocks: the side of each, and its place on the disk.
use Rattle.std.specs.Prelude.{◌≡◌, ◌≢◌, ℕ, suc, ◌+◌, ◌*◌, ◌<◌, ◌≤◌, ◌⊎◌, List, Option, Some}
use Rattle.std.specs.Prelude.{slice_get}
use Rattle.std.specs.Option.{option_map}
use Rattle.base_terms.specs.declared.block_range.BlockRange.{BlockRange}
use Rattle.segment_map.specs.declared.Side.{Side}
use Rattle.segment_map.specs.declared.Side.TheVariants.{Old, New, Zone}
use Rattle.segment_map.specs.declared.map.Map.{Map}
use Rattle.segment_map.specs.declared.map.Piece.{Piece}
use Rattle.segment_map.specs.Sides.{sides}

-- the sides of all blocks of the volume, and of one of them
abbrev pub sides_of : Map → List Side
sides_of m = sides m.direction m.blocks m.boundary m.zone

abbrev pub side_at : Map → ℕ → Option Side
side_at m block = slice_get (sides_of m) block

-- the place of a block that is on a side: a zone is still where the old segment has it
abbrev pub place_on : Map → ℕ → Side → ℕ
place_on m block Old = m.old_place + block
place_on m block Zone = m.old_place + block
place_on m block New = m.new_place + block

-- the place of a block of the volume
abbrev pub place_at : Map → ℕ → Option ℕ
place_at m block = option_map (place_on m block) (side_at m block)

-- the bytes of the longest piece: 1 MiB
abbrev pub most_bytes : ℕ
most_bytes = 1048576

-- the longest run of blocks on one side at a range's start, of at most 1 MiB: it ends at the
-- range's end, where another block would be too many, or where the side changes
pub record IsNextPiece (m : Map) (range : BlockRange) (piece : Piece) : Type 0 where
  pub first : piece.first ≡ range.start
  pub some : 0 < piece.count
  pub within : range.start + piece.count ≤ range.end
  pub one_side : (k : ℕ) → k < piece.count → side_at m (range.start + k) ≡ Some piece.side
  pub limit : piece.count * m.atom ≤ most_bytes
  pub longest : (range.start + piece.count ≡ range.end) ⊎ ((most_bytes < (suc piece.count) * m.atom)
      ⊎ (side_at m (range.start + piece.count) ≢ Some piece.side))
