-- The pieces of an operation under way: runs of blocks on one side, in order.
use Rattle.std.specs.Prelude.{ℕ, ◌≡◌, ◌*◌, ◌+◌, ◌<◌, ◌≤◌, true, List, length, Option, Some, None}
use Rattle.base_terms.specs.declared.block_range.BlockRange.{BlockRange}
use Rattle.cipher_laws.specs.Bytes.{AreBytes}
use Rattle.segment_map.specs.declared.Side.{Side}
use Rattle.segment_map.specs.declared.Side.TheVariants.{Old}
use Rattle.segment_map.specs.declared.map.Map.{Map}
use Rattle.segment_map.specs.declared.map.Piece.{Piece}
use Rattle.segment_map.specs.Maps.{IsNextPiece, side_at, place_on}
use Rattle.volume_machine.specs.Asks.{IsForced}
use Rattle.volume_machine.specs.declared.open.Open.{Open}

-- the side and the place of a block of the volume
abbrev pub known_side : Option Side → Side
known_side None = Old
known_side (Some side) = side

abbrev pub side_in : Map → ℕ → Side
side_in map block = known_side (side_at map block)

abbrev pub place_in : Map → ℕ → ℕ
place_in map block = place_on map block (side_in map block)

-- two maps have the blocks of a range alike: of one size, and each on its side, at its place
pub record AgreeOn (range : BlockRange) (one other : Map) : Type 0 where
  pub atom : one.atom ≡ other.atom
  pub sides : (b : ℕ) → range.start ≤ b → b < range.end → side_at one b ≡ side_at other b
  pub places : (b : ℕ) → range.start ≤ b → b < range.end → place_in one b ≡ place_in other b

-- the blocks that are left of an operation
abbrev pub rest_of : Open → BlockRange
rest_of o = record { start = o.next; end = o.range.end }

-- the operation's next piece
abbrev pub IsPieceOf : Map → Open → Piece → Type 0
IsPieceOf map o piece = IsNextPiece map (rest_of o) piece

-- its place, in atoms, and its bytes
abbrev pub place_of : Map → Piece → ℕ
place_of map piece = place_on map piece.first piece.side

abbrev pub size_of_piece : Map → Piece → ℕ
size_of_piece map piece = piece.count * map.atom

-- bytes that are a piece's
pub record ArePieceBytes (map : Map) (piece : Piece) (bytes : List ℕ) : Type 0 where
  pub size : length bytes ≡ size_of_piece map piece
  pub are_bytes : AreBytes bytes

-- the operation after an edge was read, after a piece was made, after a failure, and once it is
-- settled
abbrev pub fetching : Open → Open
fetching o = record o { fetched = o.fetched + 1 }

abbrev pub moved : Open → Piece → Open
moved o piece = record o { next = piece.first + piece.count }

abbrev pub failing : Open → Open
failing o = record o { failed = true }

abbrev pub settling : Open → Open
settling o = record o { settled = true }

-- every piece was made, and a write that is to be kept for certain is settled
pub record IsComplete (o : Open) : Type 0 where
  pub pieces : o.next ≡ o.range.end
  pub kept : IsForced o.ask → o.settled ≡ true
