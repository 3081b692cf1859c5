-- What a volume holds in plain: the newest values of a plain disk's blocks, with the values of
-- unfinished writes over them.
use Rattle.std.specs.Prelude.{ℕ, zero, suc, ◌≡◌, ◌-◌, ◌*◌, ◌<◌, ◌≤◌, ◌⊎◌, List, [], ◌∷◌, length}
use Rattle.std.specs.Prelude.{Some, Contains, slice_index_or}
use Rattle.plain_disk.specs.Plain.{Block, values_of, settled, settled_blocks}
use Rattle.sector_disk.specs.Cells.{Cell, IsImage}
use Rattle.segment_map.specs.declared.map.Map.{Map}
use Rattle.volume_machine.specs.Asks.{IsWrite}
use Rattle.volume_machine.specs.Edges.{InPlain}
use Rattle.volume_machine.specs.Pieces.{side_in, place_in}
use Rattle.volume_machine.specs.Seals.{Seals}
use Rattle.sector_disk.specs.DiskViews.Parts.{AreBlocks, block_at, cell_in, value_in}
use Rattle.volume_machine.specs.States.{State, open_at, IsLive}
use Rattle.volume_machine.specs.declared.open.Open.{Open}
use Rattle.base_terms.specs.Blocks.{blocks_of}

-- a block of a plain disk, an atom of a table, a value of an image
abbrev pub block_in : List Block → ℕ → Block
block_in blocks b = slice_index_or blocks b (settled [])

-- a block holds this value where its atom holds these bytes
abbrev pub IsSealed : Map → Seals → ℕ → List ℕ → List ℕ → Type 0
IsSealed map seals b value atom =
    AreBlocks map.atom 1 value × (atom ≡ seals.sealed (side_in map b) b value)

-- the blocks of a plain disk are those of a volume: as many, each newest value a block's bytes
pub record AreBlocksOf (map : Map) (blocks : List Block) : Type 0 where
  pub count : length blocks ≡ map.blocks
  pub newest : (b : ℕ) → b < map.blocks → AreBlocks map.atom 1 (block_in blocks b).newest

-- the disk's current bytes stand for the newest values of these blocks
abbrev pub StandsFor : Map → Seals → List Block → List ℕ → Type 0
StandsFor map seals blocks bytes = (b : ℕ) → b < map.blocks →
    IsSealed map seals b (block_in blocks b).newest (block_at map.atom bytes (place_in map b))

-- an unfinished write of this lane has tried this value for the block
pub record IsTriedBy {K : Type 0} (state : State K) (plain : ℕ → InPlain) (lane b : ℕ)
    (value : List ℕ) : Type 0 where
  pub o : Open
  pub is : open_at state.lanes lane ≡ Some o
  pub writes : IsWrite o.ask
  pub begun : o.range.start ≤ b
  pub tried : suc (b - o.range.start) * state.map.atom ≤ length (plain lane).bytes
  pub value_is : value ≡ block_at state.map.atom (plain lane).bytes (b - o.range.start)

-- what a block holds: the value that an unfinished write has tried, else its newest
abbrev pub IsNow : {K : Type 0} → State K → (ℕ → InPlain) → List Block → ℕ → List ℕ → Type 0
IsNow state plain blocks b value =
    ((lane : ℕ) × IsTriedBy state plain lane b value)
    ⊎ (((lane : ℕ) (other : List ℕ) → IsTriedBy state plain lane b other → ⊥)
    × (value ≡ (block_in blocks b).newest))

-- the disk's current bytes stand for what each live block holds
abbrev pub StandsNow : {K : Type 0} → State K → Seals → (ℕ → InPlain) → List Block → List ℕ → Type 0
StandsNow state seals plain blocks bytes = (b : ℕ) → IsLive state b →
    (value : List ℕ) × IsNow state plain blocks b value
    × IsSealed state.map seals b value (block_at state.map.atom bytes (place_in state.map b))

-- a value that a stop may leave of a block: one of its values, or one that an unfinished write
-- tried
abbrev pub IsAllowedAt : {K : Type 0} → State K → (ℕ → InPlain) → List Block → ℕ → List ℕ → Type 0
IsAllowedAt state plain blocks b value =
    Contains (values_of (block_in blocks b)) value
    ⊎ ((lane : ℕ) × IsTriedBy state plain lane b value)

-- a stop that finds this table leaves a content that is allowed: of each live block, each image
-- stands for one
abbrev pub StopsAllowed : {K : Type 0} → State K → Seals → (ℕ → InPlain) → List Block → List Cell
    → Type 0
StopsAllowed state seals plain blocks cells = (image : List (List ℕ)) → IsImage cells image →
    (b : ℕ) → IsLive state b → (value : List ℕ) × IsAllowedAt state plain blocks b value
    × IsSealed state.map seals b value (value_in image (place_in state.map b))

-- each candidate of each block's atom is a value of the block, and the current one its newest
pub record Covers (map : Map) (seals : Seals) (blocks : List Block) (cells : List Cell) : Type 0
  where
    pub candidates : (b : ℕ) → b < map.blocks → (atom : List ℕ) →
        Contains (cell_in cells (place_in map b)).candidates atom →
        (value : List ℕ) × Contains (values_of (block_in blocks b)) value
        × IsSealed map seals b value atom
    pub current : (b : ℕ) → b < map.blocks →
        IsSealed map seals b (block_in blocks b).newest (cell_in cells (place_in map b)).current

-- the plain disk's blocks that a whole disk begins with: each holds its atom's bytes for certain
abbrev pub plain_blocks : {K : Type 0} → State K → List ℕ → List Block
plain_blocks start bytes = settled_blocks (blocks_of start.map.atom start.disk.atoms bytes)

-- the blocks that a volume's bytes stand for: each holds, for certain, what is opened of its atom
unfoldable pub blocks_from : (ℕ → Block) → ℕ → ℕ → List Block
blocks_from block first zero = []
blocks_from block first (suc n) = block first ∷ blocks_from block (suc first) n

abbrev pub opened_block : Map → Seals → List ℕ → ℕ → Block
opened_block map seals bytes b =
    settled (seals.opened (side_in map b) b (block_at map.atom bytes (place_in map b)))

abbrev pub opened_blocks : Map → Seals → List ℕ → List Block
opened_blocks map seals bytes = blocks_from (opened_block map seals bytes) 0 map.blocks
