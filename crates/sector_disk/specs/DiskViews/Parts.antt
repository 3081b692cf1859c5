-- One part of a text of blocks, of a table, of an image.
use Rattle.std.specs.Prelude.{ℕ, ◌≡◌, ◌*◌, List, [], length, slice_index_or, take, drop}
use Rattle.sector_disk.specs.Cells.{Cell}
use Rattle.cipher_laws.specs.Bytes.{AreBytes}

abbrev pub cell_in : List Cell → ℕ → Cell
cell_in cells place = slice_index_or cells place (record { current = []; candidates = [] })

abbrev pub value_in : List (List ℕ) → ℕ → List ℕ
value_in image place = slice_index_or image place []

-- one of the blocks of a text
abbrev pub block_at : ℕ → List ℕ → ℕ → List ℕ
block_at atom bytes k = take atom (drop (k * atom) bytes)

-- bytes of whole blocks
pub record AreBlocks (atom count : ℕ) (bytes : List ℕ) : Type 0 where
  pub size : length bytes ≡ count * atom
  pub are_bytes : AreBytes bytes
