-- Eight blocks that are worked on at once.
use Rattle.std.specs.Prelude.{ℕ, List, [], ◌∷◌, slice_index_or}
use Rattle.cipher_laws.specs.declared.eight_blocks.EightBlocks.{EightBlocks}

-- the blocks in their order
abbrev pub blocks_of : EightBlocks → List (List ℕ)
blocks_of eight =
    eight.b0 ∷ eight.b1 ∷ eight.b2 ∷ eight.b3 ∷ eight.b4 ∷ eight.b5 ∷ eight.b6 ∷ eight.b7 ∷ []

-- block k of the eight, the first of which is block 0
abbrev pub block : ℕ → EightBlocks → List ℕ
block k eight = slice_index_or (blocks_of eight) k []
