-- Blocks of 16 bytes.
use Rattle.std.specs.Prelude.{ℕ, zero, suc, ◌+◌, List, [], ◌++◌, take, drop, bit_xor}
use Rattle.std.specs.Int.{to_le_bytes, w128}
use Rattle.std.specs.Simd.Lanes.{zip2}

-- the block at a place in a sector
abbrev pub block_of : List ℕ → ℕ → List ℕ
block_of sector at = take 16 (drop at sector)

-- the sector with this block at a place
abbrev pub with_block : List ℕ → ℕ → List ℕ → List ℕ
with_block sector at block = take at sector ++ block ++ drop (at + 16) sector

-- n blocks of a row from block j on, as bytes
unfoldable pub joined : (ℕ → List ℕ) → ℕ → ℕ → List ℕ
joined blocks j zero = []
joined blocks j (suc n) = blocks j ++ joined blocks (suc j) n

-- the sector with these eight blocks in a row from a place on
abbrev pub with_eight : List ℕ → ℕ → (ℕ → List ℕ) → List ℕ
with_eight sector at blocks = take at sector ++ joined blocks 0 8 ++ drop (at + 128) sector

-- two blocks, each byte xored with its fellow
unfoldable pub xored : List ℕ → List ℕ → List ℕ
xored = zip2 bit_xor

-- a number as a block: its 16 bytes, the lowest first. A sector's number has 64 bits, and then
-- zeros.
unfoldable pub number_block : ℕ → List ℕ
number_block number = to_le_bytes w128 number
