-- Lists of bytes, and lists of blocks of equally many bytes.
use Rattle.std.specs.Prelude.{ℕ, zero, suc, ◌+◌, List, [], ◌∷◌, ◌++◌, length, take, drop, map}

-- a text with these bytes in place of as many of its own from `at` on
unfoldable pub pasted : List ℕ → ℕ → List ℕ → List ℕ
pasted old at bytes = take at old ++ bytes ++ drop (at + length bytes) old

-- a text that keeps its length, with these bytes in place of its first ones
abbrev pub rewritten : List ℕ → List ℕ → List ℕ
rewritten old bytes = take (length old) (bytes ++ drop (length bytes) old)

-- the first `n` blocks of a text, each of `size` bytes
unfoldable pub blocks_of : ℕ → ℕ → List ℕ → List (List ℕ)
blocks_of size zero bytes = []
blocks_of size (suc n) bytes = take size bytes ∷ blocks_of size n (drop size bytes)

-- blocks one after the other, as a text
unfoldable pub joined : List (List ℕ) → List ℕ
joined [] = []
joined (block ∷ blocks) = block ++ joined blocks

-- how long each block is
unfoldable pub lengths : List (List ℕ) → List ℕ
lengths blocks = map (λ block. length block) blocks

-- cells of which those from `at` on are changed, each by the next of the values, as far as both
-- reach
unfoldable pub changed : {C : Type 0} → (C → List ℕ → C) → List C → ℕ → List (List ℕ) → List C
changed change [] at values = []
changed change (cell ∷ cells) at [] = cell ∷ cells
changed change (cell ∷ cells) zero (value ∷ values) =
    change cell value ∷ changed change cells zero values
changed change (cell ∷ cells) (suc at) (value ∷ values) =
    cell ∷ changed change cells at (value ∷ values)
