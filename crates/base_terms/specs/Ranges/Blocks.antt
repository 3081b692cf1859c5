-- Ranges of blocks as sets of block numbers.
use Rattle.std.specs.Prelude.{ℕ, ◌-◌, ◌<◌, ◌≤◌}
use Rattle.base_terms.specs.declared.block_range.BlockRange.{BlockRange}

-- a block of the range
abbrev pub IsIn : BlockRange → ℕ → Type 0
IsIn r k = (r.start ≤ k) × (k < r.end)

-- some block is in both
abbrev pub SharesBlock : BlockRange → BlockRange → Type 0
SharesBlock r s = (k : ℕ) × (IsIn r k × IsIn s k)

-- the number of its blocks
abbrev pub len_of : BlockRange → ℕ
len_of r = r.end - r.start
