-- What the clients of the demonstration write: blocks of 512 bytes, all told by a seed.
use Rattle.std.specs.Prelude.{ℕ, ◌+◌, ◌*◌, ◌/◌, ◌-◌, ◌%◌, List, map}
use Rattle.std.specs.List.{range_with_len}

-- byte `j` of block `b`
abbrev pub demo_byte : (seed b j : ℕ) → ℕ
demo_byte seed b j = (seed + 7 * b + j) % 256

-- block `b`
unfoldable pub demo_block : (seed b : ℕ) → List ℕ
demo_block seed b = map (demo_byte seed b) (range_with_len 0 512)

-- the first `m` blocks
unfoldable pub demo_content : (seed m : ℕ) → List (List ℕ)
demo_content seed m = map (demo_block seed) (range_with_len 0 m)

-- the first block of session `i` of `k` that have `m` blocks among them
abbrev pub share_of : (i m k : ℕ) → ℕ
share_of i m k = i * m / k

-- how many blocks that session has: those before the next session's first one
abbrev pub share_count : (i m k : ℕ) → ℕ
share_count i m k = share_of (i + 1) m k - share_of i m k
