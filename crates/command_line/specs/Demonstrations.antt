-- What the words of `demo` ask for, by the values that they have.
use Rattle.std.specs.Prelude.{ℕ, ◌-◌, ◌^◌, ◌<◌, ◌≤◌, List, codes, Option, Some, None}
use Rattle.clap.specs.Walk.{Row, Text, first_of}
use Rattle.command_line.specs.Values.{◌>>=◌, number_in}
use Rattle.command_line.specs.declared.demonstrating.Demo.{Demo}

-- a volume in memory of so many blocks, whose random bytes come from this seed, that is converted
-- while so many clients use it, each with a worker of its own
pub record Demonstrating : Type 0 where
  pub seed : ℕ
  pub blocks : ℕ
  pub workers : ℕ

abbrev pub demonstrating : Demo → Demonstrating
demonstrating words = record { seed = words.seed; blocks = words.blocks; workers = words.workers }

-- by the values of its words, each of which is there
unfoldable pub demonstrating_by : (Text → Option Text) → Option Demonstrating
demonstrating_by value = do
  seed ← number_in 0 (2 ^ 64 - 1) (value (codes "seed"))
  blocks ← number_in 1 16384 (value (codes "blocks"))
  workers ← number_in 1 16 (value (codes "workers"))
  Some (record { seed = seed; blocks = blocks; workers = workers })

abbrev pub demonstrating_in : List Row → Option Demonstrating
demonstrating_in rows = demonstrating_by (λ name. first_of name rows)

-- the values of `demo` are within their bounds
pub record IsDemonstrating (words : Demonstrating) : Type 0 where
  pub seed : words.seed < 2 ^ 64
  pub some_block : 0 < words.blocks
  pub blocks : words.blocks ≤ 16384
  pub some_worker : 0 < words.workers
  pub workers : words.workers ≤ 16
