-- What each client of the demonstration asks: it writes its blocks, flushes, and reads them.
use Rattle.std.specs.Prelude.{ℕ, ◌*◌, false, List, [], ◌∷◌, ◌++◌, map}
use Rattle.std.specs.List.{range_with_len}
use Rattle.plain_disk.specs.declared.operation.Op.{Op}
use Rattle.plain_disk.specs.declared.operation.Op.TheVariants.{Read, Write, Flush}
use Rattle.plain_disk.specs.Outcomes.{IsServed}
use Rattle.plain_disk.specs.Plain.{Exchange}
use Rattle.demo_clients.specs.Contents.{demo_block, share_of, share_count}

-- the write of block `b`, and the read of it
abbrev pub write_of : (seed b : ℕ) → Op
write_of seed b = Write (512 * b) (demo_block seed b) false

abbrev pub read_of : (b : ℕ) → Op
read_of b = Read (512 * b) 512

-- the operations on so many blocks, from block `first` on
unfoldable pub operations_on : (seed first count : ℕ) → List Op
operations_on seed first count =
    map (write_of seed) (range_with_len first count)
    ++ Flush ∷ map read_of (range_with_len first count)

-- the operations of session `i` of `k` that have `m` blocks among them
abbrev pub demo_operations : (seed m k i : ℕ) → List Op
demo_operations seed m k i = operations_on seed (share_of i m k) (share_count i m k)

-- what was asked by some exchanges
unfoldable pub ops_of : List Exchange → List Op
ops_of exchanges = map (λ exchange. exchange.op) exchanges

-- each was served: a read got its bytes, and all else is done
unfoldable pub AllServed : List Exchange → Type 0
AllServed [] = Unit {0}
AllServed (exchange ∷ exchanges) = IsServed exchange.op exchange.reply × AllServed exchanges
