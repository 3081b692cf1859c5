-- The blocks of each client, and that requests for them can be sent.
use Rattle.std.proofs.Common.{◌≡◌, ℕ, zero, suc, ◌+◌, ◌*◌, ◌/◌, ◌^◌, ◌<◌, ◌≤◌, List, [], ◌∷◌}
use Rattle.std.proofs.Common.{◌++◌, length, map, ap₂, ◌∙◌, arith, length-append, lit<}
use Rattle.std.proofs.Math.Nat.{div-le_of_le-mul, div-mul-le_self, mul-le-mul_right}
use Rattle.std.proofs.lemmas.Nat.{le-div}
use Rattle.std.proofs.lemmas.List.FromFn.{length-map-range_with_len}
use Rattle.std.specs.List.{range_with_len}
use Rattle.plain_disk.specs.declared.operation.Op.{Op}
use Rattle.plain_disk.specs.declared.operation.Op.TheVariants.{Flush}
use Rattle.demo_clients.specs.Asking.{AllCanBeAsked}
use Rattle.demo_clients.specs.Contents.{demo_block, demo_byte, share_count, share_of}
use Rattle.demo_clients.specs.Operations.{demo_operations, operations_on, read_of, write_of}

-- how long a block is
pub block-length : (seed b : ℕ) → length (demo_block seed b) ≡ 512
unfolding demo_block
block-length seed b = length-map-range_with_len (demo_byte seed b) 0 512

pub can-append : (xs ys : List Op) → AllCanBeAsked xs → AllCanBeAsked ys →
    AllCanBeAsked (xs ++ ys)
unfolding AllCanBeAsked
can-append [] ys here there = there
can-append (x ∷ xs) ys here there = (here.0, can-append xs ys here.1 there)

writes-can : (seed first count : ℕ) → first + count ≤ 2 ^ 32 →
    AllCanBeAsked (map (write_of seed) (range_with_len first count))
unfolding AllCanBeAsked
writes-can seed first zero few = tt
writes-can seed first (suc count) few = (
  (omega (arith, few), omega (arith, block-length seed first)),
  writes-can seed (first + 1) count (omega (arith, few)),
)

reads-can : (first count : ℕ) → first + count ≤ 2 ^ 32 →
    AllCanBeAsked (map read_of (range_with_len first count))
unfolding AllCanBeAsked
reads-can first zero few = tt
reads-can first (suc count) few =
    ((omega (arith, few), lit< tt), reads-can (first + 1) count (omega (arith, few)))

flush-can : (ops : List Op) → AllCanBeAsked ops → AllCanBeAsked (Flush ∷ ops)
unfolding AllCanBeAsked
flush-can ops can = (tt, can)

operations-can : (seed first count : ℕ) → first + count ≤ 2 ^ 32 →
    AllCanBeAsked (operations_on seed first count)
unfolding operations_on
operations-can seed first count few =
    can-append _ _ (writes-can seed first count few) (flush-can _ (reads-can first count few))

-- how many operations there are
pub operations-length : (seed first count : ℕ) →
    length (operations_on seed first count) ≡ count + suc count
unfolding operations_on
operations-length seed first count =
    length-append (map (write_of seed) (range_with_len first count))
    (Flush ∷ map read_of (range_with_len first count))
    ∙ ap₂ (λ (a b : ℕ). a + suc b) (length-map-range_with_len (write_of seed) first count)
    (length-map-range_with_len read_of first count)

-- a share begins within the blocks
pub share-within : (i m k : ℕ) → i ≤ k → share_of i m k ≤ m
share-within i m k few = div-le_of_le-mul k (mul-le-mul_right m few)

-- and ends where the next one begins
pub share-rises : (i m k : ℕ) → 0 < k → share_of i m k ≤ share_of (i + 1) m k
share-rises i m k some =
    let rises : i * m ≤ (i + 1) * m = mul-le-mul_right m (omega arith) in
    le-div (i * m / k) ((i + 1) * m) k some (omega (arith, div-mul-le_self (i * m) k, rises))

pub share-ends : (i m k : ℕ) → i < k → share_of i m k + share_count i m k ≤ m
share-ends i m k below =
    omega (
      arith,
      share-within (i + 1) m k (omega (arith, below)),
      share-rises i m k (omega (arith, below)),
    )

pub demo-can : (seed m k i : ℕ) → m ≤ 16384 → i < k → AllCanBeAsked (demo_operations seed m k i)
demo-can seed m k i few below =
    operations-can seed (share_of i m k) (share_count i m k)
    (omega (arith, few, share-ends i m k below))

pub demo-few : (seed m k i : ℕ) → m ≤ 16384 → i < k → length (demo_operations seed m k i) < 2 ^ 32
demo-few seed m k i few below =
    omega (
      arith,
      few,
      share-ends i m k below,
      operations-length seed (share_of i m k) (share_count i m k),
    )
