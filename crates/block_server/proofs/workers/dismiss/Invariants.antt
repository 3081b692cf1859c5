use Rattle.std.proofs.Common.{◌≡◌, ℕ, ◌+◌, [], length}
use Rattle.volume_cell.specs.Passes.{IsPassOf, known}
use Rattle.block_server.specs.Leaving.{HasRoom, IsLeftOf}
use Rattle.block_server.specs.Passing.{IsFirst, KnowsAll, account_of}
use Rattle.block_server.specs.Slots.{each_of}
use Rattle.block_server.proofs.workers.dismiss.Given as goal

abbrev pub invariant-loop-slot : goal.invariant-loop-slot
invariant-loop-slot g l = record {
  pass : IsPassOf l.cell l.first;
  name : (known l.first).name ≡ [];
  first : (splits : ℕ) → IsFirst splits 0 (known l.initial.first)
      → IsFirst splits (length l.yielded) (known l.first);
  joined : (known l.first).joined ≡ each_of account_of l.yielded;
  start : (known l.first).start ≡ (known l.initial.first).start;
  knows : KnowsAll (known l.first) l.yielded;
  left : IsLeftOf l.yielded l.leavings;
  room : (count : ℕ) → length l.yielded + count ≡ length l.fn.workers.items
      → HasRoom count l.leavings;
}
