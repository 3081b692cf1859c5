use Rattle.std.proofs.Common.{◌≡◌, ℕ, ◌<◌, ◌≤◌, [], IsSomeAnd, length, slice_index_or, vec_capacity}
use Rattle.volume_cell.specs.Passes.{IsPassOf, known}
use Rattle.block_server.specs.Passing.{IsFirst}
use Rattle.block_server.proofs.EngagingLemmas.{IsEngaged}
use Rattle.block_server.proofs.workers.engage.Given as goal

abbrev pub invariant-loop-link : goal.invariant-loop-link
invariant-loop-link g l = record {
  number : l.number ≡ length l.yielded;
  pass : IsPassOf l.cell l.first;
  first : IsFirst l.number 0 (known l.first);
  joined : (known l.first).joined ≡ [];
  start : (known l.first).start ≡ (known l.initial.first).start;
  count : length l.workers.items ≡ l.number;
  room : length l.fn.links.items ≤ vec_capacity l.workers;
  ready : (k : ℕ) (slot : _) → k < length l.workers.items →
      IsSomeAnd (slice_index_or l.workers.items k slot)
      (IsEngaged
      g.L.Link.state l.cell (length l.fn.links.items) l.shape (known l.initial.first).start
      l.fn.links.items k);
}
