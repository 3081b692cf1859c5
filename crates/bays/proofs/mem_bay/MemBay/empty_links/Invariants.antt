use Rattle.std.proofs.Common.{◌≡◌, ℕ, ◌<◌, [], length, slice_index_or}
use Rattle.std.specs.Vec.{vec_capacity}
use Rattle.bays.specs.Memory.{Line, fails_of, new_line}
use Rattle.bays.proofs.mem_bay.MemBay.empty_links.Given as goal

abbrev pub invariant-loop-worker : goal.invariant-loop-worker
invariant-loop-worker l = record {
  room : vec_capacity l.links ≡ l.workers;
  count : length l.links.items ≡ l.worker;
  empty : (k : ℕ) (d : Line) → k < l.worker →
      slice_index_or l.links.items k d ≡ new_line [] (length l.self.connections)
      (fails_of l.self.link_fails k);
}
