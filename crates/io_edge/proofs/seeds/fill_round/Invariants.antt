use Rattle.std.proofs.Common.{◌≡◌, ℕ, ◌+◌, ◌%◌, ◌<◌, length, slice_index}
use Rattle.io_edge.specs.Memory.{round_from}
use Rattle.io_edge.proofs.seeds.fill_round.Given as goal

abbrev pub invariant-loop-byte : goal.invariant-loop-byte
invariant-loop-byte l = record {
  inside : l.next < length l.bytes;
  next : l.next ≡ (l.at + l.byte-index) % length l.bytes;
  round : (k : ℕ) → k < l.byte-index → slice_index l.buf k ≡ round_from l.bytes l.at k;
}
