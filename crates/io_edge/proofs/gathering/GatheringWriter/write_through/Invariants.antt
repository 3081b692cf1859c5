use Rattle.std.proofs.Common.{◌≤◌, length}
use Rattle.io_edge.proofs.WriteLemmas.{HasWritten}
use Rattle.io_edge.proofs.gathering.GatheringWriter.write_through.Given as goal

abbrev pub invariant-loop : goal.invariant-loop
invariant-loop g l = record {
  within : l.at ≤ length l.bytes;
  written : HasWritten g.W.WritePair.writes l.initial.self.writer l.initial.self.held.items l.bytes
      l.at l.counter l.self.writer l.self.held.items;
}
