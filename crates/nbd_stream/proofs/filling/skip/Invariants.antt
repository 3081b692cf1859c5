use Rattle.std.proofs.Common.{◌-◌, ◌≡◌, ◌≤◌, ℕ, List, length}
use Rattle.nbd_stream.specs.Traffic.{Took}
use Rattle.nbd_stream.proofs.filling.skip.Given as goal

abbrev pub invariant-loop-count : goal.invariant-loop-count
invariant-loop-count g l = record {
  inside : l.count ≤ l.length;
  buffer : length l.buf ≡ 4096;
  took : (bytes : List ℕ) × (length bytes ≡ l.count)
      × Took (g.S.Source.intake l.initial.source) (g.S.Source.intake l.source) bytes;
  held : (g.S.Source.intake l.source).faults ≡ (g.S.Source.intake l.initial.source).faults;
}

abbrev pub decreases-loop-count : goal.decreases-loop-count
decreases-loop-count g l = l.length - l.count
