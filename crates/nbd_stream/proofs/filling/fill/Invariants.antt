use Rattle.std.proofs.Common.{◌≡◌, ◌≤◌, ◌-◌, length, take}
use Rattle.nbd_stream.specs.Traffic.{Took}
use Rattle.nbd_stream.proofs.filling.fill.Given as goal

abbrev pub invariant-loop-count : goal.invariant-loop-count
invariant-loop-count g l = record {
  inside : l.count ≤ length l.buf;
  took : Took (g.S.Source.intake l.initial.source) (g.S.Source.intake l.source)
      (take l.count l.buf);
  held : (g.S.Source.intake l.source).faults ≡ (g.S.Source.intake l.initial.source).faults;
}

abbrev pub decreases-loop-count : goal.decreases-loop-count
decreases-loop-count g l = length l.initial.buf - l.count
