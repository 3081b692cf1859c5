use Rattle.std.proofs.Common.{◌≡◌, drop}
use Rattle.luks_rules.specs.Shapes.{numbered}
use Rattle.luks_rules.proofs.shape.is_numbered.Given as goal

abbrev pub invariant-loop-extent : goal.invariant-loop-extent
invariant-loop-extent l =
    record {
      counted : l.next ≡ l.extent-index;
      rest : numbered l.next (drop l.extent-index l.extents) ≡ numbered 0 l.extents;
    }
