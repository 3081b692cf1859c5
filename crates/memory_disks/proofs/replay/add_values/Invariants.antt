use Rattle.std.proofs.Common.{◌≡◌, ◌*◌, ◌/◌, ◌≤◌, length}
use Rattle.base_terms.specs.Blocks.{blocks_of, changed}
use Rattle.memory_disks.specs.Images.{added}
use Rattle.memory_disks.proofs.replay.add_values.Given as goal

abbrev pub invariant-loop-left : goal.invariant-loop-left
invariant-loop-left l = record {
  changes : changed (added l.is_current) l.cells l.place (blocks_of l.atom l.left l.rest)
      ≡ changed (added l.is_current) l.initial.cells l.at
      (blocks_of l.atom (length l.body / l.atom) l.body);
  enough : l.left * l.atom ≤ length l.rest;
}

abbrev pub decreases-loop-left : goal.decreases-loop-left
decreases-loop-left l = l.left
