use Rattle.std.proofs.Common.{◌≡◌, ◌*◌, ◌++◌, length}
use Rattle.base_terms.specs.Blocks.{blocks_of}
use Rattle.sector_disk.specs.Cells.{sures}
use Rattle.memory_disks.proofs.replay.atoms_of_content.Given as goal

abbrev pub invariant-loop-left : goal.invariant-loop-left
invariant-loop-left l = record {
  made : l.cells.items ++ sures (blocks_of l.atom l.left l.rest)
      ≡ sures (blocks_of l.atom l.atoms l.content);
  enough : length l.rest ≡ l.left * l.atom;
}

abbrev pub decreases-loop-left : goal.decreases-loop-left
decreases-loop-left l = l.left
