use Rattle.std.proofs.Common.{◌≡◌, ◌++◌, drop}
use Rattle.base_terms.specs.Blocks.{joined}
use Rattle.memory_disks.specs.Images.{image_from}
use Rattle.memory_disks.proofs.replay.image_bytes.Given as goal

abbrev pub invariant-loop-i : goal.invariant-loop-i
invariant-loop-i l = l.bytes.items ++ joined (image_from l.choice l.i (drop l.i l.cells))
    ≡ joined (image_from l.choice 0 l.cells)
