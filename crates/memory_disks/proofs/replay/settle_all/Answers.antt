use Rattle.memory_disks.proofs.ReplayLemmas.{settled_step}
use Rattle.memory_disks.proofs.replay.settle_all.Goals as goal

pub loop-cell-preserved : goal.loop-cell-preserved
loop-cell-preserved c =
    rw c.in_ok-settle.ensures
    (settled_step c.args.cells.now c.loop-cell.cells c.loop-cell.cell-index c.cell-item.result
    c.loop-cell.invariant c.loop-cell-test.true)
