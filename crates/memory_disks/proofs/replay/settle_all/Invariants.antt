use Rattle.std.proofs.Common.{◌≡◌, ◌++◌, map, take, drop}
use Rattle.sector_disk.specs.Cells.{synced}
use Rattle.memory_disks.proofs.replay.settle_all.Given as goal

abbrev pub invariant-loop-cell : goal.invariant-loop-cell
invariant-loop-cell l = l.cells ≡ map synced
    (take l.cell-index l.initial.cells) ++ drop l.cell-index l.initial.cells
