use Rattle.std.proofs.Common.{arith}
use Rattle.range_lock.proofs.Shown.{length-by_rank}
use Rattle.range_lock.proofs.table.Table.is_full.Goals as goal

pub returns : goal.returns
returns c =
    rw (← c.self.view_is) (grind (arith, length-by_rank c.self.inside.sorted.items, c.len.ensures))
