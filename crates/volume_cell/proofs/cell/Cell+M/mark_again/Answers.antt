use Rattle.std.proofs.Common.{arith}
use Rattle.volume_cell.proofs.Turns.{counts}
use Rattle.volume_cell.proofs.cell.Cell+M.mark_again.Goals as goal

pub store-requires : goal.store-requires
store-requires g c = (
  c.requires,
  omega (arith, c.args.self.now.sizes.0),
  counts g.M.Machine.start g.M.Machine.stands_for _ _ _ _ (λ _. 1),
)
