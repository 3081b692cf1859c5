use Rattle.std.proofs.Common.{arith, eqb}
use prog.Atomic.{either}
use Rattle.volume_cell.proofs.Turns.{counts}
use Rattle.volume_cell.proofs.cell.Cell+M.wake.Goals as goal

pub compare_exchange-requires : goal.compare_exchange-requires
compare_exchange-requires g c = (
  c.requires,
  omega (arith, c.args.self.now.sizes.0),
  counts g.M.Machine.start g.M.Machine.stands_for _ _ _ _
      (λ n. either (eqb n c.peek-mark.result) c.if-mark-eq-URGES.next n),
)
