use Rattle.std.proofs.Common.{arith}
use Rattle.std.specs.Prelude.{max}
use Rattle.volume_cell.proofs.Turns.{counts}
use Rattle.volume_cell.proofs.cell.Cell+M.sleep.Goals as goal

pub fetch_max-requires : goal.fetch_max-requires
fetch_max-requires g c = (
  c.requires,
  omega (arith, c.args.self.now.sizes.0),
  counts g.M.Machine.start g.M.Machine.stands_for _ _ _ _
      (λ n. max n c.if-sleeps-lt-VAIN_WAKES.wanted),
)
