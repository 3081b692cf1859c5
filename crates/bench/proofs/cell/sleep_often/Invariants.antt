use Rattle.volume_cell.specs.Passes.{IsPassOf}
use Rattle.bench.proofs.cell.sleep_often.Given as goal

abbrev pub invariant-loop : goal.invariant-loop
invariant-loop g l = IsPassOf l.fn.cell l.pass
