use Rattle.volume_cell.specs.Asking.{HasLooked}
use Rattle.volume_cell.proofs.cell.Cell+M.take.Given as goal

abbrev pub invariant-loop : goal.invariant-loop
invariant-loop g l = HasLooked l.initial.pass l.pass
