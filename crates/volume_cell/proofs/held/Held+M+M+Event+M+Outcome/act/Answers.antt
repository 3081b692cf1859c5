use Rattle.std.proofs.Common.{refl}
use Rattle.volume_cell.proofs.held.Held+M+M+Event+M+Outcome.act.Goals as goal

pub returns-clause-noted : goal.returns-clause-noted
returns-clause-noted g c = (_, refl, c.of-asked.ensures, c.of.ensures)
