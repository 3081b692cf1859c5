use Rattle.std.proofs.Common.{◌∷◌, [], length-append, arith}
use Rattle.volume_cell.specs.Histories.{entry}
use Rattle.volume_cell.proofs.Drawn.{numbered-more}
use Rattle.unit_tests.proofs.cells.TicketsMachine.act.Goals as goal

pub returns-clause-stands : goal.returns-clause-stands
returns-clause-stands g c history name s fits = let e =
    entry name c.args._event c.args.self.now.next in let is = s.0 in (
      omega (arith, is, length-append history (e ∷ [])),
      numbered-more 0 name c.args._event c.args.self.now.next history s.1 (omega (arith, is)),
    )
