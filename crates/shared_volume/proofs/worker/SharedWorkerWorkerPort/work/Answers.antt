use Rattle.std.proofs.Common.{[], refl, subst, sym, ◌∷◌}
use Rattle.volume_cell.specs.Passes.{known}
use Rattle.shared_volume.specs.Working.{HasCalled}
use Rattle.shared_volume.proofs.Stood.{asked-so}
use Rattle.shared_volume.proofs.WorkerTurns.{called-none, called-one}
use Rattle.shared_volume.proofs.worker.SharedWorkerWorkerPort.work.Goals as goal

pub returns-in-Ok-Worker-clause-worked : goal.returns-in-Ok-Worker-clause-worked
returns-in-Ok-Worker-clause-worked g c =
    let e = c.in-Ok-Worker.ensures in
    let limit = c.args.self.now.shared.now.cell.limit in
    let number = c.args.self.now.number in record {
      cell_is = refl;
      number_is = refl;
      called = subst (λ answer. HasCalled limit number (known c.args.self.now.pass)
          (known c.turn.new.pass) c.args.self.now.converted c.in-Ok-Worker.made.converted
          (answer ∷ [])) (sym c.told-answer.ensures)
          (called-one limit number (known c.args.self.now.pass) (known c.turn.new.pass) e.same
          c.in-Ok-Worker.made c.args.self.now.converted
          (rw c.in-Ok-Worker.field-0-is at e.answer));
    }

pub unreachable-requires : goal.unreachable-requires
unreachable-requires g c =
    let e = c.in-Ok-Client.ensures in
    let answered = rw c.in-Ok-Client.field-0-is at e.answer in
    (asked-so _ _ _ _ _ _ _ _ e.stood.stands answered).deed

pub returns-clause-worked : goal.returns-clause-worked
returns-clause-worked g c =
    let e = c.in-Err.ensures in
    let limit = c.args.self.now.shared.now.cell.limit in
    let number = c.args.self.now.number in record {
      cell_is = refl;
      number_is = refl;
      called = called-none limit number (known c.args.self.now.pass) (known c.turn.new.pass)
          e.same c.args.self.now.converted e.answer;
    }
