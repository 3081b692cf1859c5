use Rattle.std.proofs.Common.{refl, ap}
use Rattle.hotzone.specs.Steps.{saves, save_fails}
use Rattle.hotzone.proofs.worker.Worker.save_told.Goals as goal

pub returns-in-Ok : goal.returns-in-Ok
returns-in-Ok g c =
    saves c.args.done c.args.headers refl c.requires.tells c.in-Ok.ensures.call
    (ap (λ n. record c.args.self.now { next = n }) c.behind_save.ensures)

pub returns-in-Err : goal.returns-in-Err
returns-in-Err g c =
    save_fails c.args.done c.args.headers refl c.requires.tells c.in-Err.ensures.call
    (record { is = refl })
