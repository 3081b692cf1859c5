use Rattle.std.proofs.Common.{refl, ap}
use Rattle.hotzone.specs.Steps.{wipes, wipe_fails}
use Rattle.hotzone.proofs.worker.Worker.wipe.Goals as goal

pub returns-in-Ok : goal.returns-in-Ok
returns-in-Ok g c =
    wipes c.args.done c.args.ending refl c.in-Ok.ensures
    (ap (λ n. record c.args.self.now { next = n }) c.behind_wipe.ensures)

pub returns-in-Err : goal.returns-in-Err
returns-in-Err g c =
    wipe_fails c.args.done c.args.ending refl c.in-Err.ensures (record { is = refl })
