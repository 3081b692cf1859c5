use Rattle.std.proofs.Common.{refl}
use Rattle.hotzone.specs.Steps.{settles, settle_fails}
use Rattle.hotzone.proofs.worker.Worker.settle.Goals as goal

pub returns-in-Ok : goal.returns-in-Ok
returns-in-Ok g c = settles c.args.headers refl c.in-Ok.ensures.call refl

pub returns-in-Err : goal.returns-in-Err
returns-in-Err g c = settle_fails c.args.headers refl c.in-Err.ensures.call (record { is = refl })
