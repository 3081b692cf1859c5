use Rattle.std.proofs.Common.{refl}
use Rattle.hotzone.specs.Steps.{begins, begin_fails}
use Rattle.hotzone.proofs.worker.Worker.begin.Goals as goal

pub returns-in-Ok : goal.returns-in-Ok
returns-in-Ok g c = begins refl c.in-Ok.ensures.call refl

pub returns-in-Err : goal.returns-in-Err
returns-in-Err g c = begin_fails refl c.in-Err.ensures.call (record { is = refl })
