use Rattle.std.proofs.Common.{refl}
use Rattle.hotzone.specs.Steps.{rests, rest_fails}
use Rattle.hotzone.proofs.worker.Worker.rest.Goals as goal

pub returns-in-Ok : goal.returns-in-Ok
returns-in-Ok g c = rests c.args.ending refl c.in-Ok.ensures.call refl

pub returns-in-Err : goal.returns-in-Err
returns-in-Err g c = rest_fails c.args.ending refl c.in-Err.ensures.call (record { is = refl })
