use Rattle.std.proofs.Common.{refl}
use Rattle.hotzone.specs.Steps.{keeps, keep_fails}
use Rattle.hotzone.proofs.worker.Worker.keep.Goals as goal

pub returns-in-Ok-clause-makes : goal.returns-in-Ok-clause-makes
returns-in-Ok-clause-makes g c = keeps c.args.headers refl c.in-Ok.ensures.call refl

pub returns-in-Err-clause-makes : goal.returns-in-Err-clause-makes
returns-in-Err-clause-makes g c = keep_fails c.args.headers refl c.in-Err.ensures.call (record { is = refl })
