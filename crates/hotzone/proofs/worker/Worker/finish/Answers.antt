use Rattle.std.proofs.Common.{refl}
use Rattle.hotzone.specs.Steps.{finish_refuses}
use Rattle.hotzone.proofs.worker.Worker.finish.Goals as goal

pub returns-in-Err : goal.returns-in-Err
returns-in-Err g c = finish_refuses _ refl c.in-Err.ensures.unmade refl (record { is = refl })
