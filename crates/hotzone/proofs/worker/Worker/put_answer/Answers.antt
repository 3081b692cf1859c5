use Rattle.std.proofs.Common.{refl}
use Rattle.hotzone.proofs.ReadLemmas.{halted-by}
use Rattle.hotzone.proofs.worker.Worker.put_answer.Goals as goal

pub returns-in-Ok : goal.returns-in-Ok
returns-in-Ok g c = rw c.in-Ok.is (c.put_next.ensures, refl)

pub returns-in-Err : goal.returns-in-Err
returns-in-Err g c =
    rw c.in-Err.is
    (halted-by c.put_next.new.self _ c.in-Err.stop.halt c.put_next.ensures, refl)
