use Rattle.hotzone.proofs.CompareLemmas.{clash-later}
use Rattle.std.proofs.Common.{refl}
use Rattle.hotzone.proofs.worker.Worker.save.Goals as goal

pub returns-in-Some-clause-makes : goal.returns-in-Some-clause-makes
returns-in-Some-clause-makes g c =
    rw c.give_up.ensures
    (clash-later _ _ _ c.args.self.now c.args.done c.args.headers c.in-Some.fault
    c.in-Some.ensures.finds refl)
