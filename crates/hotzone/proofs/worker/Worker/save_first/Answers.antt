use Rattle.hotzone.proofs.CompareLemmas.{clash-first}
use Rattle.std.proofs.Common.{refl}
use Rattle.hotzone.proofs.worker.Worker.save_first.Goals as goal

pub returns-in-Some-clause-makes : goal.returns-in-Some-clause-makes
returns-in-Some-clause-makes g c =
    rw c.give_up.ensures
    (clash-first _ _ _ c.args.self.now c.in-Some.fault c.in-Some.ensures.finds refl)
