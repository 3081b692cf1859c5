use Rattle.volume_cell.specs.Passes.{known}
use Rattle.shared_volume.proofs.WorkerTurns.{worker-of-split}
use Rattle.shared_volume.proofs.worker.SharedWorker.split_off.Goals as goal

pub returns-clause-worker : goal.returns-clause-worker
returns-clause-worker g c =
    worker-of-split (known c.args.first.now) _ c.args.number c.requires.first c.requires.next
    c.requires.has c.split-pass.ensures.new.1
