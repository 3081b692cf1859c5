use Rattle.volume_laws.proofs.WorkerRuns.RestRuns.{deeds_leave}
use Rattle.volume_laws.proofs.worker_laws.laws.deeds_leave_the_rest.Goals as goal

pub returns : goal.returns
returns c _ = deeds_leave _
