use Rattle.volume_laws.proofs.WorkerRuns.RestRuns.{leaves_rest}
use Rattle.volume_laws.proofs.worker_laws.laws.works_leave_the_rest.Goals as goal

pub returns : goal.returns
returns c _ = leaves_rest _
