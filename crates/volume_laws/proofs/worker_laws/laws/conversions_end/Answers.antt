use Rattle.volume_laws.proofs.WorkerRuns.WorkEnds.{all_ends, faultless_ends}
use Rattle.volume_laws.proofs.worker_laws.laws.conversions_end.Goals as goal

pub returns : goal.returns
returns c _ = record { ends = all_ends; complete = faultless_ends }
