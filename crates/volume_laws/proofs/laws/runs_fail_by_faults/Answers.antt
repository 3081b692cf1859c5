use Rattle.volume_laws.proofs.Faultless.{serves_without_faults}
use Rattle.volume_laws.proofs.Failures.{breaks_by_faults}
use Rattle.volume_laws.proofs.laws.runs_fail_by_faults.Goals as goal

pub returns : goal.returns
returns c _ = record { served = serves_without_faults; broken = breaks_by_faults }
