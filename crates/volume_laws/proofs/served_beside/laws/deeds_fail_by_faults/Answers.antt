use Rattle.volume_laws.proofs.BesideServing.Failures.{breaks_by_faults, raised_by_faults}
use Rattle.volume_laws.proofs.BesideServing.Faultless.{serves_without_faults}
use Rattle.volume_laws.proofs.served_beside.laws.deeds_fail_by_faults.Goals as goal

pub returns : goal.returns
returns g c = record {
  served = serves_without_faults;
  broken = breaks_by_faults;
  raised = raised_by_faults;
}
