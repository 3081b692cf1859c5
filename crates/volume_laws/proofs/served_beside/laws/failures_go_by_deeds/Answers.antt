use Rattle.volume_laws.proofs.BesideServing.Failures.{goes_by_deeds}
use Rattle.volume_laws.proofs.served_beside.laws.failures_go_by_deeds.Goals as goal

pub returns : goal.returns
returns g c = goes_by_deeds
