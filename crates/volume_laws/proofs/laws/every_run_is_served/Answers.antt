use Rattle.volume_laws.proofs.RunsServed.{serves_each_run}
use Rattle.volume_laws.proofs.laws.every_run_is_served.Goals as goal

pub returns : goal.returns
returns c _ = serves_each_run
