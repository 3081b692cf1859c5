use Rattle.volume_laws.proofs.Executions.{tells_run}
use Rattle.volume_laws.proofs.laws.tables_are_of_events.Goals as goal

pub returns : goal.returns
returns c _ = tells_run
