use Rattle.volume_laws.proofs.Executions.{stops_along}
use Rattle.volume_laws.proofs.laws.runs_stop_anywhere.Goals as goal

pub returns : goal.returns
returns c _ = stops_along
