use Rattle.volume_laws.proofs.Besides.{keeps_rest}
use Rattle.volume_laws.proofs.laws.runs_leave_the_rest.Goals as goal

pub returns : goal.returns
returns c _ = keeps_rest
