use Rattle.shared_volume.proofs.OwnCalls.{answered-joined}
use Rattle.shared_volume.proofs.laws.answers_join.Goals as goal

pub returns : goal.returns
returns c _ = answered-joined
