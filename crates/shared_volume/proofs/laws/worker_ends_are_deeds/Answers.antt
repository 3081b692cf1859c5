use Rattle.shared_volume.proofs.Ending.{end-is-deed, spent-went-on}
use Rattle.shared_volume.proofs.laws.worker_ends_are_deeds.Goals as goal

pub returns : goal.returns
returns c _ = record { ended = end-is-deed; spent = spent-went-on }
