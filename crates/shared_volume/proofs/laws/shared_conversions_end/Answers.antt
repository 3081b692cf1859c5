use Rattle.shared_volume.proofs.Ending.{converted-by-end}
use Rattle.shared_volume.proofs.laws.shared_conversions_end.Goals as goal

pub returns : goal.returns
returns c _ = converted-by-end
