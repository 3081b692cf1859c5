use Rattle.volume_laws.proofs.VolumeStart.{starts_covered}
use Rattle.volume_laws.proofs.laws.settled_volumes_are_covered.Goals as goal

pub returns : goal.returns
returns c _ = starts_covered
