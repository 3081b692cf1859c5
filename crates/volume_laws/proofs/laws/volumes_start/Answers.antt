use Rattle.volume_laws.proofs.VolumeStart.{volume_starts}
use Rattle.volume_laws.proofs.laws.volumes_start.Goals as goal

pub returns : goal.returns
returns c _ = volume_starts
