use Rattle.volume_laws.proofs.VolumeStart.{plain_starts, plain_covered}
use Rattle.volume_laws.proofs.laws.plain_volumes_start.Goals as goal

pub returns : goal.returns
returns c _ = record { starts = plain_starts; covered = plain_covered }
