use Rattle.volume_machine.proofs.Soundness.{sound_kept}
use Rattle.volume_machine.proofs.laws.volumes_stay_sound.Goals as goal

pub returns : goal.returns
returns c _ = sound_kept
