use Rattle.volume_laws.proofs.VolumesKept.{deeds_in_order, event_in_order, step_in_order}
use Rattle.volume_laws.proofs.laws.workers_keep_volumes_sound.Goals as goal

pub returns : goal.returns
returns c _ = record { steps = step_in_order; events = event_in_order; runs = deeds_in_order }
