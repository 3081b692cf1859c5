use Rattle.volume_laws.proofs.OtherLanes.{others_left, still_meets}
use Rattle.volume_laws.proofs.laws.events_leave_other_lanes.Goals as goal

pub returns : goal.returns
returns c _ = record { stays = others_left; meets = still_meets }
