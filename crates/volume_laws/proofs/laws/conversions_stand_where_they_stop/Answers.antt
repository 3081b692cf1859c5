use Rattle.volume_laws.proofs.DeedsServed.{now_beside, stops_beside}
use Rattle.volume_laws.proofs.laws.conversions_stand_where_they_stop.Goals as goal

pub returns : goal.returns
returns c _ = record { stops = stops_beside; now = now_beside }
