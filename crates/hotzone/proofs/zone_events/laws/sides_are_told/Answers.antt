use Rattle.hotzone.proofs.ZoneEvents.SidesToldLemmas.{sides-told}
use Rattle.hotzone.proofs.zone_events.laws.sides_are_told.Goals as goal

pub returns : goal.returns
returns _ = sides-told
