use Rattle.volume_laws.proofs.LanesAlone.{are_alone, next_meets, more_met}
use Rattle.volume_laws.proofs.laws.lanes_are_alone.Goals as goal

pub returns : goal.returns
returns c _ = record { runs = are_alone; next = next_meets; more = more_met }
