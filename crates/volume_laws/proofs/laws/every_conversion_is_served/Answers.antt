use Rattle.volume_laws.proofs.DeedsServed.{serves_beside}
use Rattle.volume_laws.proofs.laws.every_conversion_is_served.Goals as goal

pub returns : goal.returns
returns c _ = serves_beside
