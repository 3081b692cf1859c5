use Rattle.volume_laws.proofs.BesideConversions.Ending.{converted_now}
use Rattle.volume_laws.proofs.conversions_beside.laws.conversions_end_beside.Goals as goal

pub returns : goal.returns
returns c _ = converted_now
