use Rattle.volume_laws.proofs.HeadersTell.{tells_beside}
use Rattle.volume_laws.proofs.laws.headers_tell_of_conversions.Goals as goal

pub returns : goal.returns
returns c _ = tells_beside
