use Rattle.volume_laws.proofs.BesideServing.Tables.{tells_deeds}
use Rattle.volume_laws.proofs.served_beside.laws.tables_are_of_deeds.Goals as goal

pub returns : goal.returns
returns g c = tells_deeds
