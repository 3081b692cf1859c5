use Rattle.recovery_laws.proofs.Resumed.StartLemmas.{begun-start}
use Rattle.recovery_laws.proofs.resumed_volumes.laws.begun_conversions_start.Goals as goal

pub returns : goal.returns
returns g c =
    let cipher = g.C.SectorCipher in
    begun-start cipher.sector cipher.sealed cipher.opened c.keys_seal_lawfully.ensures
