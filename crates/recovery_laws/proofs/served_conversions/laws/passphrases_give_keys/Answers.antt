use Rattle.recovery_laws.proofs.Served.KeyLemmas.{passphrases-give}
use Rattle.recovery_laws.proofs.served_conversions.laws.passphrases_give_keys.Goals as goal

pub returns : goal.returns
returns g c =
    let cipher = g.C.SectorCipher in
    passphrases-give cipher.sector cipher.sealed cipher.opened
