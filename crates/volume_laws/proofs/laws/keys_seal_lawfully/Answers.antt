use Rattle.volume_laws.proofs.SealLemmas.{keys_are_lawful}
use Rattle.volume_laws.proofs.laws.keys_seal_lawfully.Goals as goal

pub returns : goal.returns
returns c _ keys atom known old new =
    let cipher = c.C.SectorCipher in
    keys_are_lawful cipher.sector cipher.sealed cipher.opened keys atom
    (record {
      sealed_length = c.met.C.SectorCipher.sealed_length;
      opened_length = c.met.C.SectorCipher.opened_length;
      sealed_bytes = c.met.C.SectorCipher.sealed_bytes;
      opened_bytes = c.met.C.SectorCipher.opened_bytes;
      unseal_undoes_seal = c.met.C.SectorCipher.unseal_undoes_seal;
      seal_undoes_unseal = c.met.C.SectorCipher.seal_undoes_unseal;
      sealed_joined = c.met.C.SectorCipher.sealed_joined;
      opened_joined = c.met.C.SectorCipher.opened_joined;
    })
    known old new
