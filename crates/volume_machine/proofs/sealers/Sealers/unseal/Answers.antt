use Rattle.std.proofs.Common.{length}
use Rattle.volume_machine.proofs.KeyLemmas.{whole-atoms}
use Rattle.volume_machine.proofs.sealers.Sealers.unseal.Goals as goal

pub unseal_atom-requires-clause-whole : goal.unseal_atom-requires-clause-whole
unseal_atom-requires-clause-whole g c =
    whole-atoms (length c.args.bytes.now) c.args.atom (g.C.SectorCipher.sector c.args.cipher.now)
    c.requires.whole c.requires.sectors
