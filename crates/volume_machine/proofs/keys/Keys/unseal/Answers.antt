use Rattle.std.proofs.Math.Nat.{mul-mod_left}
use Rattle.volume_machine.proofs.KeyLemmas.{side-sectors}
use Rattle.volume_machine.proofs.keys.Keys.unseal.Goals as goal

pub unseal-requires-clause-sectors : goal.unseal-requires-clause-sectors
unseal-requires-clause-sectors g c κs within =
    rw c.key.ensures
    (side-sectors g.C.SectorCipher.sector c.args.self.now c.args.atom _ c.args.piece.side
    c.requires.fits)

pub unseal-requires-clause-whole : goal.unseal-requires-clause-whole
unseal-requires-clause-whole g c κs within =
    rw c.requires.size (mul-mod_left c.args.piece.count c.args.atom)
