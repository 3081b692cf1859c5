use Rattle.std.proofs.Math.Nat.{mul-mod_left}
use Rattle.volume_machine.proofs.KeyLemmas.{side-sectors}
use Rattle.volume_machine.proofs.keys.Keys.seal.Goals as goal

pub seal-requires-clause-sectors : goal.seal-requires-clause-sectors
seal-requires-clause-sectors g c κs within =
    rw c.key.ensures
    (side-sectors g.C.SectorCipher.sector c.args.self.now c.args.atom _ c.args.piece.side
    c.requires.fits)

pub seal-requires-clause-whole : goal.seal-requires-clause-whole
seal-requires-clause-whole g c κs within =
    rw c.requires.size (mul-mod_left c.args.piece.count c.args.atom)
