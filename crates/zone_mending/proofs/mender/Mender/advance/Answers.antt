use Rattle.zone_mending.proofs.StepLemmas.{asks, stepped-by}
use Rattle.zone_mending.proofs.mender.Mender.advance.Goals as goal

pub make-requires-clause-asks : goal.make-requires-clause-asks
make-requires-clause-asks g c =
    λ κs lives. asks g.C.SectorCipher.sector c.args.self.now _ c.requires.mends c.requires.sizes c.requires.goes

pub returns : goal.returns
returns g c =
    stepped-by g.C.SectorCipher.sector _ _ _ c.args.self.now _ _ c.requires.mends c.requires.sizes
    c.make.ensures
