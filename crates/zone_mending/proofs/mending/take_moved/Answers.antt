use Rattle.zone_mending.proofs.OpenZoneLemmas.{behind-disk, behind-goes, behind-keys, behind-maps}
use Rattle.zone_mending.proofs.mending.take_moved.Goals as goal

pub returns-clause-disk : goal.returns-clause-disk
returns-clause-disk g c =
    let is = c.requires.mends in
    behind-disk _ _ _ _ is.zone is.moves is.disk

pub returns-clause-may : goal.returns-clause-may
returns-clause-may g c =
    let is = c.requires.mends in
    behind-goes _ _ _ _ is.zone is.moves

pub returns-clause-maps : goal.returns-clause-maps
returns-clause-maps g c =
    let is = c.requires.mends in
    behind-maps _ _ _ _ is.zone is.moves is.fits

pub returns-clause-keys : goal.returns-clause-keys
returns-clause-keys g c =
    let is = c.requires.mends in
    behind-keys _ _ _ _ is.zone is.moves g.C.SectorCipher.sector c.args.mender.keys is.keys
