use Rattle.hotzone.proofs.ZoneEvents.SizeLemmas.{atoms-agree, sizes-told}
use Rattle.hotzone.proofs.zone_events.laws.sizes_are_told.Goals as goal

pub returns-clause-sizes : goal.returns-clause-sizes
returns-clause-sizes g c = sizes-told g.C.SectorCipher.sector

pub returns-clause-atoms : goal.returns-clause-atoms
returns-clause-atoms g c = atoms-agree g.C.SectorCipher.sector
