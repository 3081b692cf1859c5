use Rattle.reenc_recovery.proofs.OpenedLemmas.{starts_as_image}
use Rattle.reenc_recovery.proofs.laws.opened_volumes_start.Goals as goal

pub returns : goal.returns
returns g c =
    λ sizes key all volume is sound fresh values long bytes.
    starts_as_image g.C.SectorCipher.sector g.C.SectorCipher.sealed g.C.SectorCipher.opened sizes
    key all volume is c.keys_seal_lawfully.ensures c.volumes_start.ensures sound fresh values long
    bytes
