use Rattle.reenc_recovery.proofs.PassphraseLemmas.{stood_for}
use Rattle.reenc_recovery.proofs.PlacingLemmas.{placed_once}
use Rattle.reenc_recovery.proofs.laws.opened_volumes_go_by_passphrases.Goals as goal

pub returns : goal.returns
returns g c =
    λ sizes key header first volume is pass unlocked.
    stood_for g.C.SectorCipher.sector g.C.SectorCipher.sealed g.C.SectorCipher.opened sizes key
    header first volume is (placed_once c.placements_are_one.ensures) pass unlocked
