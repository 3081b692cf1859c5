use Rattle.reenc_recovery.proofs.KeepLemmas.{for_both, under_both}
use Rattle.reenc_recovery.proofs.PlacingLemmas.{placed_once}
use Rattle.reenc_recovery.proofs.laws.contents_stay_behind_headers.Goals as goal

pub returns-clause-keys : goal.returns-clause-keys
returns-clause-keys c =
    λ sizes header p first now is right holds.
    under_both (placed_once c.placements_are_one.ensures) sizes header p first now is right holds

pub returns-clause-passphrase : goal.returns-clause-passphrase
returns-clause-passphrase c =
    λ sizes header p first now is right sound holds.
    for_both (placed_once c.placements_are_one.ensures) sizes header p first now is right holds
    c.keys_are_behind_headers.ensures sound
