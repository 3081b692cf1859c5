use Rattle.reenc_recovery.proofs.ImageLemmas.{one_for, one_under}
use Rattle.reenc_recovery.proofs.PlacingLemmas.{placed_once}
use Rattle.reenc_recovery.proofs.laws.images_stand_for_one.Goals as goal

pub returns-clause-keys : goal.returns-clause-keys
returns-clause-keys c = one_under (placed_once c.placements_are_one.ensures)

pub returns-clause-passphrase : goal.returns-clause-passphrase
returns-clause-passphrase c = one_for (placed_once c.placements_are_one.ensures)
