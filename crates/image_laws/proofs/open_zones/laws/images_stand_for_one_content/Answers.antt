use Rattle.image_laws.proofs.Opened.OneLemmas.{any-for, any-under, one-way}
use Rattle.image_laws.proofs.Opened.TurnLemmas.{zone-is-run}
use Rattle.image_laws.proofs.open_zones.laws.images_stand_for_one_content.Goals as goal

pub returns-clause-keys : goal.returns-clause-keys
returns-clause-keys c = any-under c.images_stand_for_one.ensures.keys

pub returns-clause-passphrase : goal.returns-clause-passphrase
returns-clause-passphrase c = any-for c.images_stand_for_one.ensures.passphrase

pub returns-clause-way : goal.returns-clause-way
returns-clause-way c = one-way

pub returns-clause-run : goal.returns-clause-run
returns-clause-run c = zone-is-run
