use Rattle.luks_rules.proofs.ShareLemmas.{shared, overlaps}
use Rattle.luks_rules.proofs.overlaps.overlaps_are_shared_bytes.Goals as goal

pub returns : goal.returns
returns c = λ areas. (shared areas, overlaps areas)
