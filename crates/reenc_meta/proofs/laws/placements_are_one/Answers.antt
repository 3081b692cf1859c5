use Rattle.reenc_meta.proofs.IdleLemmas.{same_placement}
use Rattle.reenc_meta.proofs.laws.placements_are_one.Goals as goal

pub returns : goal.returns
returns c = same_placement
