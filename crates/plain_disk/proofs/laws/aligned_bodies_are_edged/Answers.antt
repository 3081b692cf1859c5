use Rattle.plain_disk.proofs.EdgeLemmas.{edged_whole}
use Rattle.plain_disk.proofs.laws.aligned_bodies_are_edged.Goals as goal

pub returns : goal.returns
returns c = λ atom offset bytes body. edged_whole atom offset bytes body
