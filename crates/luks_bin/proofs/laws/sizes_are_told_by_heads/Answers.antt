use Rattle.luks_bin.proofs.ReadLemmas.{size-head}
use Rattle.luks_bin.proofs.laws.sizes_are_told_by_heads.Goals as goal

pub returns : goal.returns
returns c = size-head
