use Rattle.luks_bin.proofs.ReadLemmas.{copy-front}
use Rattle.luks_bin.proofs.laws.copies_are_their_fronts.Goals as goal

pub returns : goal.returns
returns c = copy-front
