use Rattle.luks_bin.proofs.ReadLemmas.{spelt, spells}
use Rattle.luks_bin.proofs.laws.copies_are_spelt.Goals as goal

pub returns : goal.returns
returns c = λ place bytes h. (spelt place bytes h, spells place bytes h)
