use Rattle.luks_store.proofs.BegunLemmas.{commits-begin}
use Rattle.luks_store.proofs.laws.commits_begin.Goals as goal

pub returns : goal.returns
returns c = commits-begin c.copies_are_spelt.ensures c.copies_are_read.ensures
