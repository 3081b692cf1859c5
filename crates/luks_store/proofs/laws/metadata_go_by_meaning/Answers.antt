use Rattle.luks_store.proofs.LoadLemmas.{loads-meaning}
use Rattle.luks_store.proofs.TextLemmas.{meta-same}
use Rattle.luks_store.proofs.laws.metadata_go_by_meaning.Goals as goal

pub returns-clause-copies : goal.returns-clause-copies
returns-clause-copies c = meta-same c.copies_mean_what_they_share.ensures

pub returns-clause-loads : goal.returns-clause-loads
returns-clause-loads c =
    loads-meaning c.copies_are_spelt.ensures c.copies_mean_what_they_share.ensures
