use Rattle.luks_store.proofs.Copying.HiddenLemmas.{at-atoms, hide-none}
use Rattle.luks_store.proofs.header_copies.laws.copies_are_told_by_their_fronts.Goals as goal

pub returns-clause-places : goal.returns-clause-places
returns-clause-places c = at-atoms c.copies_are_spelt.ensures

pub returns-clause-hidden : goal.returns-clause-hidden
returns-clause-hidden c = hide-none c.copies_are_spelt.ensures
