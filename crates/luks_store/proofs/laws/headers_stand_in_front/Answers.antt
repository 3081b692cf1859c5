use Rattle.luks_store.proofs.FrontLemmas.{areas-begin, fronts-loaded}
use Rattle.luks_store.proofs.laws.headers_stand_in_front.Goals as goal

pub returns-clause-loads : goal.returns-clause-loads
returns-clause-loads c = fronts-loaded c.copies_are_spelt.ensures

pub returns-clause-areas : goal.returns-clause-areas
returns-clause-areas c = areas-begin c.copies_are_spelt.ensures
