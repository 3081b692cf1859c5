use Rattle.luks_store.proofs.LoadLemmas.{used-stands}
use Rattle.luks_store.proofs.PlaceLemmas.{used-given, none-stands}
use Rattle.luks_store.proofs.UsesLemmas.{both-good, given-used}
use Rattle.luks_store.proofs.laws.used_copies_are_headers.Goals as goal

pub returns-clause-used : goal.returns-clause-used
returns-clause-used c = used-given c.copies_are_spelt.ensures

pub returns-clause-stands : goal.returns-clause-stands
returns-clause-stands c = used-stands c.copies_are_spelt.ensures

pub returns-clause-none : goal.returns-clause-none
returns-clause-none c = none-stands c.copies_are_spelt.ensures

pub returns-clause-given : goal.returns-clause-given
returns-clause-given c = given-used c.copies_are_spelt.ensures

pub returns-clause-both : goal.returns-clause-both
returns-clause-both c = both-good c.copies_are_spelt.ensures
