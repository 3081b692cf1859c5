use Rattle.luks_store.proofs.Copying.MeaningLemmas.{reads_copies}
use Rattle.luks_store.proofs.header_copies.laws.copies_are_read.Goals as goal

pub returns : goal.returns
returns c = reads_copies c.copies_are_spelt.ensures
