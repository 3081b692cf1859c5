use Rattle.std.proofs.Common.{refl}
use Rattle.luks_store.proofs.Copying.MeaningLemmas.{means_header, written_header}
use Rattle.luks_store.proofs.header_copies.laws.copies_mean_their_headers.Goals as goal

pub returns-clause-each : goal.returns-clause-each
returns-clause-each c =
    λ place copy h is long. means_header c.copies_are_spelt.ensures place copy h is long

pub returns-clause-both : goal.returns-clause-both
returns-clause-both c = λ a b one two is_a is_b long_a long_b same agree.
    written_header c.copies_are_spelt.ensures one.hdr_size a b one two refl same is_a is_b long_a
    long_b agree
