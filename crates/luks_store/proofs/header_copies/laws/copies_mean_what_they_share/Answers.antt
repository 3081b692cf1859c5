use Rattle.luks_store.proofs.Copying.MeaningLemmas.{agreeing_means, meaning_agrees}
use Rattle.luks_store.proofs.header_copies.laws.copies_mean_what_they_share.Goals as goal

pub returns : goal.returns
returns c =
    λ a b some long.
    (λ same. meaning_agrees a b some long same, λ agree. agreeing_means a b long agree)
