use Rattle.luks_slots.proofs.ReadLemmas.{key-in-areas}
use Rattle.luks_slots.proofs.laws.keys_are_in_areas.Goals as goal

pub returns : goal.returns
returns c = λ m sizes d image other pass sound known same.
    key-in-areas m d image other pass sizes sound known same
