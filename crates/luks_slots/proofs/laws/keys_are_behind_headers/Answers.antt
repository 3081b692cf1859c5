use Rattle.luks_slots.proofs.ReadLemmas.{key-behind}
use Rattle.luks_slots.proofs.laws.keys_are_behind_headers.Goals as goal

pub returns : goal.returns
returns c = λ m sizes d image other pass sound same.
    key-behind m d image other pass sizes sound same
