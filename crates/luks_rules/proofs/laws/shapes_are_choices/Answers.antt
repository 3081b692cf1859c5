use Rattle.luks_rules.proofs.ChoiceLemmas.{state_found, state_known}
use Rattle.luks_rules.proofs.OneChoiceLemmas.{one_choice}
use Rattle.luks_rules.proofs.laws.shapes_are_choices.Goals as goal

pub returns-clause-found : goal.returns-clause-found
returns-clause-found c =
    λ atom conversion live old new some any. (
      state_known atom conversion live old new,
      λ is. state_found atom conversion live old new is.0 some any is.1,
    )

pub returns-clause-one : goal.returns-clause-one
returns-clause-one c = one_choice
