use Rattle.std.proofs.Common.{sym, ◌∙◌}
use Rattle.luks_slots.proofs.SlotLemmas.{sized}
use Rattle.luks_slots.proofs.slots.opening_functions.Goals as goal

pub returns-then-have_sizes-clause-sizes : goal.returns-then-have_sizes-clause-sizes
returns-then-have_sizes-clause-sizes c =
    sized _ _ _ _ (sym c.have_sizes.ensures ∙ c.if-have_sizes.true)
