use Rattle.std.proofs.Common.{◌∙◌, ap}
use Rattle.luks_rules.specs.Overlaps.{reaches}
use Rattle.luks_rules.proofs.OverlapLemmas.{found}
use Rattle.luks_rules.proofs.overlaps.any_overlap.Goals as goal

pub returns : goal.returns
returns c =
    c.any_reaches_the_next.ensures ∙ ap (reaches 0) c.as_slice.ensures.value
    ∙ found _ _ c.in_ok-sorted.ensures
