use Rattle.std.proofs.Common.{ap, ◌∙◌, sym, ◌||◌, codes}
use Rattle.nbd_hand.specs.Options.{is_same}
use Rattle.nbd_hand.proofs.NameLemmas.{same-tested}
use Rattle.nbd_hand.proofs.options.is_ours.Goals as goal

pub returns-else-is_empty : goal.returns-else-is_empty
returns-else-is_empty c =
    same-tested c.is_same.result c.args.name.now (codes "volume") c.is_same.ensures.same
    c.is_same.ensures.other
    ∙ ap (λ b. b || is_same c.args.name.now (codes "volume"))
    (sym c.if-is_empty.false ∙ c.is_empty.ensures)
