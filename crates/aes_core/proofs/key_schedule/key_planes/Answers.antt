use Rattle.std.proofs.Common.{◌∙◌, ap, sym, arith}
use Rattle.aes_core.specs.RoundKeys.{carried}
use Rattle.aes_core.proofs.TranslationLemmas.{carried_later, constant_added}
use Rattle.aes_core.proofs.key_schedule.key_planes.Goals as goal

pub returns-then-round-eq0 : goal.returns-then-round-eq0
returns-then-round-eq0 c k below =
    c.to_planes.ensures k below ∙ c.copies.ensures k below
    ∙ ap (λ r. carried r c.args.key) (sym c.if-round-eq0.true)

pub returns : goal.returns
returns c k below =
    c.to_planes-2.ensures k below ∙ c.copies-2.ensures k below
    ∙ constant_added c.args.key c.fits-key.0
    ∙ sym (carried_later c.args.round c.args.key (omega arith))
