use Rattle.std.proofs.Common.{List, ℕ, ◌∙◌, subst}
use Rattle.reenc_tool.specs.Texts.{Prints}
use Rattle.reenc_tool.proofs.TextLemmas.{text_of-fault}
use Rattle.reenc_tool.proofs.text.print.Goals as goal

pub returns-then-not-is_fine-clause-text : goal.returns-then-not-is_fine-clause-text
returns-then-not-is_fine-clause-text g c =
    subst (λ (text : List ℕ).
    Prints (g.O.Sink.outlet c.args.out.now) (g.O.Sink.outlet c.put_text.new.out) text)
    (c.line.ensures
    ∙ text_of-fault c.args.cause c.args.cause _
    (c.is_fine.ensures.other c.if-not-is_fine.true))
    c.put_text.ensures.text
