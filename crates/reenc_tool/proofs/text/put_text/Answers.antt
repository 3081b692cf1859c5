use Rattle.std.proofs.Common.{List, ℕ, subst}
use Rattle.reenc_tool.specs.Texts.{Prints}
use Rattle.reenc_tool.proofs.TextLemmas.{prints-put}
use Rattle.reenc_tool.proofs.text.put_text.Goals as goal

pub returns-in-Ok-clause-text : goal.returns-in-Ok-clause-text
returns-in-Ok-clause-text g c =
    subst (λ (text : List ℕ).
    Prints (g.O.Sink.outlet c.args.out.now) (g.O.Sink.outlet c.push_out.new.self) text)
    c.as_bytes.ensures.value
    (prints-put _ (g.O.Sink.outlet c.put.new.self) _ c.as_bytes.result.now _ c.in-Ok.ensures.told
    c.push_out.ensures.told c.push_out.ensures.out c.push_out.ensures.cause.failed
    c.in-Ok.ensures.cause.later)
