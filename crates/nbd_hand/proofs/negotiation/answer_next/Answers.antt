use Rattle.std.proofs.Common.{◌∙◌, ap}
use Rattle.nbd_hand.specs.Options.{verdict_of}
use Rattle.nbd_hand.proofs.OptionLemmas.{answers-stop, answered, unanswered}
use Rattle.nbd_hand.proofs.negotiation.answer_next.Goals as goal

pub returns-in-Err-clause-answers : goal.returns-in-Err-clause-answers
returns-in-Err-clause-answers g c =
    answers-stop c.args.export.now c.args.agreed.now _ _ _ _ c.in-Err.ending c.in-Err.ensures

pub returns-in-Ok-put_answer-clause-answers : goal.returns-in-Ok-put_answer-clause-answers
returns-in-Ok-put_answer-clause-answers g c =
    rw c.course.ensures
    (answered c.args.export.now c.args.agreed.now _ _ _ _ _ _ _ c.in-Ok.option
    c.judge-verdict.result c.with.ensures c.in-Ok.ensures (c.judge-verdict.ensures
    ∙ ap (verdict_of c.in-Ok.option.option) c.as_slice.ensures)
    c.in-Ok-put_answer.ensures.answer)

pub returns-clause-answers : goal.returns-clause-answers
returns-clause-answers g c =
    unanswered c.args.export.now c.args.agreed.now _ _ _ _ _ _ _ c.in-Ok.option
    c.judge-verdict.result c.in-Err-put_answer.field-0 c.with.ensures c.in-Ok.ensures
    (c.judge-verdict.ensures ∙ ap (verdict_of c.in-Ok.option.option) c.as_slice.ensures)
    (λ is. c.in-Err-put_answer.ensures.silent is) c.in-Err-put_answer.ensures.answer
