use Rattle.std.proofs.Common.{◌∙◌, ap, length, take}
use Rattle.hotzone.proofs.PartLemmas.{all-rewritten}
use Rattle.hotzone.proofs.beside.lay_at_front.Goals as goal

pub returns-clause-front : goal.returns-clause-front
returns-clause-front c =
    ap (take (length c.args.front.now))
    (all-rewritten c.args.buffer.now c.lay_first.new.bytes
    (c.lay_first.ensures.length ∙ ap length c.as_mut_slice.ensures.value))
    ∙ c.lay_first.ensures.front

pub returns-clause-length : goal.returns-clause-length
returns-clause-length c =
    let long = c.lay_first.ensures.length ∙ ap length c.as_mut_slice.ensures.value in
    ap length (all-rewritten c.args.buffer.now c.lay_first.new.bytes long) ∙ long
