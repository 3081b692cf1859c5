use Rattle.std.proofs.Common.{◌∙◌, ap, length, take}
use Rattle.hotzone.proofs.PartLemmas.{all-rewritten}
use Rattle.hotzone.proofs.digests.reseal_into.Goals as goal

pub returns-clause-front : goal.returns-clause-front
returns-clause-front g c =
    ap (take (length c.args.old.now))
    (all-rewritten c.args.buffer.now c.reseal_front.new.bytes
    (c.reseal_front.ensures.length ∙ ap length c.as_mut_slice.ensures.value))
    ∙ c.reseal_front.ensures.front

pub returns-clause-length : goal.returns-clause-length
returns-clause-length g c =
    let long = c.reseal_front.ensures.length ∙ ap length c.as_mut_slice.ensures.value in
    ap length (all-rewritten c.args.buffer.now c.reseal_front.new.bytes long) ∙ long
