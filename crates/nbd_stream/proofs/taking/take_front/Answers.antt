use Rattle.std.proofs.Common.{List, ℕ, ◌∙◌, ap, length, take, sym, subst}
use Rattle.nbd_stream.specs.Taking.{TakesUpTo}
use Rattle.nbd_stream.specs.Traffic.{filled_of, reach}
use Rattle.nbd_stream.proofs.TakeLemmas.{rewritten-whole}
use Rattle.nbd_stream.proofs.taking.take_front.Goals as goal

pub returns-clause-takes : goal.returns-clause-takes
returns-clause-takes g c =
    subst (λ (bytes : List ℕ). TakesUpTo
    (reach (g.S.Source.intake c.args.source.now) c.args.taken.now)
    (reach (g.S.Source.intake c.take_first.new.source) c.take_first.new.taken)
    c.args.len c.take_first.result (take (filled_of c.args.len c.take_first.result) bytes))
    (sym (rewritten-whole c.args.buffer.now c.take_first.new.bytes
    (c.take_first.ensures.long ∙ ap (λ bytes. length bytes) c.as_mut_slice.ensures.value)))
    c.take_first.ensures.takes
