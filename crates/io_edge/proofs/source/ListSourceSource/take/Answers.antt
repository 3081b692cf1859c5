use Rattle.std.proofs.Common.{ap, ◌∙◌, arith, length-take-le}
use Rattle.io_edge.proofs.IntakeLemmas.{given_more}
use Rattle.io_edge.proofs.source.ListSourceSource.take.Goals as goal

pub returns-clause-given : goal.returns-clause-given
returns-clause-given c given is =
    given_more c.args.self.now.given given c.self.inside.bytes.items c.deref.result.now _ _
    c.self.inside.at c.min-n.result
    (ap (λ s. s.given) c.self.view_is) is c.deref.ensures.value c.copy_from_slice.ensures.after
    (c.copy_from_slice.ensures.len
    ∙ length-take-le _ _ (omega (arith, c.min-n.ensures, c.min.ensures)))
