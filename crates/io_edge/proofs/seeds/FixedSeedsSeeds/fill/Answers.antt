use Rattle.std.proofs.Common.{sym}
use Rattle.io_edge.proofs.SupplyLemmas.{draws_round}
use Rattle.io_edge.proofs.seeds.FixedSeedsSeeds.fill.Goals as goal

pub returns-clause-told : goal.returns-clause-told
returns-clause-told c =
    draws_round c.args.self.now c.self.inside.plan c.is_failing.new.self c.self.inside.bytes.items
    c.as_slice.result.now c.fill_round-self-inside.new.buf c.self.inside.at
    c.fill_round-self-inside.result
    (sym c.self.view_is) c.as_slice.ensures.value
    c.fill_round-self-inside.ensures.next c.fill_round-self-inside.ensures.round
