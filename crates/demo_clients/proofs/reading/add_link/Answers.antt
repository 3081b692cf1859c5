use Rattle.demo_clients.specs.Operations.{operations_on}
use Rattle.demo_clients.proofs.ReadBackLemmas.{link_is}
use Rattle.demo_clients.proofs.reading.add_link.Goals as goal

pub returns : goal.returns
returns c seed first =
    link_is (operations_on seed first c.args.blocks) c.args.link.now c.in-Some.ensures.0
    c.in-Some.had.now c.args.content.now.items _ c.add_session.result c.in-Some.ensures.1
    c.in-Some.ensures.2 (c.add_session.ensures seed first)
