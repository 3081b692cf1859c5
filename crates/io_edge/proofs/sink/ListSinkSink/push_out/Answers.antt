use Rattle.std.proofs.Common.{arith}
use Rattle.io_edge.proofs.OutletLemmas.{rear_behind}
use Rattle.io_edge.proofs.sink.ListSinkSink.push_out.Goals as goal

pub returns-clause-holds : goal.returns-clause-holds
returns-clause-holds c =
    rear_behind c.len-self-inside.result c.args.self.now.held_back c.self.inside.bytes.items
    (omega (arith, c.len-self-inside.ensures))
