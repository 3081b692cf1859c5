use Rattle.io_edge.proofs.OutletLemmas.{rear_of_none}
use Rattle.io_edge.proofs.sink.VoidSinkSink.put.Goals as goal

pub returns-clause-holds : goal.returns-clause-holds
returns-clause-holds c = rear_of_none c.args.bytes.now
