use Rattle.io_edge.proofs.WriteLemmas.{through_held, through_holds}
use Rattle.io_edge.proofs.gathering.GatheringWriterOutputStream.write_all.Goals as goal

pub returns-then-bytes-capacity-clause-writes : goal.returns-then-bytes-capacity-clause-writes
returns-then-bytes-capacity-clause-writes g c =
    through_held g.W.WritePair.writes _ _ _ _ c.in-Ok.ensures.items

pub returns-clause-holds : goal.returns-clause-holds
returns-clause-holds g c =
    through_holds g.W.WritePair.writes _ _ _ _ _ _ c.write_through.ensures.through
