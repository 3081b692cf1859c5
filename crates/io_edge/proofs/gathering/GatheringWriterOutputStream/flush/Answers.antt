use Rattle.std.proofs.Common.{false, inr, refl, arith}
use Rattle.std.proofs.lemmas.Grind.{common_steps}
use Rattle.io_edge.specs.Calls.{FlushesThrough}
use Rattle.io_edge.proofs.WriteLemmas.{flushed, flushed_at_once, through_rear}
use Rattle.io_edge.proofs.gathering.GatheringWriterOutputStream.flush.Goals as goal

pub returns-then-is_empty-clause-flushes : goal.returns-then-is_empty-clause-flushes
returns-then-is_empty-clause-flushes g c =
    flushed_at_once g.W.WritePair.writes g.W.WritePair.flushes _ _ _ _ _ (grind (arith, common_steps))
    c.flush.ensures c.kind_of.ensures.done

pub returns-in-Ok-clause-flushes : goal.returns-in-Ok-clause-flushes
returns-in-Ok-clause-flushes g c =
    flushed g.W.WritePair.writes g.W.WritePair.flushes _ _ _ _ _ _ _ c.in-Ok.ensures.through
    c.in-Ok.ensures.empty c.flush-in-Ok.ensures c.kind_of-in-Ok.ensures.done

pub returns-in-Err-clause-holds : goal.returns-in-Err-clause-holds
returns-in-Err-clause-holds g c =
    through_rear g.W.WritePair.writes _ _ _ _ false c.in-Err.ensures.through

pub returns-in-Err-clause-flushes : goal.returns-in-Err-clause-flushes
unfolding FlushesThrough
returns-in-Err-clause-flushes g c = inr (refl, c.in-Err.ensures.through)
