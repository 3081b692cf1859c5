use Rattle.std.proofs.Common.{arith}
use Rattle.std.proofs.lemmas.Grind.{common_steps}
use Rattle.io_edge.proofs.WriteLemmas.{more_within, none_written, more_written, through_all}
use Rattle.io_edge.proofs.WriteLemmas.{through_refused, through_tired}
use Rattle.io_edge.proofs.gathering.GatheringWriter.write_through.Goals as goal

pub loop-init : goal.loop-init
loop-init g c = record { within = omega arith; written = none_written g.W.WritePair.writes _ _ _ }

pub returns-then-at-bytes-clause-through : goal.returns-then-at-bytes-clause-through
returns-then-at-bytes-clause-through g c =
    through_all g.W.WritePair.writes _ _ _ _ _ c.loop.at c.loop.counter c.loop.invariant.written
    (grind (arith, common_steps))

pub returns-in-Err-clause-through : goal.returns-in-Err-clause-through
returns-in-Err-clause-through g c =
    through_refused g.W.WritePair.writes _ _ _ _ _ _ _ c.loop.at c.loop.counter c.in-Err.error
    c.loop.invariant.written c.loop.invariant.within c.in-Err.ensures.some

pub loop-preserved : goal.loop-preserved
loop-preserved g c = record {
  within =
      more_within c.loop.at c.in-Ok.n c.args.bytes.now c.loop.invariant.within
      c.in-Ok.ensures.within;
  written =
      more_written g.W.WritePair.writes _ _ _ _ _ _ _ c.loop.at c.loop.counter c.in-Ok.n
      c.loop.invariant.written c.in-Ok.ensures.some;
}

pub returns-clause-through : goal.returns-clause-through
returns-clause-through g c =
    through_tired g.W.WritePair.writes _ _ _ _ _ c.loop.at c.loop.counter c.loop.invariant.written
    c.loop.invariant.within (omega arith)
