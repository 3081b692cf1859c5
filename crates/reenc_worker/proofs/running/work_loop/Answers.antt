use Rattle.std.proofs.Common.{arith}
use Rattle.reenc_worker.proofs.LoopLemmas.{all_made, last_made, on_by, one_more}
use Rattle.reenc_worker.proofs.running.work_loop.Goals as goal

pub returns-in-Ended-clause-worked : goal.returns-in-Ended-clause-worked
returns-in-Ended-clause-worked g c =
    last_made g.P.WorkerPort.worked g.met.P.WorkerPort.worked_more c.loop.invariant.1 c.in-Ended.end
    (omega (arith, c.loop-test.true)) (rw c.in-Ended.is at c.work.ensures.worked)

pub loop-preserved : goal.loop-preserved
loop-preserved g c = (
  c.work.ensures.stands,
  one_more g.P.WorkerPort.worked g.met.P.WorkerPort.worked_more c.loop.invariant.1 c.work.result
      (on_by c.work.result c.in-Stepped.is) c.work.ensures.worked,
)

pub returns-clause-worked : goal.returns-clause-worked
returns-clause-worked g c = all_made g.P.WorkerPort.worked c.loop.invariant.1
    (omega (arith, c.loop-test.false, c.loop.auto.counter-end))
