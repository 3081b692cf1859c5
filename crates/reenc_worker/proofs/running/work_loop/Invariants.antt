use Rattle.reenc_worker.proofs.LoopLemmas.{HasGoneOn}
use Rattle.reenc_worker.proofs.running.work_loop.Given as goal

abbrev pub invariant-loop : goal.invariant-loop
invariant-loop g l = g.P.WorkerPort.stands l.port
    × HasGoneOn g.P.WorkerPort.worked l.counter l.initial.port l.port
