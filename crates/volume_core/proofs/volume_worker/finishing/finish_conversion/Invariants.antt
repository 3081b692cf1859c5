use Rattle.std.proofs.Common.{IsSome}
use Rattle.reenc_worker.proofs.LoopLemmas.{HasGoneOn}
use Rattle.volume_core.specs.WorkerLoop.Answering.{HasAnswered}
use Rattle.volume_core.proofs.volume_worker.finishing.finish_conversion.Given as goal

abbrev pub invariant-loop : goal.invariant-loop
invariant-loop g l = IsSome l.volume.work
    × HasGoneOn (HasAnswered g.C.SectorCipher.sealed g.C.SectorCipher.opened) l.counter
    l.initial.volume l.volume
