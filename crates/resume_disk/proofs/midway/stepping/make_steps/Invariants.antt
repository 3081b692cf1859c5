use Rattle.resume_disk.proofs.OpenedMidway.StepLemmas.{HasCome, calls_left}
use Rattle.resume_disk.proofs.midway.stepping.make_steps.Given as goal

abbrev pub invariant-steps : goal.invariant-steps
invariant-steps g l =
    let device = g.D.Disk.device in
    let first = l.initial.mending in
    HasCome g.C.SectorCipher.sealed g.C.SectorCipher.opened first l.mending
    (device l.initial.disk) (device l.disk)

abbrev pub decreases-steps : goal.decreases-steps
decreases-steps g l = calls_left l.mending
