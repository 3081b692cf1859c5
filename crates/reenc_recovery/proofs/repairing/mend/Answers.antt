use Rattle.reenc_recovery.proofs.MendLemmas.{all_done, sync_failed, write_failed}
use Rattle.reenc_recovery.proofs.repairing.mend.Goals as goal

pub returns-in-Err-clause-run : goal.returns-in-Err-clause-run
returns-in-Err-clause-run g c =
    write_failed c.args.repair c.in-Some.repair (g.D.Disk.device c.args.disk.now) c.in-Some.is
    c.requires.begun (g.D.Disk.device c.step.new.disk) c.in-Err.ensures.call

pub returns-in-Ok-step-clause-run : goal.returns-in-Ok-step-clause-run
returns-in-Ok-step-clause-run g c =
    all_done c.args.repair c.in-Some.repair (g.D.Disk.device c.args.disk.now) c.in-Some.is
    c.requires.begun (g.D.Disk.device c.step.new.disk) c.step.new.self c.in-Ok.ensures.call
    c.in-Ok.ensures.next c.disks_tell_lawfully.ensures.sized (g.D.Disk.device c.step-2.new.disk)
    c.in-Ok-step.ensures.call

pub returns-clause-run : goal.returns-clause-run
returns-clause-run g c =
    sync_failed c.args.repair c.in-Some.repair (g.D.Disk.device c.args.disk.now) c.in-Some.is
    c.requires.begun (g.D.Disk.device c.step.new.disk) c.step.new.self c.in-Ok.ensures.call
    c.in-Ok.ensures.next c.disks_tell_lawfully.ensures.sized (g.D.Disk.device c.step-2.new.disk)
    c.in-Err-step.ensures.call
