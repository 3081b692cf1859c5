use Rattle.luks_init.proofs.DiskInit.AnswerLemmas.{begun_under, unstarted_by}
use Rattle.luks_init.proofs.DiskInit.StartLemmas.{err_of, ok_of}
use Rattle.sector_disk.specs.Devices.{succeeded}
use Rattle.luks_init.proofs.init_disk.beginning.begin_conversion.Goals as goal

pub returns-in-Ok-begun-clause-started : goal.returns-in-Ok-begun-clause-started
returns-in-Ok-begun-clause-started g c =
    let unlocked = ok_of _ c.unlock_volume-disk.result.1 c.in-Ok.key c.in-Ok.is
    c.unlock_volume-disk.ensures.unlocked in
    begun_under (g.D.Disk.device c.args.disk) (g.D.Disk.device c.unlock_volume-disk.result.0)
    c.args.wish.now c.args.pass.now c.args.seed.now c.in-Ok.key unlocked
    (λ all is. g.met.D.Disk.whole c.args.disk all is)
    (λ told is. g.met.D.Disk.agrees c.args.disk told is) (g.D.Disk.device c.start-disk.result.0)
    succeeded
    (ok_of _ c.start-disk.result.1 c.in-Ok-begun.field-0 c.in-Ok-begun.is
    c.start-disk.ensures.begun)

pub returns-in-Err-begun-clause-refused : goal.returns-in-Err-begun-clause-refused
returns-in-Err-begun-clause-refused g c =
    let unlocked = ok_of _ c.unlock_volume-disk.result.1 c.in-Ok.key c.in-Ok.is
    c.unlock_volume-disk.ensures.unlocked in
    unstarted_by g.D.Disk.device c.args.disk c.unlock_volume-disk.result.0 c.start-disk.result.0
    c.args.wish.now c.args.pass.now c.args.seed.now c.in-Ok.key unlocked
    (λ all is. g.met.D.Disk.whole c.args.disk all is)
    (λ told is. g.met.D.Disk.agrees c.args.disk told is) c.in-Err-begun.refusal
    (err_of _ c.start-disk.result.1 c.in-Err-begun.refusal c.in-Err-begun.is
    c.start-disk.ensures.unbegun)
