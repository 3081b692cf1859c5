use Rattle.resume_disk.proofs.OpenedMidway.StepLemmas.{disk_behind, fits_mended, leads_mended}
use Rattle.resume_disk.proofs.OpenedMidway.StepLemmas.{mends_zone}
use Rattle.resume_disk.proofs.OpenedMidway.StepLemmas.{sizes_behind, tells}
use Rattle.resume_disk.proofs.midway.stepping.write_again.Goals as goal
use Rattle.sector_disk.specs.Devices.{failed_call}

pub returns-in-Ok-clause-leads : goal.returns-in-Ok-clause-leads
returns-in-Ok-clause-leads g c =
    let law = c.disks_tell_lawfully.ensures in
    leads_mended g.C.SectorCipher.sector g.C.SectorCipher.sealed g.C.SectorCipher.opened
    c.args.mending c.make_steps.new.mending c.is_mending.ensures c.is_mending-in-Ok.ensures c.make_steps.ensures.loaded _ _
    (tells _ law.agrees law.even law.bytes law.sized) _ c.into_loaded.ensures.is c.in-Ok.ensures.run

pub returns-in-Ok-clause-sizes : goal.returns-in-Ok-clause-sizes
returns-in-Ok-clause-sizes g c =
    let law = c.disks_tell_lawfully.ensures in
    disk_behind g.C.SectorCipher.sector g.C.SectorCipher.sealed g.C.SectorCipher.opened
    c.args.mending c.make_steps.new.mending c.is_mending.ensures c.is_mending-in-Ok.ensures c.make_steps.ensures.loaded
    (g.D.Disk.device c.args.disk.now) _
    (tells _ law.agrees law.even law.bytes law.sized) _ c.into_loaded.ensures.is
    c.make_steps.ensures.sizes

pub returns-in-Ok-clause-same : goal.returns-in-Ok-clause-same
returns-in-Ok-clause-same g c =
    let law = c.disks_tell_lawfully.ensures in
    sizes_behind g.C.SectorCipher.sector g.C.SectorCipher.sealed g.C.SectorCipher.opened
    c.args.mending c.make_steps.new.mending c.is_mending.ensures c.is_mending-in-Ok.ensures c.make_steps.ensures.loaded
    (g.D.Disk.device c.args.disk.now) (g.D.Disk.device c.make_steps.new.disk)
    (tells _ law.agrees law.even law.bytes law.sized) _ c.into_loaded.ensures.is

pub returns-in-Ok-clause-fits : goal.returns-in-Ok-clause-fits
returns-in-Ok-clause-fits g c = λ keys begins fits.
    let law = c.disks_tell_lawfully.ensures in
    fits_mended g.C.SectorCipher.sector g.C.SectorCipher.sealed g.C.SectorCipher.opened
    c.args.mending c.make_steps.new.mending c.is_mending.ensures c.is_mending-in-Ok.ensures c.make_steps.ensures.loaded
    (g.D.Disk.device c.args.disk.now) (g.D.Disk.device c.make_steps.new.disk)
    (tells _ law.agrees law.even law.bytes law.sized) g.C.SectorCipher.sector _
    c.make_steps.ensures.keys c.into_loaded.ensures.maps c.into_loaded.ensures.keys keys begins

pub returns-in-Err-clause-failed : goal.returns-in-Err-clause-failed
returns-in-Err-clause-failed g c =
    let law = c.disks_tell_lawfully.ensures in
    mends_zone g.C.SectorCipher.sector g.C.SectorCipher.sealed g.C.SectorCipher.opened
    c.args.mending c.make_steps.new.mending c.is_mending.ensures c.is_mending-in-Err.ensures c.make_steps.ensures.loaded _ _
    (tells _ law.agrees law.even law.bytes law.sized) failed_call c.in-Err.ensures.run
