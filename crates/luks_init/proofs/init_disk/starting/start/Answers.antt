use Rattle.header_report.specs.Examinations.{sizes_alone}
use Rattle.luks_init.proofs.DiskInit.StartLemmas.{all_alone, begun_of, has_alone, ok_of}
use Rattle.luks_init.proofs.DiskInit.StartLemmas.{repair_fits, shows_alone, shows_between, slot_fits}
use Rattle.luks_init.proofs.DiskInit.StartLemmas.{unrepaired}
use Rattle.sector_disk.specs.Devices.{failed_call, succeeded}
use Rattle.luks_init.proofs.init_disk.starting.start.Goals as goal

pub mend-requires-clause-fits : goal.mend-requires-clause-fits
mend-requires-clause-fits g c =
    let old = g.D.Disk.device c.args.disk in
    let read = g.D.Disk.device c.make_ready-disk.result.0 in
    let answer = c.make_ready-disk.result.1 in
    let r = c.in-Ok.ready in
    let first = ok_of _ answer r c.in-Ok.is c.make_ready-disk.ensures.calls in
    let ready = ok_of _ answer r c.in-Ok.is c.make_ready-disk.ensures.ready in
    let tells = c.disks_tell_lawfully.ensures in
    let disk = g.met.D.Disk.geometry c.args.disk in
    let shows = shows_alone old disk tells.agrees tells.even tells.whole in
    repair_fits (sizes_alone old) c.args.keys.now.new c.args.wish.now c.args.pass.now c.args.seed.now old
    read r.header r.repair r.slot first ready (has_alone old) shows

-- a call of the repair failed
pub returns-in-Err-mend-clause-unbegun : goal.returns-in-Err-mend-clause-unbegun
returns-in-Err-mend-clause-unbegun g c =
    let old = g.D.Disk.device c.args.disk in
    let read = g.D.Disk.device c.make_ready-disk.result.0 in
    let answer = c.make_ready-disk.result.1 in
    let r = c.in-Ok.ready in
    let first = ok_of _ answer r c.in-Ok.is c.make_ready-disk.ensures.calls in
    let ready = ok_of _ answer r c.in-Ok.is c.make_ready-disk.ensures.ready in
    let tells = c.disks_tell_lawfully.ensures in
    let disk = g.met.D.Disk.geometry c.args.disk in
    let shows = shows_alone old disk tells.agrees tells.even tells.whole in
    unrepaired (sizes_alone old) c.args.keys.now.new c.args.wish.now c.args.pass.now c.args.seed.now old
    read r.header r.repair r.slot first ready (has_alone old) shows
    c.openings_keep_contents.ensures.disk_repairs (g.D.Disk.device c.mend.new.disk) _
    c.unopened.ensures c.in-Err-mend.ensures.run c.disks_tell_lawfully-in-Err-mend.ensures.sized

-- it was done
pub write_slot-requires : goal.write_slot-requires
write_slot-requires g c =
    let old = g.D.Disk.device c.args.disk in
    let read = g.D.Disk.device c.make_ready-disk.result.0 in
    let answer = c.make_ready-disk.result.1 in
    let r = c.in-Ok.ready in
    let first = ok_of _ answer r c.in-Ok.is c.make_ready-disk.ensures.calls in
    let ready = ok_of _ answer r c.in-Ok.is c.make_ready-disk.ensures.ready in
    let tells = c.disks_tell_lawfully.ensures in
    let disk = g.met.D.Disk.geometry c.args.disk in
    let shows = shows_alone old disk tells.agrees tells.even tells.whole in
    let between = g.D.Disk.device c.mend.new.disk in
    let mended = c.in-Ok-mend.ensures.run in
    let size = c.in-Ok-mend.ensures.size in
    let atoms = c.in-Ok-mend.ensures.atoms in
    slot_fits (sizes_alone old) c.args.keys.now.new c.args.wish.now c.args.pass.now c.args.seed.now old
    read r.header r.repair r.slot first ready (has_alone old) shows
    between mended size atoms

pub returns-in-Ok-write_slot-clause-begun : goal.returns-in-Ok-write_slot-clause-begun
returns-in-Ok-write_slot-clause-begun g c =
    let old = g.D.Disk.device c.args.disk in
    let read = g.D.Disk.device c.make_ready-disk.result.0 in
    let answer = c.make_ready-disk.result.1 in
    let r = c.in-Ok.ready in
    let first = ok_of _ answer r c.in-Ok.is c.make_ready-disk.ensures.calls in
    let ready = ok_of _ answer r c.in-Ok.is c.make_ready-disk.ensures.ready in
    let tells = c.disks_tell_lawfully.ensures in
    let disk = g.met.D.Disk.geometry c.args.disk in
    let shows = shows_alone old disk tells.agrees tells.even tells.whole in
    let between = g.D.Disk.device c.mend.new.disk in
    let mended = c.in-Ok-mend.ensures.run in
    let size = c.in-Ok-mend.ensures.size in
    let atoms = c.in-Ok-mend.ensures.atoms in
    let told = c.disks_tell_lawfully-2.ensures in
    begun_of (sizes_alone old) c.args.keys.now.new c.args.wish.now c.args.pass.now c.args.seed.now old
    read r.header r.repair r.slot first ready (has_alone old) shows
    between mended size atoms c.openings_keep_contents.ensures.disk_repairs
    c.slots_keep_contents.ensures (all_alone old disk) c.requires
    (shows_between (sizes_alone old) c.args.keys.now.new c.args.wish.now c.args.pass.now c.args.seed.now old
    read r.header r.repair r.slot first ready (has_alone old) shows
    between mended size atoms told.agrees told.even told.whole)
    told.whole told.sized (g.D.Disk.device c.write_slot.new.disk) succeeded c.in-Ok-write_slot.ensures

pub returns-clause-unbegun : goal.returns-clause-unbegun
returns-clause-unbegun g c =
    let old = g.D.Disk.device c.args.disk in
    let read = g.D.Disk.device c.make_ready-disk.result.0 in
    let answer = c.make_ready-disk.result.1 in
    let r = c.in-Ok.ready in
    let first = ok_of _ answer r c.in-Ok.is c.make_ready-disk.ensures.calls in
    let ready = ok_of _ answer r c.in-Ok.is c.make_ready-disk.ensures.ready in
    let tells = c.disks_tell_lawfully.ensures in
    let disk = g.met.D.Disk.geometry c.args.disk in
    let shows = shows_alone old disk tells.agrees tells.even tells.whole in
    let between = g.D.Disk.device c.mend.new.disk in
    let mended = c.in-Ok-mend.ensures.run in
    let size = c.in-Ok-mend.ensures.size in
    let atoms = c.in-Ok-mend.ensures.atoms in
    let told = c.disks_tell_lawfully-2.ensures in
    begun_of (sizes_alone old) c.args.keys.now.new c.args.wish.now c.args.pass.now c.args.seed.now old
    read r.header r.repair r.slot first ready (has_alone old) shows
    between mended size atoms c.openings_keep_contents.ensures.disk_repairs
    c.slots_keep_contents.ensures (all_alone old disk) c.requires
    (shows_between (sizes_alone old) c.args.keys.now.new c.args.wish.now c.args.pass.now c.args.seed.now old
    read r.header r.repair r.slot first ready (has_alone old) shows
    between mended size atoms told.agrees told.even told.whole)
    told.whole told.sized (g.D.Disk.device c.write_slot.new.disk) failed_call c.in-Err-write_slot.ensures
