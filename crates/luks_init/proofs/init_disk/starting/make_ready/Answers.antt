use Rattle.std.proofs.Common.{◌∙◌, sym, subst}
use Rattle.base_terms.specs.declared.disk_sizes.Sizes.{Sizes}
use Rattle.header_report.specs.Examinations.{sizes_alone}
use Rattle.luks_init.proofs.DiskInit.StartLemmas.{all_alone, checked_of, err_of, ok_of, ready_of}
use Rattle.luks_init.proofs.DiskInit.StartLemmas.{refused, same_by_sync, unready}
use Rattle.reenc_meta.specs.Placements.{all_atoms}
use Rattle.sector_disk.specs.Geometry.{IsDisk}
use Rattle.luks_init.proofs.init_disk.starting.make_ready.Goals as goal

-- the header or the key was refused
pub returns-in-Err-checked-clause-unbegun : goal.returns-in-Err-checked-clause-unbegun
returns-in-Err-checked-clause-unbegun g c =
    let old = g.D.Disk.device c.args.disk in
    let synced = g.D.Disk.device c.sync.new.self in
    let read = g.D.Disk.device c.check_alone-disk.result.0 in
    let answer = c.check_alone-disk.result.1 in
    let sync = c.in-Ok.ensures.call in
    let same = same_by_sync old synced sync in
    let cause = c.in-Err-checked.cause in
    let is = c.in-Err-checked.is in
    refused (sizes_alone old) c.args.keys.now.new c.args.wish.now c.args.pass.now c.args.seed.now
    old synced read sync c.check_alone-disk.ensures.read c.openings_keep_contents.ensures.disk_reads
    (sizes_alone synced) same _ cause c.unopened-in-Err-checked.ensures
    (err_of _ answer cause is c.check_alone-disk.ensures.cause)
    (err_of _ answer cause is c.check_alone-disk.ensures.refused)

pub make_safely-requires-clause-disk : goal.make_safely-requires-clause-disk
make_safely-requires-clause-disk g c =
    let synced = g.D.Disk.device c.sync.new.self in
    let checked = c.in-Ok-checked.checked in
    let passed = ok_of _ c.check_alone-disk.result.1 checked c.in-Ok-checked.is
    c.check_alone-disk.ensures.passed in
    subst (λ (z : Sizes). IsDisk z.atom (all_atoms z)) (sym passed.sizes_are)
    (all_alone synced (g.met.D.Disk.geometry c.sync.new.self))

-- all is ready
pub returns-in-Ok-make_safely-clause-ready : goal.returns-in-Ok-make_safely-clause-ready
returns-in-Ok-make_safely-clause-ready g c =
    let old = g.D.Disk.device c.args.disk in
    let synced = g.D.Disk.device c.sync.new.self in
    let answer = c.check_alone-disk.result.1 in
    let sync = c.in-Ok.ensures.call in
    let checked = c.in-Ok-checked.checked in
    let is = c.in-Ok-checked.is in
    ready_of (sizes_alone old) c.args.keys.now.new checked.header checked.repair old
    c.args.wish.now c.args.pass.now c.args.seed.now c.in-Ok-make_safely.slot c.tail.result
    (checked_of _ _ _ (sizes_alone old) (sizes_alone synced) c.args.keys.now.new checked.header
    checked.opening.placement checked.opening.keys checked.repair old synced
    (same_by_sync old synced sync) sync
    (ok_of _ answer checked is c.check_alone-disk.ensures.passed)
    (ok_of _ answer checked is c.check_alone-disk.ensures.repair)
    (ok_of _ answer checked is c.check_alone-disk.ensures.fits)
    (ok_of _ answer checked is c.check_alone-disk.ensures.held))
    (c.tail.ensures.is ∙ c.check_alone-disk.ensures.read.tail ∙ sync.tail)
    c.in-Ok-make_safely.ensures.safe c.in-Ok-make_safely.ensures.made

-- something would be lost, or what is to be written can't be made
pub returns-in-Err-make_safely-clause-unbegun : goal.returns-in-Err-make_safely-clause-unbegun
returns-in-Err-make_safely-clause-unbegun g c =
    let old = g.D.Disk.device c.args.disk in
    let synced = g.D.Disk.device c.sync.new.self in
    let read = g.D.Disk.device c.check_alone-disk.result.0 in
    let answer = c.check_alone-disk.result.1 in
    let sync = c.in-Ok.ensures.call in
    let checked = c.in-Ok-checked.checked in
    let is = c.in-Ok-checked.is in
    unready (sizes_alone old) c.args.keys.now.new c.args.wish.now c.args.pass.now c.args.seed.now
    old synced read sync c.check_alone-disk.ensures.read c.openings_keep_contents.ensures.disk_reads
    checked.header checked.repair c.tail.result
    (c.tail.ensures.is ∙ c.check_alone-disk.ensures.read.tail ∙ sync.tail)
    (checked_of _ _ _ (sizes_alone old) (sizes_alone synced) c.args.keys.now.new checked.header
    checked.opening.placement checked.opening.keys checked.repair old synced
    (same_by_sync old synced sync) sync
    (ok_of _ answer checked is c.check_alone-disk.ensures.passed)
    (ok_of _ answer checked is c.check_alone-disk.ensures.repair)
    (ok_of _ answer checked is c.check_alone-disk.ensures.fits)
    (ok_of _ answer checked is c.check_alone-disk.ensures.held))
    c.in-Err-make_safely.refusal c.in-Err-make_safely.ensures.unready
