use Rattle.std.proofs.Common.{◌≡◌, sym, ◌∙◌, subst}
use Rattle.resume_disk.proofs.OpenedMidway.CauseLemmas.{by_load, moved_without_calls, not_moved_in}
use Rattle.resume_disk.proofs.OpenedMidway.CauseLemmas.{refused_in, refused_without_reads, said}
use Rattle.resume_disk.proofs.OpenedMidway.OpenLemmas.{fits_by, fits_here, guarded_by, has_passed}
use Rattle.resume_disk.proofs.OpenedMidway.OpenLemmas.{held_here, not_moved_by, passed_by}
use Rattle.resume_disk.proofs.OpenedMidway.OpenLemmas.{repair_here}
use Rattle.resume_disk.proofs.midway.checking.check_conversion.Goals as goal
use Rattle.resume_disk.specs.OpenedMidway.Causes.{IsNotLed}
use Rattle.base_terms.specs.declared.disk_sizes.Sizes.{Sizes}
use Rattle.sector_disk.specs.JoinedDisks.Counts.{sizes_of}
use Rattle.luks_rules.specs.Areas.{header_bytes}
use Rattle.luks_rules.specs.declared.valid.Checked.{Checked}
use Rattle.luks_store.specs.Devices.{device_of, header_room}
use Rattle.reenc_recovery.proofs.CheckLemmas.{disk_of, room_of}

-- no header was loaded
pub returns-in-Err-clause-cause : goal.returns-in-Err-clause-cause
returns-in-Err-clause-cause g c =
    by_load (device_of c.args.disk.now) (device_of c.load.new.disk) c.in-Err.fault _
    c.from.ensures c.in-Err.ensures.cause

pub returns-in-Err-clause-refused : goal.returns-in-Err-clause-refused
returns-in-Err-clause-refused g c =
    λ all is. said (sizes_of c.args.disk.now) c.args.keys.now _ c.in-Err.fault _ c.from.ensures
    (c.in-Err.ensures.held all is)

-- it isn't led on
pub returns-in-Err-judge_conversion-clause-cause : goal.returns-in-Err-judge_conversion-clause-cause
returns-in-Err-judge_conversion-clause-cause g c =
    refused_without_reads c.valid.result.now.meta c.valid.result.now.sizes c.args.keys.now
    (device_of c.args.disk.now) (device_of c.load.new.disk) c.in-Err-judge_conversion.cause
    c.in-Err-judge_conversion.ensures.refused

pub returns-in-Err-judge_conversion-clause-refused : goal.returns-in-Err-judge_conversion-clause-refused
returns-in-Err-judge_conversion-clause-refused g c =
    λ all is. refused_in (sizes_of c.args.disk.now) c.args.keys.now c.in-Ok.header
    c.in-Err-judge_conversion.cause _ c.in-Ok.ensures.sized (c.in-Ok.ensures.held all is)
    (subst (λ (v : Checked). IsNotLed v.meta v.sizes c.args.keys.now
    c.in-Err-judge_conversion.cause) c.valid.ensures c.in-Err-judge_conversion.ensures.refused)

-- it is led on
pub begin_course-requires-clause-disk : goal.begin_course-requires-clause-disk
begin_course-requires-clause-disk g c = λ κs.
    disk_of c.sizes-sizes.result c.in-Ok.header.valid.sizes (device_of c.args.disk.now).atoms
    (c.in-Ok.ensures.sized ∙ sym c.sizes-sizes.ensures.is)
    c.sizes-sizes.ensures.known c.sizes-sizes.ensures.all c.sizes-sizes.ensures.fits

pub begin_course-requires-clause-guarded : goal.begin_course-requires-clause-guarded
begin_course-requires-clause-guarded g c = λ κs.
    guarded_by _ _ _ c.args.keys.now c.in-Ok.header c.valid.result.now
    c.in-Ok-judge_conversion.sides c.valid.ensures c.in-Ok-judge_conversion.ensures.conversion

pub begin_course-requires-clause-fits : goal.begin_course-requires-clause-fits
begin_course-requires-clause-fits g c = λ κs.
    fits_by _ _ _ c.args.keys.now c.in-Ok.header c.valid.result.now c.in-Ok-judge_conversion.sides
    c.valid.ensures c.is_stored.ensures.stored c.in-Ok-judge_conversion.ensures.sound
    (disk_of c.sizes-sizes.result c.in-Ok.header.valid.sizes (device_of c.args.disk.now).atoms
    (c.in-Ok.ensures.sized ∙ sym c.sizes-sizes.ensures.is)
    c.sizes-sizes.ensures.known c.sizes-sizes.ensures.all c.sizes-sizes.ensures.fits)
    c.in-Ok-judge_conversion.ensures.conversion

pub returns-in-Ok-begin_course-clause-passed : goal.returns-in-Ok-begin_course-clause-passed
returns-in-Ok-begin_course-clause-passed g c =
    passed_by _ _ _ (sizes_of c.args.disk.now) c.args.keys.now c.in-Ok.header _
    c.in-Ok-judge_conversion.sides c.in-Ok-begin_course.ensures.header
    (has_passed _ _ _ (sizes_of c.args.disk.now) c.args.keys.now c.in-Ok.header
    c.valid.result.now c.in-Ok-judge_conversion.sides c.valid.ensures c.is_stored.ensures.stored
    c.in-Ok.ensures.sized c.in-Ok-judge_conversion.ensures.sound c.is_stored.ensures.size
    c.is_stored.ensures.room
    (subst (λ (z : Sizes). header_room z ≡ header_bytes z) c.sizes-sizes.ensures.is
    (room_of c.sizes-sizes.result c.sizes-sizes.ensures.alone))
    c.in-Ok-judge_conversion.ensures.conversion)

pub returns-in-Ok-begin_course-clause-volume : goal.returns-in-Ok-begin_course-clause-volume
returns-in-Ok-begin_course-clause-volume g c =
    fits_here _ c.in-Ok.header _ c.in-Ok-judge_conversion.sides
    c.in-Ok-begin_course.ensures.header
    (fits_by _ _ _ c.args.keys.now c.in-Ok.header c.valid.result.now c.in-Ok-judge_conversion.sides
    c.valid.ensures c.is_stored.ensures.stored c.in-Ok-judge_conversion.ensures.sound
    (disk_of c.sizes-sizes.result c.in-Ok.header.valid.sizes (device_of c.args.disk.now).atoms
    (c.in-Ok.ensures.sized ∙ sym c.sizes-sizes.ensures.is)
    c.sizes-sizes.ensures.known c.sizes-sizes.ensures.all c.sizes-sizes.ensures.fits)
    c.in-Ok-judge_conversion.ensures.conversion)

pub returns-in-Ok-begin_course-clause-repair : goal.returns-in-Ok-begin_course-clause-repair
returns-in-Ok-begin_course-clause-repair g c =
    repair_here c.in-Ok.header _ c.in-Ok-repair.repair c.in-Ok-begin_course.ensures.header
    c.in-Ok-repair.ensures.is

pub returns-in-Ok-begin_course-clause-held : goal.returns-in-Ok-begin_course-clause-held
returns-in-Ok-begin_course-clause-held g c =
    held_here (sizes_of c.args.disk.now) c.in-Ok.header _ (device_of c.args.disk.now).values
    c.in-Ok-begin_course.ensures.header c.in-Ok.ensures.held

-- the header behind an open zone can't be made
pub returns-in-Err-begin_course-clause-cause : goal.returns-in-Err-begin_course-clause-cause
returns-in-Err-begin_course-clause-cause g c =
    moved_without_calls (device_of c.args.disk.now) (device_of c.load.new.disk)
    c.in-Err-begin_course.fault _ c.from-in-Err-begin_course.ensures

pub returns-in-Err-begin_course-clause-refused : goal.returns-in-Err-begin_course-clause-refused
returns-in-Err-begin_course-clause-refused g c =
    λ all is. not_moved_in (sizes_of c.args.disk.now) c.args.keys.now c.in-Ok.header
    c.in-Err-begin_course.fault _ _ c.from-in-Err-begin_course.ensures
    (c.in-Ok.ensures.held all is)
    (not_moved_by _ _ _ (sizes_of c.args.disk.now) c.args.keys.now c.in-Ok.header
    c.valid.result.now c.in-Ok-judge_conversion.sides c.in-Err-begin_course.fault c.valid.ensures
    c.in-Ok.ensures.sized c.in-Ok-judge_conversion.ensures.conversion
    c.in-Err-begin_course.ensures.unmade.0 c.in-Err-begin_course.ensures.unmade.1)
