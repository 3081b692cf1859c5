use Rattle.std.proofs.Common.{refl, sym, ◌∙◌, subst, arith}
use Rattle.resume_disk.proofs.OpenedMidway.CauseLemmas.{behind_checks, cause_since, refused_later}
use Rattle.resume_disk.proofs.OpenedMidway.OpenLemmas.{begun_of, fits_read, not_opened, opened_of}
use Rattle.resume_disk.proofs.OpenedMidway.OpenLemmas.{refused_behind, sizes_read}
use Rattle.resume_disk.proofs.midway.opening.open_conversion.Goals as goal
use Rattle.resume_disk.specs.OpenedMidway.Openings.{only_read, uncalled, unsynced}
use Rattle.resume_disk.specs.OpenedMidway.Runs.{header_in}
use Rattle.base_terms.specs.declared.disk_sizes.Sizes.{Sizes}
use Rattle.sector_disk.specs.JoinedDisks.Counts.{HasSizes, joint_in, sizes_of}
use Rattle.luks_store.specs.Devices.{device_of}
use Rattle.sector_disk.specs.Geometry.{IsAtom}
use Rattle.volume_core.specs.Zones.{IsReadBy}
use Rattle.volume_laws.specs.Converting.{IsInOrder}
use Rattle.hotzone.specs.ZoneEvents.Readings.{reading_of}

-- memory for the lanes was wanted
pub returns-in-Err-clause-unopened : goal.returns-in-Err-clause-unopened
returns-in-Err-clause-unopened g c = uncalled refl refl refl

pub returns-in-Err-clause-cause : goal.returns-in-Err-clause-cause
returns-in-Err-clause-cause g c = tt

pub returns-in-Err-clause-refused : goal.returns-in-Err-clause-refused
returns-in-Err-clause-refused g c = λ all is. tt

-- the first sync failed
pub returns-in-Err-sync-clause-unopened : goal.returns-in-Err-sync-clause-unopened
returns-in-Err-sync-clause-unopened g c =
    unsynced c.in-Err-sync.ensures.sizes c.in-Err-sync.ensures.call refl

pub returns-in-Err-sync-clause-cause : goal.returns-in-Err-sync-clause-cause
returns-in-Err-sync-clause-cause g c = c.in-Err-sync.ensures.call.cause.failed refl

pub returns-in-Err-sync-clause-refused : goal.returns-in-Err-sync-clause-refused
returns-in-Err-sync-clause-refused g c = λ all is. tt

-- a check failed
pub returns-in-Err-check_conversion-clause-unopened : goal.returns-in-Err-check_conversion-clause-unopened
returns-in-Err-check_conversion-clause-unopened g c =
    only_read (c.in-Err-check_conversion.ensures.sizes ∙ c.in-Ok-sync.ensures.sizes) (record {
      synced = joint_in c.sync.new.self;
      sync = c.in-Ok-sync.ensures.call;
      unwritten = c.in-Err-check_conversion.ensures.unwritten;
    })

pub returns-in-Err-check_conversion-clause-cause : goal.returns-in-Err-check_conversion-clause-cause
returns-in-Err-check_conversion-clause-cause g c =
    cause_since (device_of c.args.disk) (device_of c.sync.new.self)
    (device_of c.check_conversion.new.disk) c.in-Err-check_conversion.cause
    c.in-Ok-sync.ensures.call.cause.later c.in-Err-check_conversion.ensures.cause

pub returns-in-Err-check_conversion-clause-refused : goal.returns-in-Err-check_conversion-clause-refused
returns-in-Err-check_conversion-clause-refused g c =
    refused_later (sizes_of c.args.disk) (sizes_of c.sync.new.self) c.args.keys.now
    c.in-Err-check_conversion.cause (device_of c.args.disk) (device_of c.sync.new.self)
    c.in-Ok-sync.ensures.sizes c.in-Ok-sync.ensures.call c.in-Err-check_conversion.ensures.refused

-- all checks passed
pub lead_on-requires-clause-repair : goal.lead_on-requires-clause-repair
lead_on-requires-clause-repair g c = λ κs lives.
    let begun = c.in-Ok-check_conversion.begun in
    let passed = c.in-Ok-check_conversion.ensures.passed in
    begun_of (header_in begun.course).copies begun.repair passed.stored.copies
    c.in-Ok-check_conversion.ensures.repair

pub lead_on-requires-clause-fits : goal.lead_on-requires-clause-fits
lead_on-requires-clause-fits g c = λ κs lives.
    let has : HasSizes (sizes_of c.args.disk) (device_of c.args.disk) =
    subst (λ (z : Sizes). HasSizes z (device_of c.args.disk)) c.sizes-sizes.ensures.is (record {
      atom = c.sizes-sizes.ensures.atom;
      header = c.sizes-sizes.ensures.header;
      main = c.sizes-sizes.ensures.main;
      all = c.sizes-sizes.ensures.all;
      alone = c.sizes-sizes.ensures.alone;
    }) in
    let known =
    subst (λ (z : Sizes). IsAtom z.atom) c.sizes-sizes.ensures.is c.sizes-sizes.ensures.known in
    fits_read (sizes_of c.args.disk) (sizes_of c.sync.new.self)
    c.in-Ok-check_conversion.begun.repair (joint_in c.args.disk)
    (joint_in c.sync.new.self) (joint_in c.check_conversion.new.disk) c.in-Ok-sync.ensures.sizes
    c.in-Ok-sync.ensures.call c.in-Ok-check_conversion.ensures.unwritten has known
    c.in-Ok-check_conversion.ensures.fits

pub lead_on-requires-clause-sizes : goal.lead_on-requires-clause-sizes
lead_on-requires-clause-sizes g c = λ κs lives.
    let has : HasSizes (sizes_of c.args.disk) (device_of c.args.disk) =
    subst (λ (z : Sizes). HasSizes z (device_of c.args.disk)) c.sizes-sizes.ensures.is (record {
      atom = c.sizes-sizes.ensures.atom;
      header = c.sizes-sizes.ensures.header;
      main = c.sizes-sizes.ensures.main;
      all = c.sizes-sizes.ensures.all;
      alone = c.sizes-sizes.ensures.alone;
    }) in
    subst (λ (z : Sizes). HasSizes z (device_of c.check_conversion.new.disk))
    (sym (c.in-Ok-check_conversion.ensures.passed.sizes_are ∙ c.in-Ok-sync.ensures.sizes))
    (sizes_read (sizes_of c.args.disk) (sizes_of c.sync.new.self)
    c.in-Ok-check_conversion.begun.repair (joint_in c.args.disk) (joint_in c.sync.new.self)
    (joint_in c.check_conversion.new.disk) c.in-Ok-sync.ensures.sizes c.in-Ok-sync.ensures.call
    c.in-Ok-check_conversion.ensures.unwritten has)

-- the volume
pub returns-in-Ok-lead_on-clause-opened : goal.returns-in-Ok-lead_on-clause-opened
returns-in-Ok-lead_on-clause-opened g c =
    let begun = c.in-Ok-check_conversion.begun in
    opened_of _ _ _ (sizes_of c.args.disk) (sizes_of c.sync.new.self) c.args.keys.now
    (header_in begun.course) begun.keys begun.repair (joint_in c.args.disk)
    (joint_in c.sync.new.self) (joint_in c.check_conversion.new.disk) c.in-Ok-sync.ensures.sizes
    c.in-Ok-sync.ensures.call c.in-Ok-check_conversion.ensures.unwritten
    c.in-Ok-check_conversion.ensures.passed c.in-Ok-check_conversion.ensures.repair
    c.in-Ok-check_conversion.ensures.held c.args.lanes _ c.in-Ok-lead_on.volume
    c.in-Ok.ensures c.in-Ok-lead_on.ensures.led

pub returns-in-Ok-lead_on-clause-read : goal.returns-in-Ok-lead_on-clause-read
returns-in-Ok-lead_on-clause-read g c =
    subst (λ (z : Sizes). IsReadBy z c.in-Ok-lead_on.volume)
    (c.in-Ok-check_conversion.ensures.passed.sizes_are ∙ c.in-Ok-sync.ensures.sizes)
    c.in-Ok-lead_on.ensures.read

pub returns-in-Ok-lead_on-clause-order : goal.returns-in-Ok-lead_on-clause-order
returns-in-Ok-lead_on-clause-order g c =
    subst (λ (z : Sizes). IsInOrder (reading_of z) c.in-Ok-lead_on.volume)
    (c.in-Ok-check_conversion.ensures.passed.sizes_are ∙ c.in-Ok-sync.ensures.sizes)
    c.in-Ok-lead_on.ensures.order

-- what is left where it isn't led on
pub returns-in-Err-lead_on-clause-unopened : goal.returns-in-Err-lead_on-clause-unopened
returns-in-Err-lead_on-clause-unopened g c =
    let begun = c.in-Ok-check_conversion.begun in
    not_opened _ _ _ (sizes_of c.args.disk) (sizes_of c.sync.new.self) c.args.keys.now
    (header_in begun.course) begun.keys begun.repair (joint_in c.args.disk)
    (joint_in c.sync.new.self) (joint_in c.check_conversion.new.disk) c.in-Ok-sync.ensures.sizes
    c.in-Ok-sync.ensures.call c.in-Ok-check_conversion.ensures.unwritten
    c.in-Ok-check_conversion.ensures.passed c.in-Ok-check_conversion.ensures.repair
    c.in-Ok-check_conversion.ensures.held (sizes_of c.in-Err-lead_on.fault.disk)
    (joint_in c.in-Err-lead_on.fault.disk) c.in-Err-lead_on.fault.cause
    c.in-Err-lead_on.ensures.left

pub returns-in-Err-lead_on-clause-cause : goal.returns-in-Err-lead_on-clause-cause
returns-in-Err-lead_on-clause-cause g c =
    let later = c.in-Ok-sync.ensures.call.cause.later in
    let read = c.in-Ok-check_conversion.ensures.unwritten.later in
    cause_since (device_of c.args.disk) (device_of c.check_conversion.new.disk)
    (device_of c.in-Err-lead_on.fault.disk) c.in-Err-lead_on.fault.cause (omega (arith, later, read))
    (behind_checks _ _ _ _ _ _ (device_of c.check_conversion.new.disk)
    (device_of c.in-Err-lead_on.fault.disk) c.in-Err-lead_on.fault.cause
    c.in-Err-lead_on.ensures.left)

pub returns-in-Err-lead_on-clause-refused : goal.returns-in-Err-lead_on-clause-refused
returns-in-Err-lead_on-clause-refused g c =
    λ all is. refused_behind _ _ _ _ _ _ _ _ c.in-Err-lead_on.fault.cause (sizes_of c.args.disk)
    c.args.keys.now _ c.in-Err-lead_on.ensures.left
