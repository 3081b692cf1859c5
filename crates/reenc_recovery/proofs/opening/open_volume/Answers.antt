use Rattle.std.proofs.Common.{◌≡◌, inl, inr, ℕ, refl, sym, ◌∙◌, ap, subst, arith}
use Rattle.base_terms.specs.declared.disk_sizes.Sizes.{Sizes}
use Rattle.sector_disk.specs.JoinedDisks.Counts.{HasSizes, joint_in, sizes_of}
use Rattle.luks_store.specs.Devices.{device_of}
use Rattle.reenc_meta.specs.Placements.{all_atoms}
use Rattle.reenc_recovery.specs.Calls.{SyncsAndReads}
use Rattle.reenc_recovery.specs.Tables.{ShowsSizes, TellsSince}
use Rattle.reenc_recovery.proofs.CipherLemmas.{keys_fit}
use Rattle.reenc_recovery.proofs.OpenCauseLemmas.{cause_since, repair_rose, rose_since}
use Rattle.reenc_recovery.proofs.OpenLemmas.{atoms_read, begun, fits, is_checked, refused_later}
use Rattle.reenc_recovery.proofs.OpenLemmas.{runs, shows_sizes, size_read, tells, unrepaired}
use Rattle.reenc_recovery.proofs.VolumeLemmas.{opened_of, volume_of}
use Rattle.reenc_recovery.proofs.opening.open_volume.Goals as goal
use Rattle.sector_disk.specs.Devices.{succeeded}
use Rattle.sector_disk.specs.Geometry.{IsAtom}
use Rattle.volume_machine.specs.Beginnings.{IsFresh, new_volume}
use Rattle.volume_machine.specs.Sound.{IsSound, MapFits}

-- memory for the lanes was wanted
pub returns-in-Err-clause-unopened : goal.returns-in-Err-clause-unopened
returns-in-Err-clause-unopened g c = inl (refl, inl (refl, refl))

pub returns-in-Err-clause-cause : goal.returns-in-Err-clause-cause
returns-in-Err-clause-cause g c = tt

pub returns-in-Err-clause-refused : goal.returns-in-Err-clause-refused
returns-in-Err-clause-refused g c = λ all is. tt

-- the first sync failed
pub returns-in-Err-sync-clause-unopened : goal.returns-in-Err-sync-clause-unopened
returns-in-Err-sync-clause-unopened g c =
    inl (c.in-Err-sync.ensures.sizes, inr (inl (c.in-Err-sync.ensures.call, refl)))

pub returns-in-Err-sync-clause-cause : goal.returns-in-Err-sync-clause-cause
returns-in-Err-sync-clause-cause g c = c.in-Err-sync.ensures.call.cause.failed refl

pub returns-in-Err-sync-clause-refused : goal.returns-in-Err-sync-clause-refused
returns-in-Err-sync-clause-refused g c = λ all is. tt

-- the header or the key was refused
pub returns-in-Err-check-clause-unopened : goal.returns-in-Err-check-clause-unopened
returns-in-Err-check-clause-unopened g c =
    let first : SyncsAndReads (joint_in c.args.disk) (joint_in c.check.new.disk) = record {
      synced = joint_in c.sync.new.self;
      sync = c.in-Ok-sync.ensures.call;
      unwritten = c.in-Err-check.ensures.unwritten;
    } in
    let sizes = c.in-Err-check.ensures.sizes ∙ c.in-Ok-sync.ensures.sizes in
    inl (
      sizes,
      inr (inr (record {
        calls = first;
        tables = c.openings_keep_contents.ensures.reads (sizes_of c.args.disk) (joint_in c.args.disk)
            (joint_in c.check.new.disk) first;
      })),
    )

pub returns-in-Err-check-clause-cause : goal.returns-in-Err-check-clause-cause
returns-in-Err-check-clause-cause g c =
    cause_since (device_of c.args.disk) (device_of c.sync.new.self) (device_of c.check.new.disk)
    c.in-Err-check.cause c.in-Ok-sync.ensures.call.cause.later c.in-Err-check.ensures.cause

pub returns-in-Err-check-clause-refused : goal.returns-in-Err-check-clause-refused
returns-in-Err-check-clause-refused g c =
    refused_later (sizes_of c.args.disk) (sizes_of c.sync.new.self) c.args.keys.now.new
    c.in-Err-check.cause (device_of c.args.disk) (device_of c.sync.new.self)
    c.in-Ok-sync.ensures.sizes c.in-Ok-sync.ensures.call c.in-Err-check.ensures.refused

-- all checks passed

pub mend-requires-clause-begun : goal.mend-requires-clause-begun
mend-requires-clause-begun g c =
    let checked = c.in-Ok-check.checked in
    let is = is_checked _ _ _ (sizes_of c.args.disk) (sizes_of c.sync.new.self) c.args.keys.now.new
    checked.header checked.opening.placement checked.opening.keys checked.repair
    (joint_in c.args.disk) (joint_in c.sync.new.self) (joint_in c.check.new.disk)
    c.in-Ok-sync.ensures.sizes c.in-Ok-sync.ensures.call c.in-Ok-check.ensures.unwritten
    c.in-Ok-check.ensures.passed c.in-Ok-check.ensures.repair c.in-Ok-check.ensures.fits
    c.in-Ok-check.ensures.held in
    begun _ _ _ (sizes_of c.args.disk) c.args.keys.now.new checked.header checked.opening.placement
    checked.opening.keys checked.repair (joint_in c.args.disk) (joint_in c.check.new.disk) is

pub mend-requires-clause-fits : goal.mend-requires-clause-fits
mend-requires-clause-fits g c =
    let has : HasSizes (sizes_of c.args.disk) (device_of c.args.disk) =
    subst (λ (z : Sizes). HasSizes z (device_of c.args.disk)) c.sizes-sizes.ensures.is (record {
      atom = c.sizes-sizes.ensures.atom;
      header = c.sizes-sizes.ensures.header;
      main = c.sizes-sizes.ensures.main;
      all = c.sizes-sizes.ensures.all;
      alone = c.sizes-sizes.ensures.alone;
    }) in
    let known =
    subst (λ (z : Sizes). IsAtom z.atom) c.sizes-sizes.ensures.is c.sizes-sizes.ensures.known in
    let checked = c.in-Ok-check.checked in
    let is = is_checked _ _ _ (sizes_of c.args.disk) (sizes_of c.sync.new.self) c.args.keys.now.new
    checked.header checked.opening.placement checked.opening.keys checked.repair
    (joint_in c.args.disk) (joint_in c.sync.new.self) (joint_in c.check.new.disk)
    c.in-Ok-sync.ensures.sizes c.in-Ok-sync.ensures.call c.in-Ok-check.ensures.unwritten
    c.in-Ok-check.ensures.passed c.in-Ok-check.ensures.repair c.in-Ok-check.ensures.fits
    c.in-Ok-check.ensures.held in
    fits _ _ _ (sizes_of c.args.disk) c.args.keys.now.new checked.header checked.opening.placement
    checked.opening.keys checked.repair (joint_in c.args.disk) (joint_in c.check.new.disk) is has
    known

-- a call of the repair failed

pub returns-in-Err-mend-clause-unopened : goal.returns-in-Err-mend-clause-unopened
returns-in-Err-mend-clause-unopened g c =
    let shows : ShowsSizes (sizes_of c.args.disk) (device_of c.args.disk) =
    subst (λ (z : Sizes). ShowsSizes z (device_of c.args.disk)) c.sizes-sizes.ensures.is
    (shows_sizes c.sizes-sizes.result (device_of c.args.disk) c.sizes-sizes.ensures.atom
    c.sizes-sizes.ensures.known c.sizes-sizes.ensures.header c.sizes-sizes.ensures.whole
    c.disks_tell_lawfully.ensures.agrees c.disks_tell_lawfully.ensures.even) in
    let checked = c.in-Ok-check.checked in
    let is = is_checked _ _ _ (sizes_of c.args.disk) (sizes_of c.sync.new.self) c.args.keys.now.new
    checked.header checked.opening.placement checked.opening.keys checked.repair
    (joint_in c.args.disk) (joint_in c.sync.new.self) (joint_in c.check.new.disk)
    c.in-Ok-sync.ensures.sizes c.in-Ok-sync.ensures.call c.in-Ok-check.ensures.unwritten
    c.in-Ok-check.ensures.passed c.in-Ok-check.ensures.repair c.in-Ok-check.ensures.fits
    c.in-Ok-check.ensures.held in
    inr (unrepaired _ _ _ (sizes_of c.args.disk) c.args.keys.now.new checked.header
    checked.opening.placement
    checked.opening.keys checked.repair (joint_in c.args.disk) (joint_in c.check.new.disk) is
    c.openings_keep_contents.ensures.repairs shows (device_of c.mend.new.disk)
    c.in-Err-mend.ensures.run c.disks_tell_lawfully-in-Err-mend.ensures.sized)

pub returns-in-Err-mend-clause-cause : goal.returns-in-Err-mend-clause-cause
returns-in-Err-mend-clause-cause g c =
    let checked = c.in-Ok-check.checked in
    let later = c.in-Ok-sync.ensures.call.cause.later in
    let read = c.in-Ok-check.ensures.unwritten.later in
    rose_since (device_of c.args.disk).faults (device_of c.check.new.disk).faults
    (device_of c.mend.new.disk).faults (omega (arith, later, read))
    (repair_rose checked.repair (device_of c.check.new.disk) (device_of c.mend.new.disk)
    c.in-Err-mend.ensures.run)

pub returns-in-Err-mend-clause-refused : goal.returns-in-Err-mend-clause-refused
returns-in-Err-mend-clause-refused g c =
    λ all is. tt

-- the volume

pub opened-requires-clause-atom : goal.opened-requires-clause-atom
opened-requires-clause-atom g c =
    let shows : ShowsSizes (sizes_of c.args.disk) (device_of c.args.disk) =
    subst (λ (z : Sizes). ShowsSizes z (device_of c.args.disk)) c.sizes-sizes.ensures.is
    (shows_sizes c.sizes-sizes.result (device_of c.args.disk) c.sizes-sizes.ensures.atom
    c.sizes-sizes.ensures.known c.sizes-sizes.ensures.header c.sizes-sizes.ensures.whole
    c.disks_tell_lawfully.ensures.agrees c.disks_tell_lawfully.ensures.even) in
    let checked = c.in-Ok-check.checked in
    let is = is_checked _ _ _ (sizes_of c.args.disk) (sizes_of c.sync.new.self) c.args.keys.now.new
    checked.header checked.opening.placement checked.opening.keys checked.repair
    (joint_in c.args.disk) (joint_in c.sync.new.self) (joint_in c.check.new.disk)
    c.in-Ok-sync.ensures.sizes c.in-Ok-sync.ensures.call c.in-Ok-check.ensures.unwritten
    c.in-Ok-check.ensures.passed c.in-Ok-check.ensures.repair c.in-Ok-check.ensures.fits
    c.in-Ok-check.ensures.held in
    let size =
    c.in-Ok-mend.ensures.size
    ∙ size_read _ _ _ (sizes_of c.args.disk) c.args.keys.now.new checked.header
    checked.opening.placement
    checked.opening.keys checked.repair (joint_in c.args.disk) (joint_in c.check.new.disk) is in
    let atom = is.passed.opening.right.atom ∙ shows.atom ∙ sym size in
    atom

pub opened-requires-clause-map : goal.opened-requires-clause-map
opened-requires-clause-map g c =
    let checked = c.in-Ok-check.checked in
    let is = is_checked _ _ _ (sizes_of c.args.disk) (sizes_of c.sync.new.self) c.args.keys.now.new
    checked.header checked.opening.placement checked.opening.keys checked.repair
    (joint_in c.args.disk) (joint_in c.sync.new.self) (joint_in c.check.new.disk)
    c.in-Ok-sync.ensures.sizes c.in-Ok-sync.ensures.call c.in-Ok-check.ensures.unwritten
    c.in-Ok-check.ensures.passed c.in-Ok-check.ensures.repair c.in-Ok-check.ensures.fits
    c.in-Ok-check.ensures.held in
    let all = ap (λ (z : Sizes). all_atoms z) (sym c.sizes-sizes.ensures.is)
    ∙ c.sizes-sizes.ensures.all in
    let atoms =
    c.in-Ok-mend.ensures.atoms
    ∙ atoms_read _ _ _ (sizes_of c.args.disk) c.args.keys.now.new checked.header
    checked.opening.placement
    checked.opening.keys checked.repair (joint_in c.args.disk) (joint_in c.check.new.disk) is in
    subst (λ (n : ℕ). MapFits checked.opening.placement.map n) (all ∙ sym atoms)
    is.passed.opening.right.fits

pub opened-requires-clause-zone : goal.opened-requires-clause-zone
opened-requires-clause-zone g c =
    let checked = c.in-Ok-check.checked in
    let is = is_checked _ _ _ (sizes_of c.args.disk) (sizes_of c.sync.new.self) c.args.keys.now.new
    checked.header checked.opening.placement checked.opening.keys checked.repair
    (joint_in c.args.disk) (joint_in c.sync.new.self) (joint_in c.check.new.disk)
    c.in-Ok-sync.ensures.sizes c.in-Ok-sync.ensures.call c.in-Ok-check.ensures.unwritten
    c.in-Ok-check.ensures.passed c.in-Ok-check.ensures.repair c.in-Ok-check.ensures.fits
    c.in-Ok-check.ensures.held in
    is.passed.closed

pub opened-requires-clause-keys : goal.opened-requires-clause-keys
opened-requires-clause-keys g c =
    let checked = c.in-Ok-check.checked in
    let is = is_checked _ _ _ (sizes_of c.args.disk) (sizes_of c.sync.new.self) c.args.keys.now.new
    checked.header checked.opening.placement checked.opening.keys checked.repair
    (joint_in c.args.disk) (joint_in c.sync.new.self) (joint_in c.check.new.disk)
    c.in-Ok-sync.ensures.sizes c.in-Ok-sync.ensures.call c.in-Ok-check.ensures.unwritten
    c.in-Ok-check.ensures.passed c.in-Ok-check.ensures.repair c.in-Ok-check.ensures.fits
    c.in-Ok-check.ensures.held in
    keys_fit _ _ _ checked.header.valid.meta (sizes_of c.args.disk) c.args.keys.now.new
    checked.opening.placement checked.opening.keys is.passed.opening

pub returns-clause-opened : goal.returns-clause-opened
returns-clause-opened g c =
    let shows : ShowsSizes (sizes_of c.args.disk) (device_of c.args.disk) =
    subst (λ (z : Sizes). ShowsSizes z (device_of c.args.disk)) c.sizes-sizes.ensures.is
    (shows_sizes c.sizes-sizes.result (device_of c.args.disk) c.sizes-sizes.ensures.atom
    c.sizes-sizes.ensures.known c.sizes-sizes.ensures.header c.sizes-sizes.ensures.whole
    c.disks_tell_lawfully.ensures.agrees c.disks_tell_lawfully.ensures.even) in
    let checked = c.in-Ok-check.checked in
    let is = is_checked _ _ _ (sizes_of c.args.disk) (sizes_of c.sync.new.self) c.args.keys.now.new
    checked.header checked.opening.placement checked.opening.keys checked.repair
    (joint_in c.args.disk) (joint_in c.sync.new.self) (joint_in c.check.new.disk)
    c.in-Ok-sync.ensures.sizes c.in-Ok-sync.ensures.call c.in-Ok-check.ensures.unwritten
    c.in-Ok-check.ensures.passed c.in-Ok-check.ensures.repair c.in-Ok-check.ensures.fits
    c.in-Ok-check.ensures.held in
    let size =
    c.in-Ok-mend.ensures.size
    ∙ size_read _ _ _ (sizes_of c.args.disk) c.args.keys.now.new checked.header
    checked.opening.placement
    checked.opening.keys checked.repair (joint_in c.args.disk) (joint_in c.check.new.disk) is in
    let atom = is.passed.opening.right.atom ∙ shows.atom ∙ sym size in
    let volume = c.opened.ensures.volume
    ∙ ap (λ n. new_volume checked.opening.placement.map checked.opening.keys n
    (device_of c.mend.new.disk)) c.in-Ok.ensures in
    let run =
    runs _ _ _ (sizes_of c.args.disk) c.args.keys.now.new checked.header checked.opening.placement
    checked.opening.keys checked.repair (joint_in c.args.disk) (joint_in c.check.new.disk) is
    (device_of c.mend.new.disk) succeeded c.in-Ok-mend.ensures.run in
    opened_of _ _ _ (sizes_of c.args.disk) c.args.keys.now.new (joint_in c.args.disk) _ _ volume
    (volume_of _ _ _ (sizes_of c.args.disk) c.args.keys.now.new checked.header
    checked.opening.placement checked.opening.keys is.passed checked.repair (joint_in c.args.disk)
    (device_of c.mend.new.disk) c.args.lanes atom run c.disks_tell_lawfully-2.ensures.agrees
    c.disks_tell_lawfully-2.ensures.even c.disks_tell_lawfully-2.ensures.whole
    c.disks_tell_lawfully-2.ensures.bytes c.copies_are_read.ensures
    c.copies_mean_what_they_share.ensures c.used_copies_are_headers.ensures.stands
    c.used_copies_are_headers.ensures.both c.used_copies_are_headers.ensures.given
    c.metadata_go_by_meaning.ensures.loads c.contents_stay_behind_headers.ensures.keys
    c.contents_stay_behind_headers.ensures.passphrase shows is.asked is.held
    (λ now still values long bytes.
    c.opened_volumes_start.ensures (sizes_of c.args.disk) c.args.keys.now.new now _ still
    (subst (λ v. IsSound v) volume c.opened.ensures.sound)
    (subst (λ v. IsFresh v) volume c.opened.ensures.fresh) values long bytes))

pub returns-clause-tables : goal.returns-clause-tables
returns-clause-tables g c =
    let shows : ShowsSizes (sizes_of c.args.disk) (device_of c.args.disk) =
    subst (λ (z : Sizes). ShowsSizes z (device_of c.args.disk)) c.sizes-sizes.ensures.is
    (shows_sizes c.sizes-sizes.result (device_of c.args.disk) c.sizes-sizes.ensures.atom
    c.sizes-sizes.ensures.known c.sizes-sizes.ensures.header c.sizes-sizes.ensures.whole
    c.disks_tell_lawfully.ensures.agrees c.disks_tell_lawfully.ensures.even) in
    let checked = c.in-Ok-check.checked in
    let is = is_checked _ _ _ (sizes_of c.args.disk) (sizes_of c.sync.new.self) c.args.keys.now.new
    checked.header checked.opening.placement checked.opening.keys checked.repair
    (joint_in c.args.disk) (joint_in c.sync.new.self) (joint_in c.check.new.disk)
    c.in-Ok-sync.ensures.sizes c.in-Ok-sync.ensures.call c.in-Ok-check.ensures.unwritten
    c.in-Ok-check.ensures.passed c.in-Ok-check.ensures.repair c.in-Ok-check.ensures.fits
    c.in-Ok-check.ensures.held in
    let volume = c.opened.ensures.volume
    ∙ ap (λ n. new_volume checked.opening.placement.map checked.opening.keys n
    (device_of c.mend.new.disk)) c.in-Ok.ensures in
    subst (λ v. TellsSince (sizes_of c.args.disk) (device_of c.args.disk) v.disk) (sym volume)
    (tells _ _ _ (sizes_of c.args.disk) c.args.keys.now.new checked.header checked.opening.placement
    checked.opening.keys checked.repair (joint_in c.args.disk) (joint_in c.check.new.disk) is
    c.openings_keep_contents.ensures.repairs shows (device_of c.mend.new.disk) succeeded
    c.in-Ok-mend.ensures.run c.disks_tell_lawfully-2.ensures.sized)

pub returns-clause-lanes : goal.returns-clause-lanes
returns-clause-lanes g c =
    let checked = c.in-Ok-check.checked in
    let volume = c.opened.ensures.volume
    ∙ ap (λ n. new_volume checked.opening.placement.map checked.opening.keys n
    (device_of c.mend.new.disk)) c.in-Ok.ensures in
    subst (λ v. v ≡ new_volume v.map v.keys c.args.lanes v.disk) (sym volume) refl
