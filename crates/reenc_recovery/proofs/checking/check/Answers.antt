use Rattle.std.proofs.Common.{◌≡◌, sym, ◌∙◌, ap, subst}
use Rattle.base_terms.specs.declared.disk_sizes.Sizes.{Sizes}
use Rattle.sector_disk.specs.JoinedDisks.Counts.{sizes_of}
use Rattle.luks_rules.specs.Areas.{header_bytes}
use Rattle.luks_rules.specs.declared.valid.Checked.{Checked}
use Rattle.luks_store.specs.Devices.{device_of, header_room}
use Rattle.reenc_recovery.specs.Causes.{IsRefusedVolume}
use Rattle.reenc_recovery.proofs.CheckLemmas.{by_load, disk_of, has_passed, refused_in, room_of}
use Rattle.reenc_recovery.proofs.CheckLemmas.{said}
use Rattle.reenc_recovery.proofs.OpenCauseLemmas.{refused_without_reads}
use Rattle.reenc_recovery.proofs.checking.check.Goals as goal

pub judge_volume-requires : goal.judge_volume-requires
judge_volume-requires g c =
    disk_of c.sizes-sizes.result c.valid.result.now.sizes (device_of c.args.disk.now).atoms
    (ap (λ (v : Checked). v.sizes) c.valid.ensures ∙ c.in-Ok.ensures.sized
    ∙ sym c.sizes-sizes.ensures.is)
    c.sizes-sizes.ensures.known c.sizes-sizes.ensures.all c.sizes-sizes.ensures.fits

pub returns-in-Err-clause-cause : goal.returns-in-Err-clause-cause
returns-in-Err-clause-cause g c =
    by_load (device_of c.args.disk.now) (device_of c.load.new.disk) c.in-Err.fault _
    c.from.ensures c.in-Err.ensures.cause

pub returns-in-Err-clause-refused : goal.returns-in-Err-clause-refused
returns-in-Err-clause-refused g c =
    λ all is. said (sizes_of c.args.disk.now) c.args.keys.now.new _ c.in-Err.fault _ c.from.ensures
    (c.in-Err.ensures.held all is)

pub returns-in-Err-judge_volume-clause-cause : goal.returns-in-Err-judge_volume-clause-cause
returns-in-Err-judge_volume-clause-cause g c =
    refused_without_reads c.valid.result.now.meta c.valid.result.now.sizes c.args.keys.now.new
    (device_of c.args.disk.now) (device_of c.load.new.disk) c.in-Err-judge_volume.cause
    c.in-Err-judge_volume.ensures.refused

pub returns-in-Err-judge_volume-clause-refused : goal.returns-in-Err-judge_volume-clause-refused
returns-in-Err-judge_volume-clause-refused g c =
    λ all is. refused_in (sizes_of c.args.disk.now) c.args.keys.now.new c.in-Ok.header
    c.in-Err-judge_volume.cause _ c.in-Ok.ensures.sized (c.in-Ok.ensures.held all is)
    (subst (λ (v : Checked). IsRefusedVolume v.meta v.sizes c.args.keys.now.new
    c.in-Err-judge_volume.cause) c.valid.ensures c.in-Err-judge_volume.ensures.refused)

pub returns-in-Ok-repair-clause-passed : goal.returns-in-Ok-repair-clause-passed
returns-in-Ok-repair-clause-passed g c =
    has_passed _ _ _ (sizes_of c.args.disk.now) c.args.keys.now.new c.in-Ok.header
    c.valid.result.now c.in-Ok-judge_volume.opening.placement c.in-Ok-judge_volume.opening.keys
    c.valid.ensures c.is_stored.ensures.stored c.in-Ok.ensures.sized
    c.in-Ok-judge_volume.ensures.sound c.is_stored.ensures.size c.is_stored.ensures.room
    (subst (λ (z : Sizes). header_room z ≡ header_bytes z) c.sizes-sizes.ensures.is
    (room_of c.sizes-sizes.result c.sizes-sizes.ensures.alone))
    c.in-Ok-judge_volume.ensures.opens c.in-Ok-judge_volume.ensures.closed
