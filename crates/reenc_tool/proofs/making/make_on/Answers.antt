use Rattle.std.proofs.Common.{Some, ap, inl, refl, subst}
use Rattle.command_line.specs.Formats.{formatting}
use Rattle.luks_format.specs.DiskFormat.Calls.{WritesVolume}
use Rattle.reenc_tool.specs.declared.ended.Cause.TheVariants.{Device}
use Rattle.reenc_tool.specs.declared.ended.Failing.TheVariants.{Writing}
use Rattle.reenc_tool.proofs.MakingLemmas.{is_made, is_ready}
use Rattle.reenc_tool.proofs.making.make_on.Goals as goal

pub write_volume-requires : goal.write_volume-requires
write_volume-requires g c =
    let ready = is_ready (formatting c.args.words.now) c.args.sizes
    (g.D.Disk.device c.args.disk.now) _ _ c.in-Ok.volume _ c.requires.words c.requires.has
    c.requires.fits c.wish_of-wish.ensures.is c.in-Ok.ensures c.new_volumes_fit_their_disk.ensures in
    ready.fits

pub returns-in-Ok-write_volume : goal.returns-in-Ok-write_volume
returns-in-Ok-write_volume g c =
    let device = g.D.Disk.device in
    let ready = is_ready (formatting c.args.words.now) c.args.sizes (device c.args.disk.now) _ _
    c.in-Ok.volume _ c.requires.words c.requires.has c.requires.fits c.wish_of-wish.ensures.is
    c.in-Ok.ensures c.new_volumes_fit_their_disk.ensures in
    let back = c.write_volume.new.disk in
    inl (is_made device (formatting c.args.words.now) c.args.sizes _ _ c.args.disk.now back
    c.in-Ok.volume _ _ _ ready c.new_volumes_leave_the_rest.ensures c.new_volumes_stand.ensures
    (g.met.D.Disk.whole c.args.disk.now) (g.met.D.Disk.bytes c.args.disk.now)
    (subst (λ r. WritesVolume c.in-Ok.volume (device c.args.disk.now) (device back) r)
    c.in-Ok-write_volume.is c.write_volume.ensures) refl (ap Some c.in-Ok-formatted_line.ensures))

pub returns : goal.returns
returns g c =
    let device = g.D.Disk.device in
    let ready = is_ready (formatting c.args.words.now) c.args.sizes (device c.args.disk.now) _ _
    c.in-Ok.volume _ c.requires.words c.requires.has c.requires.fits c.wish_of-wish.ensures.is
    c.in-Ok.ensures c.new_volumes_fit_their_disk.ensures in
    let back = c.write_volume.new.disk in
    inl (is_made device (formatting c.args.words.now) c.args.sizes _ _ c.args.disk.now back
    c.in-Ok.volume _ _ _ ready c.new_volumes_leave_the_rest.ensures c.new_volumes_stand.ensures
    (g.met.D.Disk.whole c.args.disk.now) (g.met.D.Disk.bytes c.args.disk.now)
    (subst (λ r. WritesVolume c.in-Ok.volume (device c.args.disk.now) (device back) r)
    c.in-Err-write_volume.is c.write_volume.ensures) (ap (Device Writing) c.faults.ensures) refl)
