use Rattle.std.proofs.Common.{◌∙◌, ◌*◌, ap, subst, sym, IfOk}
use Rattle.base_terms.specs.declared.disk_sizes.Sizes.{Sizes}
use Rattle.header_report.proofs.ExamineLemmas.{alone_sizes}
use Rattle.sector_disk.specs.JoinedDisks.Counts.{HasSizes, joint_in, sizes_of}
use Rattle.sector_disk.specs.JoinedDisks.Joined.{Joint, in_front, joined_disk}
use Rattle.luks_store.specs.Devices.{device_of}
use Rattle.reenc_recovery.proofs.OpenLemmas.{shows_sizes}
use Rattle.reenc_recovery.specs.Tables.{ShowsSizes}
use Rattle.resume_disk.proofs.ResumeLemmas.{opened_midway, unopened_by}
use Rattle.resume_disk.specs.Resuming.{AreUnderKeys}
use Rattle.resume_disk.proofs.taking.take_up_conversion.Goals as goal

-- it was opened
pub returns-in-Ok-open_conversion-clause-taken : goal.returns-in-Ok-open_conversion-clause-taken
returns-in-Ok-open_conversion-clause-taken g c =
    let device = g.D.Disk.device c.args.disk in
    let read = g.D.Disk.device c.unlock_sides-disk.result.0 in
    let geometry = g.met.D.Disk.geometry c.unlock_sides-disk.result.0 in
    let joint = c.alone-joined.ensures.joint in
    let is = c.sizes-sizes.ensures in
    let tells = c.disks_tell_lawfully.ensures in
    let joined = device_of c.alone-joined.result in
    let atom = ap (λ (s : Sizes). s.atom) (sym is.is)
    ∙ is.atom ∙ ap (λ (j : Joint). (joined_disk j).size) joint in
    let has = subst (λ (z : Sizes). HasSizes z joined) is.is (record {
      atom = is.atom;
      header = is.header;
      main = is.main;
      all = is.all;
      alone = is.alone;
    }) in
    let shows = subst (λ (z : Sizes). ShowsSizes z joined) is.is
    (shows_sizes c.sizes-sizes.result joined is.atom is.known is.header is.whole tells.agrees
    tells.even) in
    opened_midway device read c.args.pass.now c.in-Ok.keys
    (subst (λ r. IfOk r (λ keys. AreUnderKeys device c.args.pass.now keys read)) c.in-Ok.is
    c.unlock_sides-disk.ensures.unlocked)
    (joint_in c.alone-joined.result) (sizes_of c.alone-joined.result) joint
    (alone_sizes c.alone-joined.result read geometry joint c.alone-joined.ensures.head atom)
    geometry (λ all is. g.met.D.Disk.whole c.args.disk all is) _ _ _ c.args.lanes
    c.in-Ok-open_conversion.volume
    c.in-Ok-open_conversion.ensures.opened c.in-Ok-open_conversion.ensures.read
    c.in-Ok-open_conversion.ensures.order c.in-Ok-open_conversion.ensures.sound has shows
    (λ all told. is.whole all told ∙ ap (λ (z : Sizes). joined.atoms * z.atom) is.is)

-- it wasn't
pub returns-in-Err-open_conversion-clause-refused : goal.returns-in-Err-open_conversion-clause-refused
returns-in-Err-open_conversion-clause-refused g c =
    let device = g.D.Disk.device c.args.disk in
    let read = g.D.Disk.device c.unlock_sides-disk.result.0 in
    let geometry = g.met.D.Disk.geometry c.unlock_sides-disk.result.0 in
    let joint = c.alone-joined.ensures.joint in
    let is = c.sizes-sizes.ensures in
    let tells = c.disks_tell_lawfully.ensures in
    let joined = device_of c.alone-joined.result in
    let atom = ap (λ (s : Sizes). s.atom) (sym is.is)
    ∙ is.atom ∙ ap (λ (j : Joint). (joined_disk j).size) joint in
    let has = subst (λ (z : Sizes). HasSizes z joined) is.is (record {
      atom = is.atom;
      header = is.header;
      main = is.main;
      all = is.all;
      alone = is.alone;
    }) in
    let shows = subst (λ (z : Sizes). ShowsSizes z joined) is.is
    (shows_sizes c.sizes-sizes.result joined is.atom is.known is.header is.whole tells.agrees
    tells.even) in
    let back = c.in-Err-open_conversion.field-0.disk in (
      joint_in back,
      record {
        size = back.atom;
        main = ap g.D.Disk.device c.parts-header.ensures.main;
        head = ap (in_front g.D.Disk.device back.atom) c.parts-header.ensures.head;
      },
      unopened_by device read c.args.pass.now c.in-Ok.keys
          (subst (λ r. IfOk r (λ keys. AreUnderKeys device c.args.pass.now keys read)) c.in-Ok.is
          c.unlock_sides-disk.ensures.unlocked)
          (joint_in c.alone-joined.result) (sizes_of c.alone-joined.result) joint
          (alone_sizes c.alone-joined.result read geometry joint c.alone-joined.ensures.head atom)
          geometry (λ all is. g.met.D.Disk.whole c.args.disk all is) _ _ _
          c.in-Err-open_conversion.field-0.cause (sizes_of back) (joint_in back) has shows
          (λ all told. is.whole all told ∙ ap (λ (z : Sizes). joined.atoms * z.atom) is.is)
          c.in-Err-open_conversion.ensures.unopened c.in-Err-open_conversion.ensures.lawful
          c.in-Err-open_conversion.ensures.cause c.in-Err-open_conversion.ensures.refused,
    )
