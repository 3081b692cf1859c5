use Rattle.std.proofs.Common.{ap, ◌∙◌, sym, subst, IfOk}
use Rattle.base_terms.specs.declared.disk_sizes.Sizes.{Sizes}
use Rattle.header_report.proofs.ExamineLemmas.{alone_sizes}
use Rattle.header_report.specs.Examinations.{sizes_alone}
use Rattle.sector_disk.specs.JoinedDisks.Counts.{joint_in, sizes_of}
use Rattle.sector_disk.specs.JoinedDisks.Joined.{Joint, in_front, joined_disk}
use Rattle.luks_rules.specs.declared.valid.Checked.{Checked}
use Rattle.volume_opening.proofs.OpenedLemmas.{opened_by, unopened_by}
use Rattle.volume_opening.specs.Openings.{IsFound, IsKeyFound}
use Rattle.volume_opening.proofs.opening.open_by_passphrase.Goals as goal

pub returns-in-Ok-open_volume-clause-opened : goal.returns-in-Ok-open_volume-clause-opened
returns-in-Ok-open_volume-clause-opened g c =
    let device = g.D.Disk.device c.args.disk in
    let read = g.D.Disk.device c.read_header-disk.result.0 in
    let after = g.D.Disk.device c.find_key.new.disk in
    let joint = c.alone-joined.ensures.joint in
    let atom = ap (λ (s : Sizes). s.atom) (sym c.sizes-sizes.ensures.is)
    ∙ c.sizes-sizes.ensures.atom ∙ ap (λ (j : Joint). (joined_disk j).size) joint in
    opened_by device read after c.args.pass.now c.in-Ok.header
    c.in-Ok-find_key.key (joint_in c.alone-joined.result) (sizes_of c.alone-joined.result)
    c.read_header-disk.ensures.read
    (subst (λ r. IfOk r (IsFound device)) c.in-Ok.is c.read_header-disk.ensures.found)
    c.in-Ok-find_key.ensures.read
    (subst (λ (v : Checked).
    IsKeyFound v.meta v.sizes c.args.pass.now read.values c.in-Ok-find_key.key) c.valid.ensures
    c.in-Ok-find_key.ensures.found)
    joint
    (alone_sizes c.alone-joined.result after (g.met.D.Disk.geometry c.find_key.new.disk) joint
    c.alone-joined.ensures.head atom)
    _ _ _ c.args.lanes c.in-Ok-open_volume.volume c.in-Ok-open_volume.ensures.opened
    c.in-Ok-open_volume.ensures.tables
    c.in-Ok-open_volume.ensures.lanes c.in-Ok-open_volume.ensures.fresh
    c.in-Ok-open_volume.ensures.sound (g.met.D.Disk.geometry c.find_key.new.disk)
    (λ all is. g.met.D.Disk.whole c.args.disk all is)
    (λ header first is unlocked. c.opened_volumes_go_by_passphrases.ensures (sizes_alone device)
    c.in-Ok-find_key.key header first c.in-Ok-open_volume.volume is c.args.pass.now unlocked)

pub returns-clause-refused : goal.returns-clause-refused
returns-clause-refused g c =
    let device = g.D.Disk.device c.args.disk in
    let read = g.D.Disk.device c.read_header-disk.result.0 in
    let after = g.D.Disk.device c.find_key.new.disk in
    let joint = c.alone-joined.ensures.joint in
    let atom = ap (λ (s : Sizes). s.atom) (sym c.sizes-sizes.ensures.is)
    ∙ c.sizes-sizes.ensures.atom ∙ ap (λ (j : Joint). (joined_disk j).size) joint in
    let back = c.in-Err-open_volume.field-0.disk in (
      joint_in back,
      record {
        size = back.atom;
        main = ap g.D.Disk.device c.parts-header.ensures.main;
        head = ap (in_front g.D.Disk.device back.atom) c.parts-header.ensures.head;
      },
      unopened_by device read after c.args.pass.now c.in-Ok.header
          c.in-Ok-find_key.key (joint_in c.alone-joined.result) (sizes_of c.alone-joined.result)
          c.read_header-disk.ensures.read
          (subst (λ r. IfOk r (IsFound device)) c.in-Ok.is c.read_header-disk.ensures.found)
          c.in-Ok-find_key.ensures.read
          (subst (λ (v : Checked).
          IsKeyFound v.meta v.sizes c.args.pass.now read.values c.in-Ok-find_key.key)
          c.valid.ensures c.in-Ok-find_key.ensures.found)
          joint
          (alone_sizes c.alone-joined.result after (g.met.D.Disk.geometry c.find_key.new.disk)
          joint c.alone-joined.ensures.head atom)
          c.in-Err-open_volume.field-0.cause (sizes_of back) (joint_in back)
          c.in-Err-open_volume.ensures.unopened c.in-Err-open_volume.ensures.cause
          c.in-Err-open_volume.ensures.refused (g.met.D.Disk.geometry c.find_key.new.disk)
          (λ all is. g.met.D.Disk.whole c.args.disk all is),
    )
