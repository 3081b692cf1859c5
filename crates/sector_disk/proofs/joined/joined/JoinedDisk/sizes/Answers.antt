use Rattle.std.proofs.Common.{◌∙◌, ◌+◌, ◌*◌, sym, ap}
use Rattle.sector_disk.specs.JoinedDisks.Joined.{joint_of}
use Rattle.sector_disk.specs.JoinedDisks.JoinedLaws.{shows, shows_front, shows_joint}
use Rattle.sector_disk.proofs.joined.joined.JoinedDisk.sizes.Goals as goal

pub returns-clause-whole : goal.returns-clause-whole
returns-clause-whole g c = λ all told.
    let d = c.args.self.now in
    let device = g.D.Disk.device in
    let each =
    shows device g.met.D.Disk.whole g.met.D.Disk.bytes g.met.D.Disk.agrees g.met.D.Disk.even
    g.met.D.Disk.held g.met.D.Disk.sized in
    let joint =
    joint_of device d.atom d.head_was.value d.main_was.value d.head d.main d.used d.calls in
    (shows_joint joint (shows_front device each d.atom d.head) (each d.main)
    (d.same_size ∙ sym d.size) d.within).whole all told
    ∙ ap (λ n. (joint.head.atoms + joint.used) * n) d.size
