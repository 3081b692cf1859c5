use Rattle.std.proofs.Common.{◌∙◌, ap}
use Rattle.sector_disk.specs.JoinedDisks.Joined.{begun_joint, shown_told}
use Rattle.sector_disk.proofs.JoinedDisks.JointLemmas.{begun_tells, shown_both}
use Rattle.sector_disk.proofs.JoinedDisks.MainCalls.{told_main}
use Rattle.sector_disk.proofs.joined.joined.JoinedDisk.with.Goals as goal

pub returns-clause-tells : goal.returns-clause-tells
returns-clause-tells g c = λ front told some of_head of_main.
    ap shown_told c.of.ensures.joint
    ∙ shown_both (begun_joint (g.D.Disk.device c.args.head) (g.D.Disk.device c.args.main)) some
    ∙ begun_tells (g.D.Disk.device c.args.head) (g.D.Disk.device c.args.main) front told of_head
    of_main

pub returns-clause-empty : goal.returns-clause-empty
returns-clause-empty g c = λ none.
    ap shown_told c.of.ensures.joint
    ∙ told_main (begun_joint (g.D.Disk.device c.args.head) (g.D.Disk.device c.args.main)) none
