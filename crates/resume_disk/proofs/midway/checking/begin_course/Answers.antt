use Rattle.resume_disk.proofs.OpenedMidway.OpenLemmas.{may_by, new_here}
use Rattle.resume_disk.proofs.midway.checking.begin_course.Goals as goal

pub returns-then-not-has_zone-clause-begins : goal.returns-then-not-has_zone-clause-begins
returns-then-not-has_zone-clause-begins g c =
    may_by c.args.header c.requires.guarded
    (λ has. (let e = c.if-not-has_zone.ensures.1 has in cc))

pub returns-in-Ok-clause-begins : goal.returns-in-Ok-clause-begins
returns-in-Ok-clause-begins g c =
    new_here c.args.header c.args.keys c.in-Ok.mending c.in-Ok.ensures.new

pub returns-in-Ok-clause-header : goal.returns-in-Ok-clause-header
returns-in-Ok-clause-header g c = c.in-Ok.ensures.new.loaded
