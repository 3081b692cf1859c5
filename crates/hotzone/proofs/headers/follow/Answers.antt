use Rattle.hotzone.proofs.MadeLemmas.{follows-by}
use Rattle.hotzone.proofs.headers.follow.Goals as goal
use Rattle.hotzone.proofs.headers.follow.Goals.{After-is_stored-2}
use Rattle.hotzone.specs.Headings.{Follows}
use Rattle.std.proofs.Common.{◌≡◌}

follows : (c : After-is_stored-2)
    → Follows c.args.before.now
    (record { commit = c.in_ok-commit.commit; loaded = c.in_ok-loaded.loaded })
    × (c.in_ok-loaded.loaded.valid.meta ≡ c.args.meta.now)
follows c =
    follows-by c.args.before.now c.args.meta.now c.in_ok-commit.commit c.in_ok-loaded.loaded
    (c.in_ok-commit.ensures.next) (c.in_ok-commit.ensures.begun) c.is_stored-2.ensures.stored
    c.in_ok-loaded.ensures.copies c.in_ok-loaded.ensures.loads

pub returns-clause-follows : goal.returns-clause-follows
returns-clause-follows c = (follows c).0

pub returns-clause-meta : goal.returns-clause-meta
returns-clause-meta c = (follows c).1
