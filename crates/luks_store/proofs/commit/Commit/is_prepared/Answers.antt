use Rattle.std.proofs.Common.{subst}
use Rattle.luks_store.proofs.CommitLemmas.{copies-fit, next-stored}
use Rattle.luks_store.specs.Commits.{IsPrepared}
use Rattle.luks_store.proofs.commit.Commit.is_prepared.Goals as goal

pub returns-clause-fit : goal.returns-clause-fit
returns-clause-fit c = copies-fit c.args.self.now (subst IsPrepared c.self.view_is c.self.invariant)

pub returns-clause-stored : goal.returns-clause-stored
returns-clause-stored c =
    next-stored c.copies_are_spelt.ensures c.args.self.now
    (subst IsPrepared c.self.view_is c.self.invariant)
