use Rattle.std.proofs.Common.{sym, subst}
use Rattle.luks_store.specs.Copying.Steps.{CopyCall}
use Rattle.luks_store.proofs.header_copies.commit.Commit.call.Goals as goal

pub returns-in-Begun-clause-call : goal.returns-in-Begun-clause-call
returns-in-Begun-clause-call g c =
    let self = c.args.self.now in
    subst (λ stage. CopyCall stage self.first self.second self.size
    (g.D.Disk.device c.args.disk.now)
    (g.D.Disk.device c.write.new.self) c.write.result) (sym c.in-Begun.is)
    (rw c.as_slice.ensures at c.write.ensures.call)

pub returns-in-FirstWritten-clause-call : goal.returns-in-FirstWritten-clause-call
returns-in-FirstWritten-clause-call g c =
    let self = c.args.self.now in
    subst (λ stage. CopyCall stage self.first self.second self.size
    (g.D.Disk.device c.args.disk.now)
    (g.D.Disk.device c.sync.new.self) c.sync.result) (sym c.in-FirstWritten.is) c.sync.ensures.call

pub returns-in-FirstKept-clause-call : goal.returns-in-FirstKept-clause-call
returns-in-FirstKept-clause-call g c =
    let self = c.args.self.now in
    subst (λ stage. CopyCall stage self.first self.second self.size
    (g.D.Disk.device c.args.disk.now)
    (g.D.Disk.device c.write-in-FirstKept.new.self) c.write-in-FirstKept.result)
    (sym c.in-FirstKept.is)
    (rw (c.as_slice-in-FirstKept.ensures, c.atom-atom.ensures.is) at
    c.write-in-FirstKept.ensures.call)

pub returns-in-SecondWritten-clause-call : goal.returns-in-SecondWritten-clause-call
returns-in-SecondWritten-clause-call g c =
    let self = c.args.self.now in
    subst (λ stage. CopyCall stage self.first self.second self.size
    (g.D.Disk.device c.args.disk.now)
    (g.D.Disk.device c.sync-in-SecondWritten.new.self) c.sync-in-SecondWritten.result)
    (sym c.in-SecondWritten.is)
    c.sync-in-SecondWritten.ensures.call
