use Rattle.std.proofs.Common.{sym, subst}
use Rattle.luks_store.specs.Copying.Steps.{RepairCall}
use Rattle.luks_store.proofs.header_copies.repair.Repair.call.Goals as goal

pub returns-in-Broken-clause-call : goal.returns-in-Broken-clause-call
returns-in-Broken-clause-call g c =
    let self = c.args.self.now in
    subst (λ stage. RepairCall stage self.copy self.place (g.D.Disk.device c.args.disk.now)
    (g.D.Disk.device c.write.new.self) c.write.result) (sym c.in-Broken.is)
    (rw (c.as_slice.ensures, c.atom-atom.ensures.is) at c.write.ensures.call)

pub returns-in-Written-clause-call : goal.returns-in-Written-clause-call
returns-in-Written-clause-call g c =
    let self = c.args.self.now in
    subst (λ stage. RepairCall stage self.copy self.place (g.D.Disk.device c.args.disk.now)
    (g.D.Disk.device c.sync.new.self) c.sync.result) (sym c.in-Written.is) c.sync.ensures.call
