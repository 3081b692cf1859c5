use Rattle.std.proofs.Common.{sym, subst}
use Rattle.luks_store.specs.Copying.Steps.{FitDisk}
use Rattle.luks_store.proofs.CommitLemmas.{copies-fit}
use Rattle.sector_disk.specs.JoinedDisks.Counts.{HasSizes}
use Rattle.luks_store.specs.declared.commit.Prepared.{Prepared}
use Rattle.luks_store.proofs.commit.Commit.step.Goals as goal

pub step-requires-clause-fits : goal.step-requires-clause-fits
step-requires-clause-fits g c =
    let p = c.self.inside.prepared in
    let is = c.self.invariant in
    let device = g.D.Disk.device c.args.disk.now in
    let has =
    subst (λ (q : Prepared). HasSizes q.sizes device) (sym c.self.view_is) c.requires.sizes in
    subst (λ size. FitDisk p.copies.first p.copies.second size device) (sym is.size)
    (copies-fit p is device has (g.met.D.Disk.geometry c.args.disk.now).known)
