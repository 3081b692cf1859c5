use Rattle.std.proofs.Common.{◌≡◌, ◌∙◌, Some, ap, sym, subst, refl}
use Rattle.base_terms.specs.declared.disk_sizes.Sizes.{Sizes}
use Rattle.hotzone.proofs.CommitLemmas.{broken-on, committed-on}
use Rattle.hotzone.specs.Steps.{finish_fails, finishes}
use Rattle.hotzone.specs.declared.worker.Halt.TheVariants.{InCommit}
use Rattle.hotzone.specs.declared.worker.NextCall.TheVariants.{End}
use Rattle.sector_disk.specs.JoinedDisks.Counts.{HasSizes}
use Rattle.luks_store.specs.declared.header_copies.commit.Stage.{Stage}
use Rattle.luks_store.specs.declared.header_copies.commit.Stage.TheVariants.{Begun, Ended}
use Rattle.hotzone.proofs.worker.Worker.finish_with.Goals as goal

pub step-requires-clause-under_way : goal.step-requires-clause-under_way
step-requires-clause-under_way g c =
    λ at. (let same : Begun ≡ Ended = sym c.requires.is.begun ∙ at in cc)

pub step-requires-clause-sizes : goal.step-requires-clause-sizes
step-requires-clause-sizes g c =
    subst (λ (s : Sizes). HasSizes s (g.D.Disk.device c.args.disk.now))
    (sym c.requires.is.commit.sizes) c.requires.sizes

pub returns-in-Ok : goal.returns-in-Ok
returns-in-Ok g c =
    finishes c.args.ending c.step.new.self refl c.requires.is c.in-Ok.ensures.call
    (committed-on c.args.ending.commit c.step.new.self (g.D.Disk.device c.args.disk.now)
    (g.D.Disk.device c.step.new.disk) c.in-Ok.ensures.call
    (subst (λ (s : Sizes). HasSizes s (g.D.Disk.device c.args.disk.now))
    (sym c.requires.is.commit.sizes) c.requires.sizes)
    c.in-Ok.ensures.sizes c.in-Ok.ensures.first c.in-Ok.ensures.second c.in-Ok.ensures.same
    c.in-Ok.ensures.stage) refl

pub returns-in-Err : goal.returns-in-Err
returns-in-Err g c =
    finish_fails c.args.ending c.step.new.self refl c.requires.is c.in-Err.ensures.call
    (broken-on c.args.ending.commit c.step.new.self (g.D.Disk.device c.args.disk.now)
    (g.D.Disk.device c.step.new.disk) c.in-Err.ensures.call
    (subst (λ (s : Sizes). HasSizes s (g.D.Disk.device c.args.disk.now))
    (sym c.requires.is.commit.sizes) c.requires.sizes)
    c.in-Err.ensures.sizes c.in-Err.ensures.first c.in-Err.ensures.second c.in-Err.ensures.same
    c.in-Err.ensures.stage)
    (record {
      is = ap (λ (s : Stage). record c.args.self.now {
        next = End (record { commit = c.step.new.self; wipes = c.args.ending.wipes });
        halted = Some (InCommit s);
      }) c.stage-stage.ensures;
    })
