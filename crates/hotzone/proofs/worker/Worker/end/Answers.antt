use Rattle.std.proofs.Common.{◌∙◌, Some, ap, sym, refl}
use Rattle.hotzone.proofs.CommitLemmas.{broken-on, committed-on, is-far, is-second}
use Rattle.hotzone.specs.Steps.{end_fails, finished, finishes_on}
use Rattle.hotzone.specs.declared.worker.Halt.TheVariants.{InCommit}
use Rattle.hotzone.specs.declared.worker.NextCall.TheVariants.{End}
use Rattle.luks_store.specs.Copying.Held.{stage_in}
use Rattle.luks_store.specs.declared.header_copies.commit.Stage.{Stage}
use Rattle.hotzone.proofs.worker.Worker.end.Goals as goal

pub returns-in-Ok-false : goal.returns-in-Ok-false
returns-in-Ok-false g c =
    finishes_on c.args.ending c.step.new.self refl c.in-Ok-false.ensures.call
    (committed-on c.args.ending.commit c.step.new.self (g.D.Disk.device c.args.disk.now)
    (g.D.Disk.device c.step.new.disk) c.in-Ok-false.ensures.call
    c.requires.commit.1
    c.in-Ok-false.ensures.sizes c.in-Ok-false.ensures.first c.in-Ok-false.ensures.second c.in-Ok-false.ensures.same
    c.in-Ok-false.ensures.stage)
    (is-far (stage_in c.args.ending.commit.copies)
    (sym c.in-Ok-false.field-0-test ∙ c.in-Ok-false.ensures.last)) refl

pub returns-in-Ok-true : goal.returns-in-Ok-true
returns-in-Ok-true g c =
    finished c.args.ending c.step.new.self refl c.in-Ok-true.ensures.call
    (committed-on c.args.ending.commit c.step.new.self (g.D.Disk.device c.args.disk.now)
    (g.D.Disk.device c.step.new.disk) c.in-Ok-true.ensures.call
    c.requires.commit.1
    c.in-Ok-true.ensures.sizes c.in-Ok-true.ensures.first c.in-Ok-true.ensures.second c.in-Ok-true.ensures.same
    c.in-Ok-true.ensures.stage)
    (is-second (stage_in c.args.ending.commit.copies)
    (sym c.in-Ok-true.field-0-test ∙ c.in-Ok-true.ensures.last))
    (ap (λ n. record c.args.self.now { next = n }) c.behind_wipe.ensures)

pub returns-in-Err : goal.returns-in-Err
returns-in-Err g c =
    end_fails c.args.ending c.step.new.self refl c.in-Err.ensures.call
    (broken-on c.args.ending.commit c.step.new.self (g.D.Disk.device c.args.disk.now)
    (g.D.Disk.device c.step.new.disk) c.in-Err.ensures.call
    c.requires.commit.1
    c.in-Err.ensures.sizes c.in-Err.ensures.first c.in-Err.ensures.second c.in-Err.ensures.same
    c.in-Err.ensures.stage)
    (record {
      is = ap (λ (s : Stage). record c.args.self.now {
        next = End (record { commit = c.step.new.self; wipes = c.args.ending.wipes });
        halted = Some (InCommit s);
      }) c.stage-stage.ensures;
    })
