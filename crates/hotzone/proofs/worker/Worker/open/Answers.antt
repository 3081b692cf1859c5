use Rattle.std.proofs.Common.{refl, ap, Some}
use Rattle.hotzone.proofs.CommitLemmas.{broken-on, committed-on}
use Rattle.hotzone.proofs.CommitStepLemmas.{open-goes}
use Rattle.hotzone.specs.Steps.{open_fails, opened_by}
use Rattle.hotzone.specs.declared.worker.Halt.TheVariants.{InCommit}
use Rattle.hotzone.specs.declared.worker.NextCall.TheVariants.{Open}
use Rattle.hotzone.proofs.worker.Worker.open.Goals as goal

pub returns-in-Ok-clause-makes : goal.returns-in-Ok-clause-makes
returns-in-Ok-clause-makes g c =
    let commit = c.step_beside.new.commit in
    let is = c.in-Ok.ensures.commit in
    open-goes _ _ _ c.args.self.now c.args.headers commit _ c.in-Ok.last is.call
    (committed-on c.args.headers.opened commit _ _ is.call c.requires.commit.1 is.sizes is.first
    is.second is.same is.stage) is.last c.behind_open.ensures

pub returns-in-Err-clause-makes : goal.returns-in-Err-clause-makes
returns-in-Err-clause-makes g c =
    let commit = c.step_beside.new.commit in
    let is = c.in-Err.ensures.commit in
    open_fails c.args.headers commit refl is.call
    (broken-on c.args.headers.opened commit _ _ is.call c.requires.commit.1 is.sizes is.first
    is.second is.same is.stage)
    (record {
      is = ap (λ s. record c.args.self.now {
        next = Open (opened_by c.args.headers commit);
        halted = Some (InCommit s);
      }) c.stage-stage.ensures;
    })
