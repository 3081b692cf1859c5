use Rattle.std.proofs.Common.{refl}
use Rattle.hotzone.proofs.CommitLemmas.{broken-on, committed-on}
use Rattle.zone_mending.proofs.StepLemmas.{move-goes}
use Rattle.zone_mending.specs.Steps.{move_fails}
use Rattle.zone_mending.proofs.mender.Mender.move_on.Goals as goal

pub returns-in-Ok : goal.returns-in-Ok
returns-in-Ok g c =
    let before = c.args.self.now in
    let commit = c.step.new.self in
    let is = c.in-Ok.ensures in
    move-goes _ _ _ before commit c.in-Ok.last c.requires.next is.call
    (committed-on before.moved.commit commit _ _ is.call c.requires.sizes is.sizes is.first
    is.second is.same is.stage) is.last _ c.behind_move-self.ensures

pub returns-in-Err : goal.returns-in-Err
returns-in-Err g c =
    let before = c.args.self.now in
    let commit = c.step.new.self in
    let is = c.in-Err.ensures in
    move_fails c.requires.next is.call (record {
      commit = commit;
      same = (broken-on before.moved.commit commit _ _ is.call c.requires.sizes is.sizes is.first
          is.second is.same is.stage).same;
      is = refl;
      long = refl;
      digests_long = refl;
    })
