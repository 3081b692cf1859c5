use Rattle.std.proofs.Common.{refl}
use Rattle.hotzone.proofs.HeadingLemmas.{same-self}
use Rattle.zone_mending.specs.Steps.{settles, settle_fails}
use Rattle.zone_mending.proofs.mender.Mender.settle.Goals as goal

pub returns-in-Ok : goal.returns-in-Ok
returns-in-Ok g c = settles c.requires.next c.in-Ok.ensures.call refl

pub returns-in-Err : goal.returns-in-Err
returns-in-Err g c =
    settle_fails c.requires.next c.in-Err.ensures.call (record {
      commit = c.args.self.now.moved.commit;
      same = same-self c.args.self.now.moved.commit;
      is = refl;
      long = refl;
      digests_long = refl;
    })
