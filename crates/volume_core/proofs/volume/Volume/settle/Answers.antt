use Rattle.std.proofs.Common.{refl}
use Rattle.volume_machine.specs.Events.{settles}
use Rattle.volume_machine.specs.Steps.{Can}
use Rattle.volume_core.specs.Answers.{outcome_of_settled}
use Rattle.volume_core.proofs.{CodePieceSteps.settle-step, CodeSteps.volume-kept}
use Rattle.volume_core.proofs.volume.Volume.settle.Goals as goal

pub open_of-open-requires : goal.open_of-open-requires
unfolding Can
open_of-open-requires g c =
    let (o, is, can) = (rw (← c.self.view_is) at c.requires).can in (o, rw c.deref.ensures.value is)

pub invariant_of-self : goal.invariant_of-self
invariant_of-self g c =
    let is = rw c.deref.ensures.value at c.open_of-open.ensures in
    volume-kept g.C.SectorCipher.sector _ _ _ (settles c.args.lane)
    (outcome_of_settled c.sync_all-settled.result) c.self.invariant (rw (← c.self.view_is)
    at c.requires) (settle-step _ _ c.args.lane _ _ _ is c.sync_all-settled.ensures.syncs (record {
      map = refl;
      keys = refl;
      work = refl;
      room = refl;
      entries_are = refl;
      lane_is = rw c.after_settle.ensures at c.set_lane.ensures;
      broken_is = c.sync_all-settled.ensures.breaks;
    }))

pub returns : goal.returns
returns g c =
    let is = rw c.deref.ensures.value at c.open_of-open.ensures in
    rw (← c.self.view_is) (settle-step _ _ c.args.lane _ _ _ is c.sync_all-settled.ensures.syncs
    (record {
      map = refl;
      keys = refl;
      work = refl;
      room = refl;
      entries_are = refl;
      lane_is = rw c.after_settle.ensures at c.set_lane.ensures;
      broken_is = c.sync_all-settled.ensures.breaks;
    }))
