use Rattle.std.proofs.Common.{refl}
use Rattle.volume_machine.specs.Events.{done, finishes}
use Rattle.volume_machine.specs.Steps.{Can, Step}
use Rattle.volume_core.proofs.CodeSteps.{has-lane, locked-entry, volume-kept}
use Rattle.volume_core.proofs.volume.Volume.finish.Goals as goal

pub leave-requires : goal.leave-requires
unfolding Can
leave-requires g c =
    let (o, is, can) = (rw (← c.self.view_is) at c.requires).can.0 in
    locked-entry _ c.args.lane c.self.invariant.sound o is can.locks

pub set_lane-requires : goal.set_lane-requires
unfolding Can
set_lane-requires g c =
    let (o, is, can) = (rw (← c.self.view_is) at c.requires).can.0 in has-lane _ c.args.lane o is

pub invariant_of-self : goal.invariant_of-self
unfolding Step
invariant_of-self g c = volume-kept g.C.SectorCipher.sector _
    _ _ (finishes c.args.lane) done c.self.invariant (rw (← c.self.view_is) at c.requires) (record {
      outcome_is = refl;
      goes = record {
        map = refl;
        keys = refl;
        work = refl;
        room = c.leave.ensures.room;
        entries_are = c.leave.ensures.left;
        lane_is = c.set_lane.ensures;
        broken_is = refl;
      };
      rests = refl;
    })

pub returns : goal.returns
unfolding Step
returns g c = rw (← c.self.view_is) (record {
  outcome_is = refl;
  goes = record {
    map = refl;
    keys = refl;
    work = refl;
    room = c.leave.ensures.room;
    entries_are = c.leave.ensures.left;
    lane_is = c.set_lane.ensures;
    broken_is = refl;
  };
  rests = refl;
})
