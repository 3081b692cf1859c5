use Rattle.std.proofs.Common.{refl}
use Rattle.volume_machine.specs.Events.{writes}
use Rattle.volume_machine.specs.Steps.{Can}
use Rattle.volume_core.specs.Answers.{outcome_of_written}
use Rattle.volume_core.proofs.CodePieceSteps.{can-write, write-step}
use Rattle.volume_core.proofs.CodeSteps.{ends-inside, volume-kept}
use Rattle.volume_core.proofs.volume.Volume.piece_write.Goals as goal

pub open_of-open-requires : goal.open_of-open-requires
unfolding Can
open_of-open-requires g c =
    let (o, is, can) = (rw (← c.self.view_is) at c.requires).can.0 in
    (o, rw c.deref.ensures.value is)

pub write_next-written-requires-clause-inside : goal.write_next-written-requires-clause-inside
write_next-written-requires-clause-inside g c =
    let is = rw c.deref.ensures.value at c.open_of-open.ensures in
    ends-inside _ c.args.lane c.self.invariant.sound _ is

pub write_next-written-requires-clause-can : goal.write_next-written-requires-clause-can
write_next-written-requires-clause-can g c =
    let is = rw c.deref.ensures.value at c.open_of-open.ensures in
    can-write _ c.args.lane _ c.args.prepared.bytes (rw (← c.self.view_is) at c.requires) is

pub invariant_of-self : goal.invariant_of-self
invariant_of-self g c =
    let is = rw c.deref.ensures.value at c.open_of-open.ensures in
    volume-kept g.C.SectorCipher.sector _
    _ _ (writes c.args.lane c.args.prepared.bytes) (outcome_of_written c.write_next-written.result)
    c.self.invariant (rw (← c.self.view_is) at c.requires) (write-step
    _ _ c.args.lane _ _ c.args.prepared.bytes _ is c.write_next-written.ensures.writes (record {
      map = refl;
      keys = refl;
      work = refl;
      room = refl;
      entries_are = refl;
      lane_is = c.set_lane.ensures;
      broken_is = c.write_next-written.ensures.breaks;
    }))

pub returns-clause-step : goal.returns-clause-step
returns-clause-step g c =
    let is = rw c.deref.ensures.value at c.open_of-open.ensures in
    rw (← c.self.view_is) (write-step
    _ _ c.args.lane _ _ c.args.prepared.bytes _ is c.write_next-written.ensures.writes (record {
      map = refl;
      keys = refl;
      work = refl;
      room = refl;
      entries_are = refl;
      lane_is = c.set_lane.ensures;
      broken_is = c.write_next-written.ensures.breaks;
    }))
