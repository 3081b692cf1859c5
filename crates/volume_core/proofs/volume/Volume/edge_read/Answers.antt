use Rattle.std.proofs.Common.{refl}
use Rattle.volume_machine.specs.Events.{fetches}
use Rattle.volume_machine.specs.Steps.{Can}
use Rattle.volume_core.specs.Answers.{outcome_of_read}
use Rattle.volume_core.proofs.CodePieceSteps.{can-fetch, edge-inside, edge-step}
use Rattle.volume_core.proofs.CodeSteps.{volume-kept}
use Rattle.volume_core.proofs.volume.Volume.edge_read.Goals as goal

pub open_of-open-requires : goal.open_of-open-requires
unfolding Can
open_of-open-requires g c =
    let (o, is, can) = (rw (← c.self.view_is) at c.requires.meets).can.0 in
    (o, rw c.deref.ensures.value is)

pub read_edge-read-requires-clause-inside : goal.read_edge-read-requires-clause-inside
read_edge-read-requires-clause-inside g c =
    let is = rw c.deref.ensures.value at c.open_of-open.ensures in
    edge-inside _ c.args.lane _ c.args.which c.self.invariant.sound is
    (can-fetch _ c.args.lane _ c.args.which (rw (← c.self.view_is) at c.requires.meets) is)

pub read_edge-read-requires-clause-can : goal.read_edge-read-requires-clause-can
read_edge-read-requires-clause-can g c =
    let is = rw c.deref.ensures.value at c.open_of-open.ensures in
    can-fetch _ c.args.lane _ c.args.which (rw (← c.self.view_is) at c.requires.meets) is

pub invariant_of-self : goal.invariant_of-self
invariant_of-self g c =
    let is = rw c.deref.ensures.value at c.open_of-open.ensures in
    let can = can-fetch _ c.args.lane _ c.args.which (rw (← c.self.view_is) at c.requires.meets) is in
    volume-kept g.C.SectorCipher.sector _ _ _ (fetches c.args.lane c.args.which) (outcome_of_read
    c.self.inside.map.atom c.read_edge-read.result) c.self.invariant
    (rw (← c.self.view_is) at c.requires.meets)
    (edge-step _ _ c.args.lane _ _ c.args.which _ is can.some c.read_edge-read.ensures.reads (record {
      map = refl;
      keys = refl;
      work = refl;
      room = refl;
      entries_are = refl;
      lane_is = c.set_lane.ensures;
      broken_is = refl;
    }))

pub returns-clause-step : goal.returns-clause-step
returns-clause-step g c =
    let is = rw c.deref.ensures.value at c.open_of-open.ensures in
    let can = can-fetch _ c.args.lane _ c.args.which (rw (← c.self.view_is) at c.requires.meets) is in
    rw (← c.self.view_is) (edge-step _ _ c.args.lane _ _ c.args.which _ is can.some
    c.read_edge-read.ensures.reads (record {
      map = refl;
      keys = refl;
      work = refl;
      room = refl;
      entries_are = refl;
      lane_is = c.set_lane.ensures;
      broken_is = refl;
    }))
