use Rattle.std.proofs.Common.{refl}
use Rattle.volume_machine.specs.Events.{reads}
use Rattle.volume_machine.specs.Steps.{Can}
use Rattle.volume_core.specs.Answers.{outcome_of_read}
use Rattle.volume_core.proofs.CodePieceSteps.{can-read, read-step}
use Rattle.volume_core.proofs.CodeSteps.{ends-inside, volume-kept}
use Rattle.volume_core.proofs.volume.Volume.piece_read.Goals as goal

pub open_of-open-requires : goal.open_of-open-requires
unfolding Can
open_of-open-requires g c =
    let (o, is, can) = (rw (← c.self.view_is) at c.requires.meets).can.0 in
    (o, rw c.deref.ensures.value is)

pub read_next-read-requires-clause-inside : goal.read_next-read-requires-clause-inside
read_next-read-requires-clause-inside g c =
    let is = rw c.deref.ensures.value at c.open_of-open.ensures in
    ends-inside _ c.args.lane c.self.invariant.sound _ is

pub read_next-read-requires-clause-can : goal.read_next-read-requires-clause-can
read_next-read-requires-clause-can g c =
    let is = rw c.deref.ensures.value at c.open_of-open.ensures in
    can-read _ c.args.lane _ c.args.len (rw (← c.self.view_is) at c.requires.meets) is

pub invariant_of-self : goal.invariant_of-self
invariant_of-self g c =
    let is = rw c.deref.ensures.value at c.open_of-open.ensures in
    volume-kept g.C.SectorCipher.sector _ _ _ (reads c.args.lane c.args.len) (outcome_of_read
    c.args.len c.read_next-read.result) c.self.invariant (rw (← c.self.view_is) at c.requires.meets)
    (read-step _ _ c.args.lane _ _ c.args.len _ is c.read_next-read.ensures.reads (record {
      map = refl;
      keys = refl;
      work = refl;
      room = refl;
      entries_are = refl;
      lane_is = c.set_lane.ensures;
      broken_is = refl;
    }))

pub returns-clause-step : goal.returns-clause-step
returns-clause-step g c =
    let is = rw c.deref.ensures.value at c.open_of-open.ensures in
    rw (← c.self.view_is) (read-step _ _ c.args.lane _ _ c.args.len _ is
    c.read_next-read.ensures.reads (record {
      map = refl;
      keys = refl;
      work = refl;
      room = refl;
      entries_are = refl;
      lane_is = c.set_lane.ensures;
      broken_is = refl;
    }))
