use Rattle.std.proofs.Common.{arith, refl}
use Rattle.volume_machine.proofs.Soundness.{proper-inside}
use Rattle.volume_machine.specs.Events.{admits}
use Rattle.volume_machine.specs.Steps.{Can}
use Rattle.volume_core.specs.Answers.{outcome_of_admitted}
use Rattle.volume_core.proofs.CodeAdmit.{admit-begun}
use Rattle.volume_core.proofs.CodeSteps.{free-entry, free-place, volume-kept}
use Rattle.volume_core.proofs.volume.Volume.enter.Goals.{in-Held, in-Waiting}
use Rattle.volume_core.proofs.volume.Volume.enter.Goals as goal

pub set_lane-requires : goal.set_lane-requires
set_lane-requires g c =
    let below = (rw (← c.self.view_is) at c.requires.meets).client in omega arith

pub lock-requires-clause-room : goal.lock-requires-clause-room
unfolding Can
lock-requires-clause-room g c =
    let meets = rw (← c.self.view_is) at c.requires.meets in
    free-place _ c.args.lane c.self.invariant.sound (omega arith) meets.can

pub lock-requires-clause-new : goal.lock-requires-clause-new
unfolding Can
lock-requires-clause-new g c =
    free-entry _ c.args.lane c.self.invariant.sound (rw (← c.self.view_is) at c.requires.meets).can

pub invariant_of-self : goal.invariant_of-self
invariant_of-self g c =
    let blocks = rw (← c.self.view_is) at c.requires.blocks in
    volume-kept g.C.SectorCipher.sector _ _ _ (admits c.args.lane c.args.session c.args.ask)
    (outcome_of_admitted c.match-lock.result) c.self.invariant
    (rw (← c.self.view_is) at c.requires.meets) (admit-begun _ c.args.lane c.args.session
    c.args.ask _ c.new.result c.lock.result _ (rw (← c.self.view_is) at c.requires.ready) (rw blocks
    at c.new.ensures) (rw blocks at c.lock.ensures.locks) (λ stands here. elim c.match-lock.branch [
      | in-Held w ↦ rw w.result-is (
        rw w.in-Held.is at here,
        record { map = refl; range_is = blocks },
      )
      | in-Waiting w ↦ rw w.result-is (rw w.in-Waiting.is at here)
    ]) (record {
      map = refl;
      keys = refl;
      work = refl;
      room = c.lock.ensures.room;
      entries_are = refl;
      lane_is = c.set_lane.ensures;
      broken_is = refl;
    }) refl)

pub invariant_of-result : goal.invariant_of-result
invariant_of-result g c =
    let blocks = rw (← c.self.view_is) at c.requires.blocks in
    let ready = rw (← c.self.view_is) at c.requires.ready in
    record {
      inside = rw blocks
          (proper-inside _ _ c.args.ask c.self.inside.map.some_atom ready.proper);
    }

pub returns : goal.returns
returns g c =
    let blocks = rw (← c.self.view_is) at c.requires.blocks in
    rw (← c.self.view_is) (admit-begun _ c.args.lane c.args.session c.args.ask _ c.new.result
    c.lock.result _ (rw (← c.self.view_is) at c.requires.ready) (rw blocks at c.new.ensures)
    (rw blocks at c.lock.ensures.locks) (λ stands here. elim c.match-lock.branch [
      | in-Held w ↦ rw w.result-is (
        rw w.in-Held.is at here,
        record { map = refl; range_is = blocks },
      )
      | in-Waiting w ↦ rw w.result-is (rw w.in-Waiting.is at here)
    ]) (record {
      map = refl;
      keys = refl;
      work = refl;
      room = c.lock.ensures.room;
      entries_are = refl;
      lane_is = c.set_lane.ensures;
      broken_is = refl;
    }) refl)
