use Rattle.std.proofs.Common.{◌∙◌}
use Rattle.volume_cell.specs.Passes.{known}
use Rattle.shared_volume.proofs.Going.{same-still}
use Rattle.shared_volume.proofs.lane.Lane.carry_out.Goals as goal

pub step-next-requires-clause-way : goal.step-next-requires-clause-way
step-next-requires-clause-way g c = λ κs bounds.
    let (session, op, planned) = c.requires.plan in
    let at = rw (c.in-Some-Call.is, c.in-Some-Call.field-0-is) at (c.loop.invariant.at session op planned) in (
      known c.args.self.now.pass,
      session,
      op,
      rw (c.loop.invariant.number, c.loop.invariant.shape) at.0,
    )

pub step-next-requires-clause-begun : goal.step-next-requires-clause-begun
step-next-requires-clause-begun g c = λ κs bounds.
    let (session, op, planned) = c.requires.plan in
    (rw (c.in-Some-Call.is, c.in-Some-Call.field-0-is) at (c.loop.invariant.at session op planned)).1

pub loop-preserved : goal.loop-preserved
loop-preserved g c = let l = c.loop.invariant in record {
  pass = c.step-next.ensures.pass;
  lane = c.step-next.ensures.lane;
  same = same-still (known c.args.self.now.pass) (known c.loop.self.pass) _ l.same
      c.step-next.ensures.same;
  number = c.step-next.ensures.number ∙ l.number;
  keys = c.step-next.ensures.keys ∙ l.keys;
  shape = c.step-next.ensures.shape ∙ l.shape;
  at = λ session op planned.
      let at = rw (c.in-Some-Call.is, c.in-Some-Call.field-0-is) at (l.at session op planned) in
      rw (l.number, l.shape) at (c.step-next.ensures.at (known c.args.self.now.pass) session op
      (rw (l.number, l.shape) at.0));
}

pub returns-in-Some-Reply-clause-executed : goal.returns-in-Some-Reply-clause-executed
returns-in-Some-Reply-clause-executed g c = λ session op planned.
    rw (c.in-Some-Reply.is, c.in-Some-Reply.field-0-is) at (c.loop.invariant.at session op planned)

pub returns-in-None-next-clause-executed : goal.returns-in-None-next-clause-executed
returns-in-None-next-clause-executed g c = λ session op planned.
    rw c.in-None-next.is at (c.loop.invariant.at session op planned)
