use Rattle.std.proofs.Common.{inl}
use Rattle.volume_cell.specs.Passes.{known}
use Rattle.shared_volume.proofs.Going.{begin-tells, begins-so, front-first, keys-fit, may-begin}
use Rattle.shared_volume.proofs.Going.{silent-still}
use Rattle.shared_volume.specs.Ciphers.{sector_of, sealed, opened}
use Rattle.shared_volume.proofs.lane.Lane.begin.Goals as goal

pub turn-requires-clause-meets : goal.turn-requires-clause-meets
turn-requires-clause-meets g c = λ κs bounds.
    rw c.first.ensures (may-begin sealed opened
    (known c.args.self.now.pass) c.args.self.now.number c.args.plan.now c.requires.rests)

pub turn-requires-clause-front : goal.turn-requires-clause-front
turn-requires-clause-front g c = λ κs bounds.
    rw c.first.ensures (front-first c.args.plan.now)

pub told-requires-clause-fits : goal.told-requires-clause-fits
told-requires-clause-fits g c = λ κs bounds.
    let (session, op, planned) = c.requires.plan in
    rw c.turn.ensures.keys (keys-fit sector_of sealed
    opened (known c.args.self.now.pass) c.args.self.now.number
    c.args.self.now.keys c.args.self.now.shape c.requires.lane c.args.plan.now planned.shape_is)

pub told-requires-clause-told : goal.told-requires-clause-told
told-requires-clause-told g c = λ κs bounds.
    let (session, op, planned) = c.requires.plan in
    rw c.turn.ensures.keys (begin-tells sector_of sealed
    opened (known c.args.self.now.pass) c.args.self.now.number
    c.args.self.now.keys c.args.self.now.shape c.requires.lane c.args.shared.now.cell.limit session
    c.args.plan.now op (known c.turn.new.self.pass) c.in-Answered.answer c.requires.rests planned
    (rw c.first.ensures at c.in-Answered.ensures.called))

pub returns-in-Answered-clause-at : goal.returns-in-Answered-clause-at
returns-in-Answered-clause-at g c = λ session op planned.
    begins-so sector_of sealed opened
    (known c.args.self.now.pass) c.args.self.now.number c.args.self.now.keys c.args.self.now.shape
    c.requires.lane c.args.shared.now.cell.limit session c.args.plan.now op (known c.turn.new.self.pass)
    c.in-Answered.answer c.requires.rests planned
    (rw c.first.ensures at c.in-Answered.ensures.called) c.told.new.self c.told.result
    c.turn.ensures.same c.told.ensures.shape c.told.ensures.session
    (rw c.turn.ensures.keys at c.told.ensures.goes) c.told.ensures.begun

pub returns-in-Spent-clause-at : goal.returns-in-Spent-clause-at
returns-in-Spent-clause-at g c = λ session op planned. record {
  answers = silent-still sealed opened
      (known c.args.self.now.pass) (known c.turn.new.self.pass) c.in-Spent.ensures.called.0;
  full = c.in-Spent.ensures.called.1;
  left = inl c.in-Spent.ensures.called.0;
}
