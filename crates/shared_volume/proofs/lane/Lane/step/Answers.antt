use Rattle.volume_cell.specs.Passes.{known}
use Rattle.shared_volume.proofs.Going.{front-of, keys-fit, step-tells, steps-so}
use Rattle.shared_volume.proofs.Left.{stops-so}
use Rattle.shared_volume.specs.Ciphers.{sector_of, sealed, opened}
use Rattle.shared_volume.proofs.lane.Lane.step.Goals as goal

pub turn-requires-clause-meets : goal.turn-requires-clause-meets
turn-requires-clause-meets g c = λ κs bounds.
    (let (first, session, op, way) = c.requires.way in way.meets)

pub turn-requires-clause-front : goal.turn-requires-clause-front
turn-requires-clause-front g c = λ κs bounds.
    let (first, session, op, way) = c.requires.way in
    front-of sector_of sealed opened
    (known c.args.self.now.pass) c.args.self.now.number c.args.self.now.keys
    c.args.self.now.shape c.requires.lane session c.args.plan.now op first c.args.call way

pub told-requires-clause-fits : goal.told-requires-clause-fits
told-requires-clause-fits g c = λ κs bounds.
    let (first, session, op, way) = c.requires.way in
    rw c.turn.ensures.keys (keys-fit sector_of sealed
    opened (known c.args.self.now.pass) c.args.self.now.number
    c.args.self.now.keys c.args.self.now.shape c.requires.lane c.args.plan.now way.shape_is)

pub told-requires-clause-told : goal.told-requires-clause-told
told-requires-clause-told g c = λ κs bounds.
    let (first, session, op, way) = c.requires.way in
    rw c.turn.ensures.keys (step-tells sector_of sealed
    opened (known c.args.self.now.pass) c.args.self.now.number
    c.args.self.now.keys c.args.self.now.shape c.requires.lane c.args.shared.now.cell.limit session
    c.args.plan.now op first (known c.turn.new.self.pass) c.args.call c.in-Answered.answer
    c.requires.begun way c.in-Answered.ensures.called)

pub returns-in-Answered-clause-at : goal.returns-in-Answered-clause-at
returns-in-Answered-clause-at g c = λ first session op way.
    steps-so sector_of sealed opened
    (known c.args.self.now.pass) c.args.self.now.number c.args.self.now.keys c.args.self.now.shape
    c.requires.lane c.args.shared.now.cell.limit session c.args.plan.now op first
    (known c.turn.new.self.pass) c.args.call c.in-Answered.answer c.requires.begun way
    c.in-Answered.ensures.called c.told.new.self c.told.result c.turn.ensures.same
    c.told.ensures.shape c.told.ensures.session (rw c.turn.ensures.keys at c.told.ensures.goes)
    c.told.ensures.begun

pub returns-in-Spent-clause-at : goal.returns-in-Spent-clause-at
returns-in-Spent-clause-at g c = λ first session op way.
    stops-so sealed opened c.args.shared.now.cell.limit
    c.args.self.now.number c.args.self.now.shape c.args.plan.now session op first
    (known c.args.self.now.pass) (known c.turn.new.self.pass) c.args.call c.requires.begun way
    c.turn.ensures.same.start c.in-Spent.ensures.called.0 c.in-Spent.ensures.called.1
