use Rattle.volume_cell.specs.Passes.{known}
use Rattle.shared_volume.specs.Ciphers.{opened, sealed}
use Rattle.shared_volume.proofs.Stood.{asked-so}
use Rattle.shared_volume.proofs.Turning.{may-be-answered}
use Rattle.shared_volume.proofs.lane.Lane.turn.Goals as goal

pub returns-in-Ok-Client-clause-called : goal.returns-in-Ok-Client-clause-called
returns-in-Ok-Client-clause-called g c =
    let e = c.in-Ok-Client.ensures in
    let answered = rw c.in-Ok-Client.field-0-is at e.answer in (
      answered.calls,
      may-be-answered sealed opened c.args.cell.now.limit c.args.self.now.number c.args.call
          c.in-Ok-Client.answer (known c.args.self.now.pass) (known c.turn.new.pass)
          e.stood.machine.opening.value e.stood.machine.volume c.requires.lane.name e.same answered
          e.own e.stood.start e.stood.stands,
    )

pub unreachable-requires : goal.unreachable-requires
unreachable-requires g c =
    let e = c.in-Ok-Worker.ensures in
    let answered = rw c.in-Ok-Worker.field-0-is at e.answer in
    (asked-so _ _ _ _ _ _ _ _ e.stood.stands answered).deed
