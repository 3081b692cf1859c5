use Rattle.std.proofs.Common.{[], sym, subst}
use Rattle.shared_volume.specs.declared.lane.Lane.{Lane}
use Rattle.volume_cell.specs.Passes.{known}
use Rattle.shared_volume.specs.Ciphers.{opened, sealed}
use Rattle.block_server.specs.Ports.{Did, did_none}
use Rattle.block_server.proofs.PortLemmas.{left-stopped, rests-if-not}
use Rattle.block_server.proofs.port.LanePortPort.submit.Goals as goal

pub returns-then-is_some-clause-ok : goal.returns-then-is_some-clause-ok
returns-then-is_some-clause-ok g c = (
  0,
  did_none sealed opened c.args.self.now.session
      c.args.self.now.shared.now.cell (known c.args.self.now.lane.pass) c.args.self.now.left_by,
)

pub returns-in-Ok-Spent-clause-usable : goal.returns-in-Ok-Spent-clause-usable
returns-in-Ok-Spent-clause-usable g c =
    let e = c.in-Ok-Spent.ensures in
    let done = rw c.in-Ok-Spent.field-0-is at e.executed in
    let lane = c.args.self.now.lane in (
      record {
        pass = e.pass;
        lane_is = e.lane;
        stands = left-stopped sealed opened
            c.args.self.now.shared.now.cell c.args.self.now.session c.args.op (known lane.pass)
            (known c.execute.new.self.pass) e.same c.args.self.now.shared.now.cell.limit done
            (rests-if-not sealed opened
            c.args.self.now.shared.now.cell.limit (known lane.pass) c.args.self.now.left_by
            (sym c.if-is_some.ensures) c.requires.usable.0.stands);
      },
      c.requires.usable.1,
    )

pub returns-in-Err-clause-err : goal.returns-in-Err-clause-err
returns-in-Err-clause-err g c =
    let now = c.args.self.now in
    subst (λ (lane : Lane g.row.D.Denot). Did sealed
    opened now.session now.shared.now.cell (known now.lane.pass) now.left_by
    now.session now.shared.now.cell (known lane.pass) now.left_by [])
    (sym c.in-Err.ensures.err)
    (did_none sealed opened now.session now.shared.now.cell
    (known now.lane.pass) now.left_by)
