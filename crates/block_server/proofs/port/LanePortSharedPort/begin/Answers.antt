use Rattle.volume_cell.specs.Passes.{known}
use Rattle.shared_volume.specs.Ciphers.{opened, sealed}
use Rattle.block_server.specs.Ports.{executed_none}
use Rattle.block_server.proofs.port.LanePortSharedPort.begin.Goals as goal

pub returns-clause-none : goal.returns-clause-none
returns-clause-none g c =
    executed_none sealed opened c.args.self.now.shared.now.cell
    (known c.args.self.now.lane.pass)
