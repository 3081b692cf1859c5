use Rattle.reenc_tool.proofs.DemoSeeds.{bay_begun}
use Rattle.command_line.specs.Demonstrations.{demonstrating}
use Rattle.reenc_tool.proofs.demo_setting.bay_for.Goals as goal

pub returns : goal.returns
returns c =
    let disk = c.in_ok-disk.ensures in
    let is = c.new-2.ensures in
    bay_begun (demonstrating c.args.words.now) c.in_ok-disk.disk c.in_ok-clients.clients.items
    c.new-2.result disk.atom disk.atoms disk.zeros c.in_ok-clients.ensures is.disk is.key is.clients
    is.address is.faults
