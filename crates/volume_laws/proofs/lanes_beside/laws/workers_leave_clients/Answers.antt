use Rattle.volume_laws.proofs.BesideLanes.ClientsLeft.{clients_left}
use Rattle.volume_laws.proofs.lanes_beside.laws.workers_leave_clients.Goals as goal

pub returns : goal.returns
returns c _ = clients_left
