use Rattle.recovery_laws.proofs.Served.WorkLemmas.{clients-leave-work}
use Rattle.recovery_laws.proofs.served_conversions.laws.clients_leave_work_alone.Goals as goal

pub returns : goal.returns
returns g c = clients-leave-work _
