use Rattle.shared_volume.proofs.Standing.{stands-first}
use Rattle.shared_volume.proofs.machine.SharedVolume.of.Goals as goal

pub returns-clause-stands : goal.returns-clause-stands
returns-clause-stands g c = rw c.of-opening.ensures (stands-first _ c.args.volume c.requires)
