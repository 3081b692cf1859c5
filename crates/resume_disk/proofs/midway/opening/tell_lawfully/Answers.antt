use Rattle.resume_disk.proofs.OpenedMidway.StepLemmas.{tells}
use Rattle.resume_disk.proofs.midway.opening.tell_lawfully.Goals as goal

pub returns : goal.returns
returns g c =
    let law = c.disks_tell_lawfully.ensures in
    tells _ law.agrees law.even law.bytes law.sized
