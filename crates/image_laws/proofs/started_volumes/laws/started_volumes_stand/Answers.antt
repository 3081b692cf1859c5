use Rattle.image_laws.proofs.Started.StartLemmas.{started-stand}
use Rattle.image_laws.proofs.started_volumes.laws.started_volumes_stand.Goals as goal

pub returns : goal.returns
returns c = started-stand
