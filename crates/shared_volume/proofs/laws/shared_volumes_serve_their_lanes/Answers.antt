use Rattle.shared_volume.proofs.Serving.{serves-beside, serves-lanes}
use Rattle.shared_volume.proofs.laws.shared_volumes_serve_their_lanes.Goals as goal

pub returns : goal.returns
returns c _ = record { beside = serves-beside; lanes = serves-lanes }
