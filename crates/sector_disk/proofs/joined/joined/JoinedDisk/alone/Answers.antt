use Rattle.std.proofs.Common.{ap}
use Rattle.sector_disk.specs.JoinedDisks.Joined.{shown_told}
use Rattle.sector_disk.proofs.joined.joined.JoinedDisk.alone.Goals as goal

pub returns-clause-tells : goal.returns-clause-tells
returns-clause-tells g c = ap shown_told c.of.ensures.joint
