use Rattle.volume_laws.proofs.BesideServing.Errors.{device_errors_exact}
use Rattle.volume_laws.proofs.BesideServing.Pieces.{places_exact}
use Rattle.volume_laws.proofs.served_beside.laws.device_errors_are_exact.Goals as goal

pub returns-clause-reply : goal.returns-clause-reply
returns-clause-reply g c = device_errors_exact

pub returns-clause-place : goal.returns-clause-place
returns-clause-place g c = places_exact
