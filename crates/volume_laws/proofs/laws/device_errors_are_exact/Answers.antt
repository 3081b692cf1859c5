use Rattle.volume_laws.proofs.DeviceErrors.{device_errors_exact}
use Rattle.volume_laws.proofs.FailedPieces.{places_exact}
use Rattle.volume_laws.proofs.laws.device_errors_are_exact.Goals as goal

pub returns-clause-reply : goal.returns-clause-reply
returns-clause-reply c _ = device_errors_exact

pub returns-clause-place : goal.returns-clause-place
returns-clause-place c _ = places_exact
