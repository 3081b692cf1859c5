use Rattle.recovery_laws.proofs.Served.KeyLemmas.{found-stand}
use Rattle.recovery_laws.proofs.served_conversions.laws.found_keys_are_given.Goals as goal

pub returns : goal.returns
returns g = found-stand
