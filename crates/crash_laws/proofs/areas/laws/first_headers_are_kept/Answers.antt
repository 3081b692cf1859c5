use Rattle.crash_laws.proofs.HeaderAreas.FirstSteps.{first_goes}
use Rattle.crash_laws.proofs.areas.laws.first_headers_are_kept.Goals as goal

pub returns : goal.returns
returns c = λ atom layout to after. first_goes atom layout to after
