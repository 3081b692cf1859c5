use Rattle.crash_laws.proofs.HeaderAreas.FrontsShown.{fronts_begin, fronts_begin_anyhow}
use Rattle.crash_laws.proofs.HeaderAreas.FrontsShown.{fronts_begin_repair, fronts_give, fronts_stay}
use Rattle.crash_laws.proofs.HeaderAreas.FrontsShown.{fronts_stay_beside}
use Rattle.crash_laws.proofs.areas.laws.fronts_are_kept.Goals as goal

pub returns-clause-begin : goal.returns-clause-begin
returns-clause-begin c = fronts_begin

pub returns-clause-begin_repair : goal.returns-clause-begin_repair
returns-clause-begin_repair c = fronts_begin_repair

pub returns-clause-begin_anyhow : goal.returns-clause-begin_anyhow
returns-clause-begin_anyhow c = fronts_begin_anyhow

pub returns-clause-beside : goal.returns-clause-beside
returns-clause-beside c = fronts_stay_beside

pub returns-clause-stay : goal.returns-clause-stay
returns-clause-stay c = fronts_stay

pub returns-clause-give : goal.returns-clause-give
returns-clause-give c = fronts_give
