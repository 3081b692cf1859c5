use Rattle.crash_laws.proofs.HotZones.Recoveries.{zone_resumes, atom_judged}
use Rattle.crash_laws.proofs.zones.laws.zones_are_resumed.Goals as goal

pub returns-clause-resumes : goal.returns-clause-resumes
returns-clause-resumes c = λ atom layout zone texts view. zone_resumes atom layout zone texts view

pub returns-clause-judged : goal.returns-clause-judged
returns-clause-judged c = λ hash told own old new. atom_judged hash told own old new
