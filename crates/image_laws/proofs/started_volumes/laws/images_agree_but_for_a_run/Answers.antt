use Rattle.image_laws.proofs.Started.AgreeLemmas.{fronts-leave}
use Rattle.image_laws.proofs.Started.AtomLemmas.{atoms-agree}
use Rattle.image_laws.proofs.started_volumes.laws.images_agree_but_for_a_run.Goals as goal

pub returns-clause-atoms : goal.returns-clause-atoms
returns-clause-atoms c = atoms-agree

pub returns-clause-fronts : goal.returns-clause-fronts
returns-clause-fronts c = fronts-leave
