use Rattle.image_laws.proofs.Started.GapLemmas.{fronts-keep, gaps-spare, runs-keep}
use Rattle.image_laws.proofs.Started.GuardLemmas.{guards-spare}
use Rattle.image_laws.proofs.started_volumes.laws.gaps_keep_contents.Goals as goal

pub returns-clause-keeps : goal.returns-clause-keeps
returns-clause-keeps c = runs-keep

pub returns-clause-fronts : goal.returns-clause-fronts
returns-clause-fronts c = fronts-keep

pub returns-clause-gaps : goal.returns-clause-gaps
returns-clause-gaps c = gaps-spare

pub returns-clause-guards : goal.returns-clause-guards
returns-clause-guards c = guards-spare
