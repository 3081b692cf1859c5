use Rattle.crash_laws.proofs.HeaderAreas.CommitSteps.{commit_step, commit_fails}
use Rattle.crash_laws.proofs.HeaderAreas.HeadersGiven.{commit_gives}
use Rattle.crash_laws.proofs.HeaderAreas.TextsHanded.{dated_step, dated_failed}
use Rattle.crash_laws.proofs.areas.laws.commits_keep_headers.Goals as goal

pub returns-clause-gives : goal.returns-clause-gives
returns-clause-gives c =
    λ atom atoms reader layout from to stage handed image broken view is_reader of_from of_to dated
    is genuine shows.
    commit_gives atom atoms reader layout from to stage handed image is_reader of_from of_to dated
    is.laid is.whole is.takes genuine shows

pub returns-clause-goes : goal.returns-clause-goes
returns-clause-goes c = λ atom layout from to after stage old new apart shows. (
  λ call. commit_step atom layout from to after stage old new apart call shows,
  λ call. commit_fails atom layout from to stage old new apart call shows,
)

pub returns-clause-dated : goal.returns-clause-dated
returns-clause-dated c = λ reader from to after stage handed of_to follows dated. (
  dated_step reader from to after stage handed of_to follows dated,
  dated_failed reader from to stage handed of_to follows dated,
)
