use Rattle.volume_laws.proofs.Executions.{run-front}
use Rattle.volume_laws.proofs.Failures.{goes_by_events}
use Rattle.volume_laws.proofs.laws.failures_go_by_events.Goals as goal

pub returns : goal.returns
returns c _ = record {
  at_the_end = goes_by_events;
  along = λ start earlier later fresh is.
      goes_by_events start earlier fresh (run-front start earlier later is);
}
