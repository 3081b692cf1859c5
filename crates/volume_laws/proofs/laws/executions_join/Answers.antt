use Rattle.volume_machine.specs.Runs.{no_plain}
use Rattle.volume_laws.proofs.Executions.{executes_none, executes_joined, tagged-exchanges}
use Rattle.volume_laws.proofs.laws.executions_join.Goals as goal

pub returns : goal.returns
returns c _ = record {
  none = executes_none;
  joined = executes_joined;
  untagged = λ seals old new run history executed.
      tagged-exchanges _ history (executed.answers no_plain);
}
