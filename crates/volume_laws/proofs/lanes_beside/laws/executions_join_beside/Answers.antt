use Rattle.volume_laws.proofs.BesideLanes.Executions.{executes_joined, executes_none, executes_untagged}
use Rattle.volume_laws.proofs.lanes_beside.laws.executions_join_beside.Goals as goal

pub returns : goal.returns
returns c _ = record {
  none = executes_none;
  joined = executes_joined;
  untagged = executes_untagged;
}
