use Rattle.std.proofs.Common.{◌≢◌, ◌<◌, ℕ, slice_index_or}
use Rattle.block_server.specs.declared.link.Standing.TheVariants.{Live, Failed}
use Rattle.reenc_tool.proofs.trouble.faults_of_first.Given as goal

abbrev pub invariant-loop-k : goal.invariant-loop-k
invariant-loop-k g l = record {
  none : (j : ℕ) → j < l.k → slice_index_or l.standings j Live ≢ Failed;
}
