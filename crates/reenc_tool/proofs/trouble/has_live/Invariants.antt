use Rattle.std.proofs.Common.{◌≢◌, ◌<◌, ℕ, slice_index_or}
use Rattle.block_server.specs.declared.link.Standing.TheVariants.{Live}
use Rattle.reenc_tool.proofs.trouble.has_live.Given as goal

abbrev pub invariant-loop-k : goal.invariant-loop-k
invariant-loop-k l = record {
  none : (j : ℕ) → j < l.k → slice_index_or l.standings j Live ≢ Live;
}
