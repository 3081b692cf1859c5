use Rattle.std.proofs.Common.{◌≡◌, ◌++◌}
use Rattle.demo_clients.proofs.InputLemmas.{block-front}
use Rattle.demo_clients.proofs.contents.put_block.Given as goal

abbrev pub invariant-loop-place : goal.invariant-loop-place
invariant-loop-place l =
    l.bytes.items ≡ l.initial.bytes.items ++ block-front l.seed l.block l.place
