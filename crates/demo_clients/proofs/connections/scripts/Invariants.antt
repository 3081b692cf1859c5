use Rattle.std.proofs.Common.{◌≡◌, length, map}
use Rattle.std.specs.List.{range_with_len}
use Rattle.std.specs.Vec.{vec_capacity}
use Rattle.demo_clients.specs.Connections.{connection_of}
use Rattle.demo_clients.proofs.connections.scripts.Given as goal

abbrev pub invariant-loop-session : goal.invariant-loop-session
invariant-loop-session l = record {
  room : vec_capacity l.scripts ≡ l.workers;
  count : length l.scripts.items ≡ l.session;
  made : l.scripts.items
      ≡ map (connection_of l.seed l.blocks l.workers) (range_with_len 0 l.session);
}
