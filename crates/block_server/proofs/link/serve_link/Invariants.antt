use Rattle.std.proofs.Common.{◌≢◌, ℕ, List, None}
use Rattle.block_server.specs.Sessions.{LeavesBy, Played, tagged_of}
use Rattle.block_server.proofs.LinkLemmas.{Reached}
use Rattle.block_server.proofs.link.serve_link.Given as goal

abbrev pub invariant-loop-turn : goal.invariant-loop-turn
invariant-loop-turn g l = record {
  usable : g.P.Port.usable l.port;
  served : (k : ℕ) → (played : List Played)
      × Reached l.first (g.P.SharedPort.left_by l.port ≢ None) l.step k
      (g.L.Link.state l.initial.link) (g.L.Link.state l.link) l.initial.ends.items l.ends.items
      l.turn played
      × g.P.SharedPort.executed l.initial.port l.port (tagged_of played)
      × LeavesBy played (g.P.SharedPort.left_by l.initial.port) (g.P.SharedPort.left_by l.port);
}
