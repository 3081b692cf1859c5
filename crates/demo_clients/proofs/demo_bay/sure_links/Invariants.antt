use Rattle.std.proofs.Common.{◌≡◌, ◌≤◌, length, vec_capacity}
use Rattle.demo_clients.proofs.demo_bay.sure_links.Given as goal

abbrev pub invariant-loop-link : goal.invariant-loop-link
invariant-loop-link l = record {
  same : l.kept.items ≡ l.yielded;
  room : length l.fn.links.items ≤ vec_capacity l.kept;
}
