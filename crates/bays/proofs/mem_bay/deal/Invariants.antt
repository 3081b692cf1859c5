use Rattle.std.proofs.Common.{◌≡◌, ◌≤◌, length, take}
use Rattle.bays.specs.Memory.{HaveShares}
use Rattle.bays.proofs.mem_bay.deal.Given as goal

abbrev pub invariant-loop-connection : goal.invariant-loop-connection
invariant-loop-connection l = record {
  count : length l.links ≡ length l.initial.links;
  within : length l.connections.items ≤ length l.initial.connections.items;
  front : l.connections.items ≡ take (length l.connections.items) l.initial.connections.items;
  dealt : HaveShares l.initial.connections.items (length l.connections.items) l.initial.links
      l.links;
}

abbrev pub decreases-loop-connection : goal.decreases-loop-connection
decreases-loop-connection l = goal.left-loop-connection l
