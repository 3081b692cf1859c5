use Rattle.std.proofs.Common.{◌≡◌, drop, max}
use Rattle.luks_slots.specs.Gaps.{widest_in}
use Rattle.luks_slots.proofs.gap.find_widest.Given as goal

abbrev pub invariant-loop-area : goal.invariant-loop-area
invariant-loop-area l =
    max (widest_in l.bounds.atom l.bounds.end l.place (drop l.area-index l.areas)) l.widest
    ≡ widest_in l.bounds.atom l.bounds.end l.bounds.begin l.areas
