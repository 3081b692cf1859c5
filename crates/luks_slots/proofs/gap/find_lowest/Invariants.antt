use Rattle.std.proofs.Common.{◌≡◌, drop}
use Rattle.luks_slots.specs.Gaps.{lowest_in}
use Rattle.luks_slots.proofs.gap.find_lowest.Given as goal

abbrev pub invariant-loop-area : goal.invariant-loop-area
invariant-loop-area l =
    lowest_in l.bounds.atom l.bounds.end l.wanted l.place (drop l.area-index l.areas)
    ≡ lowest_in l.bounds.atom l.bounds.end l.wanted l.bounds.begin l.areas
