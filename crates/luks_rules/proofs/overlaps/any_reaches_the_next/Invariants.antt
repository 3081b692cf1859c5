use Rattle.std.proofs.Common.{◌≡◌, drop}
use Rattle.luks_rules.specs.Overlaps.{reaches}
use Rattle.luks_rules.proofs.overlaps.any_reaches_the_next.Given as goal

abbrev pub invariant-loop-area : goal.invariant-loop-area
invariant-loop-area l = reaches l.last (drop l.area-index l.areas) ≡ reaches 0 l.areas
