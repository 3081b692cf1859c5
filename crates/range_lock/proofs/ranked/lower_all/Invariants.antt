use Rattle.std.proofs.Common.{◌≡◌, ◌++◌, map, take, drop}
use Rattle.range_lock.specs.Ranks.{lowered}
use Rattle.range_lock.proofs.ranked.lower_all.Given as goal

abbrev pub invariant-loop-ranked : goal.invariant-loop-ranked
invariant-loop-ranked l = l.sorted ≡ map (lowered l.gone)
    (take l.ranked-index l.initial.sorted) ++ drop l.ranked-index l.initial.sorted
