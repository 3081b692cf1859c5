use Rattle.std.proofs.Common.{ℕ, ◌<◌, ◌≤◌, slice_index_or}
use Rattle.luks_rules.specs.declared.areas.Area.{Area}
use Rattle.hotzone.proofs.ending.longest.Given as goal

abbrev pub invariant-loop-area : goal.invariant-loop-area
invariant-loop-area l =
    (k : ℕ) (d : Area) → k < l.area-index → (slice_index_or l.areas k d).size ≤ l.most
