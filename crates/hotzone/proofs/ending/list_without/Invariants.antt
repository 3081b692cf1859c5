use Rattle.std.proofs.Common.{◌≡◌, ◌++◌, drop, not}
use Rattle.std.specs.List.{filter}
use Rattle.hotzone.specs.Endings.{is_left}
use Rattle.hotzone.proofs.ending.list_without.Given as goal

abbrev pub invariant-loop-area : goal.invariant-loop-area
invariant-loop-area l =
    l.gone.items ++ filter (λ a. not (is_left l.left a)) (drop l.area-index l.areas)
    ≡ filter (λ a. not (is_left l.left a)) l.areas
