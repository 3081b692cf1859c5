use Rattle.std.proofs.Common.{◌≡◌, ◌++◌, drop}
use Rattle.std.specs.List.{filter_map}
use Rattle.luks_rules.specs.Areas.{area_of}
use Rattle.luks_rules.proofs.areas.list_areas.Given as goal

abbrev pub invariant-loop-slot : goal.invariant-loop-slot
invariant-loop-slot l =
    l.areas.items ++ filter_map (λ slot. area_of slot.1) (drop l.slot-index l.slots)
    ≡ filter_map (λ slot. area_of slot.1) l.slots
