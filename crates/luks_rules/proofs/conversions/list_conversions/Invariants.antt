use Rattle.std.proofs.Common.{◌≡◌, ◌++◌, drop}
use Rattle.std.specs.List.{filter_map}
use Rattle.luks_rules.specs.Conversions.{conversion_of}
use Rattle.luks_rules.proofs.conversions.list_conversions.Given as goal

abbrev pub invariant-loop-slot : goal.invariant-loop-slot
invariant-loop-slot l =
    l.found.items ++ filter_map conversion_of (drop l.slot-index l.slots)
    ≡ filter_map conversion_of l.slots
