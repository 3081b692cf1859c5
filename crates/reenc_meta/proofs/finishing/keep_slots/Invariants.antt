use Rattle.std.proofs.Common.{◌≡◌, ◌++◌, drop, not}
use Rattle.std.specs.List.{filter}
use Rattle.reenc_meta.specs.Finishes.{is_dropped}
use Rattle.reenc_meta.proofs.finishing.keep_slots.Given as goal

abbrev pub invariant-loop-slot : goal.invariant-loop-slot
invariant-loop-slot l =
    l.kept.items ++ filter (λ slot. not (is_dropped l.progress l.digests slot.0))
    (drop l.slot-index l.slots)
    ≡ filter (λ slot. not (is_dropped l.progress l.digests slot.0)) l.slots
