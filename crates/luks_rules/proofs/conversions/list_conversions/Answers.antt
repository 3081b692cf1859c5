use Rattle.std.proofs.Common.{◌∙◌, ◌++◌, ◌+◌, drop, ap}
use Rattle.std.specs.List.{filter_map}
use Rattle.luks_rules.specs.Conversions.{conversion_of, conversions_of}
use Rattle.luks_rules.proofs.KeptLemmas.{found_more, found_none, found_all}
use Rattle.luks_rules.proofs.conversions.list_conversions.Goals as goal
use Rattle.luks_rules.proofs.conversions.list_conversions.Goals.{in-Some+in_ok-push-in-Some}
use Rattle.luks_rules.proofs.conversions.list_conversions.Goals.{in-None}

pub loop-slot-preserved : goal.loop-slot-preserved
loop-slot-preserved c = elim c.match-conversion_of_slot.branch [
  | in-Some+in_ok-push-in-Some w ↦
      found_more conversion_of c.loop-slot.found.items c.match-conversion_of_slot.found.items
      w.in-Some.conversion c.args.slots.now c.loop-slot.slot-index c.slot-item.result
      c.loop-slot-test.true (w.in-Some.ensures ∙ ap conversion_of c.slot-item.is)
      (ap (λ v. v.items) w.found-is ∙ w.in_ok-push-in-Some.ensures.items) c.loop-slot.invariant
  | in-None w ↦
      ap (λ v. v.items
      ++ filter_map conversion_of (drop (c.loop-slot.slot-index + 1) c.args.slots.now)) w.found-is
      ∙ found_none conversion_of c.loop-slot.found.items c.args.slots.now c.loop-slot.slot-index
      c.slot-item.result c.loop-slot-test.true (w.in-None.ensures ∙ ap conversion_of c.slot-item.is)
      c.loop-slot.invariant
]

pub returns : goal.returns
unfolding conversions_of
returns c =
    found_all conversion_of c.loop-slot.found.items c.args.slots.now c.loop-slot.slot-index
    c.loop-slot-test.false c.loop-slot.invariant
