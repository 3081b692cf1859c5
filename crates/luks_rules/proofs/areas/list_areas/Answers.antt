use Rattle.std.proofs.Common.{◌∙◌, ◌++◌, ◌+◌, ℕ, drop, ap}
use Rattle.std.specs.List.{filter_map}
use Rattle.luks_meta.specs.declared.keyslot.Keyslot.{Keyslot}
use Rattle.luks_rules.specs.Areas.{area_of, areas_of}
use Rattle.luks_rules.proofs.KeptLemmas.{found_more, found_none, found_all}
use Rattle.luks_rules.proofs.areas.list_areas.Goals as goal
use Rattle.luks_rules.proofs.areas.list_areas.Goals.{in-Some+in_ok-push-in-Some, in-None}

pub loop-slot-preserved : goal.loop-slot-preserved
loop-slot-preserved c = elim c.match-area_of_slot.branch [
  | in-Some+in_ok-push-in-Some w ↦
      found_more (λ (s : ℕ × Keyslot). area_of s.1) c.loop-slot.areas.items
      c.match-area_of_slot.areas.items w.in-Some.area c.args.slots.now c.loop-slot.slot-index
      c.slot-item.result
      c.loop-slot-test.true
      (w.in-Some.ensures ∙ ap (λ (s : ℕ × Keyslot). area_of s.1) c.slot-item.is)
      (ap (λ v. v.items) w.areas-is ∙ w.in_ok-push-in-Some.ensures.items) c.loop-slot.invariant
  | in-None w ↦
      ap (λ v. v.items
      ++ filter_map (λ (s : ℕ × Keyslot). area_of s.1)
      (drop (c.loop-slot.slot-index + 1) c.args.slots.now)) w.areas-is
      ∙ found_none (λ (s : ℕ × Keyslot). area_of s.1) c.loop-slot.areas.items c.args.slots.now
      c.loop-slot.slot-index c.slot-item.result c.loop-slot-test.true
      (w.in-None.ensures ∙ ap (λ (s : ℕ × Keyslot). area_of s.1) c.slot-item.is)
      c.loop-slot.invariant
]

pub returns : goal.returns
unfolding areas_of
returns c =
    found_all (λ (s : ℕ × Keyslot). area_of s.1) c.loop-slot.areas.items c.args.slots.now
    c.loop-slot.slot-index c.loop-slot-test.false c.loop-slot.invariant
