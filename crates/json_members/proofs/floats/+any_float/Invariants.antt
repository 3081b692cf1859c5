use Rattle.std.proofs.Common.{◌≡◌, drop}
use Rattle.serde_json.specs.Written.{items_have_float, members_have_float}
use Rattle.serde_json.specs.View.{items_view, members_view}
use Rattle.json_members.proofs.floats.+any_float.Given as goal

abbrev pub invariant-any_float_in_items-loop-item : goal.invariant-any_float_in_items-loop-item
invariant-any_float_in_items-loop-item l =
    items_have_float (items_view (drop l.item-index l.items.items))
    ≡ items_have_float (items_view l.items.items)

abbrev pub invariant-any_float_in_members-loop-member :
    goal.invariant-any_float_in_members-loop-member
invariant-any_float_in_members-loop-member l =
    (goal.iterator-any_float_in_members-loop-member).can_next l.member-iterator ×
    (goal.iterator-any_float_in_members-loop-member).is_finite l.member-iterator
    × (members_have_float (members_view l.member-iterator)
    ≡ members_have_float (members_view l.members.entries))
