use Rattle.std.proofs.Common.{◌≡◌, drop}
use Rattle.serde_json.specs.View.{items_view, members_view}
use Rattle.json_members.specs.Floats.{float_in_items, float_in_members}
use Rattle.json_members.proofs.floats.+float_path.Given as goal

abbrev pub invariant-float_path_in_items-loop-i : goal.invariant-float_path_in_items-loop-i
invariant-float_path_in_items-loop-i l =
    float_in_items l.path l.i (items_view (drop l.i l.items.items))
    ≡ float_in_items l.path 0 (items_view l.items.items)

abbrev pub invariant-float_path_in_members-loop-key : goal.invariant-float_path_in_members-loop-key
invariant-float_path_in_members-loop-key l =
    (goal.iterator-float_path_in_members-loop-key).can_next l.key-iterator ×
    (goal.iterator-float_path_in_members-loop-key).is_finite l.key-iterator
    × (float_in_members l.path (members_view l.key-iterator)
    ≡ float_in_members l.path (members_view l.members.entries))
