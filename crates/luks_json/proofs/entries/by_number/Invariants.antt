use Rattle.std.proofs.Common.{◌≡◌}
use Rattle.serde_json.specs.View.{members_view}
use Rattle.json_members.specs.Entries.{viewed, numbered_from, numbered_in}
use Rattle.luks_json.proofs.entries.by_number.Given as goal

abbrev pub invariant-loop-key : goal.invariant-loop-key
invariant-loop-key l =
    (goal.iterator-loop-key).can_next l.key-iterator
    × (goal.iterator-loop-key).is_finite l.key-iterator
    × (numbered_from l.path (viewed l.found.entries) (members_view l.key-iterator)
    ≡ numbered_in l.path l.fn.object)
