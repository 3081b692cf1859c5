use Rattle.std.proofs.Common.{◌≡◌}
use Rattle.json_members.specs.Entries.{viewed, each_of, objects_in}
use Rattle.json_members.proofs.LoopLemmas.{after}
use Rattle.luks_json.proofs.entries.read_entries.Given as goal

abbrev pub invariant-loop-number : goal.invariant-loop-number
invariant-loop-number g l =
    (goal.iterator-loop-number g).can_next l.number-iterator
    × (goal.iterator-loop-number g).is_finite l.number-iterator
    × (after l.list.items (each_of (g.E.EntryText.of l.terms) l.path (viewed l.number-iterator))
    ≡ objects_in (g.E.EntryText.of l.terms) l.path l.fn.object)
