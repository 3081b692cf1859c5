use Rattle.std.proofs.Common.{◌≡◌, drop}
use Rattle.json_members.specs.Entries.{objects_onto, objects_members}
use Rattle.luks_json.proofs.entries.write_entries.Given as goal

abbrev pub invariant-loop-i : goal.invariant-loop-i
invariant-loop-i g l =
    objects_onto g.E.EntryText.members (drop l.i l.entries) l.object
    ≡ objects_members g.E.EntryText.members l.entries
