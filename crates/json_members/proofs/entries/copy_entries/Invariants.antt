use Rattle.std.proofs.Common.{◌≡◌, take}
use Rattle.json_members.proofs.entries.copy_entries.Given as goal

abbrev pub invariant-loop-i : goal.invariant-loop-i
invariant-loop-i g l = l.copies.items ≡ take l.i l.entries
