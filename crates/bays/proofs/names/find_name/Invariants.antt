use Rattle.std.proofs.Common.{◌≡◌, ◌++◌, take, drop}
use Rattle.bays.specs.Names.{named, without}
use Rattle.bays.proofs.names.find_name.Given as goal

abbrev pub invariant-loop-i : goal.invariant-loop-i
invariant-loop-i g l = record {
  first : named l.name l.entries ≡ named l.name (drop l.i l.entries);
  others : without l.name l.entries ≡ take l.i l.entries ++ without l.name (drop l.i l.entries);
}
