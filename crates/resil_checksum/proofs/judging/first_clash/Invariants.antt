use Rattle.resil_checksum.specs.Comparing.{AllDifferIn}
use Rattle.resil_checksum.proofs.judging.first_clash.Given as goal

-- none of the blocks before i clashes
abbrev pub invariant-loop-i : goal.invariant-loop-i
invariant-loop-i l = AllDifferIn l.at_hand l.atom l.from l.i l.old l.new
