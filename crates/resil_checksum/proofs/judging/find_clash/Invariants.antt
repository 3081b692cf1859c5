use Rattle.std.specs.Prelude.{◌/◌, length}
use Rattle.resil_checksum.specs.Comparing.{AllDifferIn, part_start}
use Rattle.resil_checksum.proofs.judging.find_clash.Given as goal

-- none of the blocks of the first parts clashes
abbrev pub invariant-loop-part : goal.invariant-loop-part
invariant-loop-part g l =
    AllDifferIn l.fn.at_hand l.atom 0 (part_start (length l.new / l.atom) l.run l.part) l.old l.new
