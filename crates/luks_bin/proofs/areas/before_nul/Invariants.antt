use Rattle.std.proofs.Common.{◌≡◌, ◌++◌, take, drop}
use Rattle.luks_bin.specs.Copies.{up_to_nul}
use Rattle.luks_bin.proofs.areas.before_nul.Given as goal

abbrev pub invariant-loop-end : goal.invariant-loop-end
invariant-loop-end l = up_to_nul l.area ≡ take l.end l.area ++ up_to_nul (drop l.end l.area)
