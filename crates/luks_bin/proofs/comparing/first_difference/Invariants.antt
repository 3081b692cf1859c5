use Rattle.std.proofs.Common.{◌≡◌, ℕ, ◌<◌, get_or}
use Rattle.luks_bin.specs.Shares.{IsShared}
use Rattle.luks_bin.proofs.comparing.first_difference.Given as goal

abbrev pub invariant-loop-at : goal.invariant-loop-at
invariant-loop-at l = (k : ℕ) → IsShared k → k < l.at → get_or l.a k 0 ≡ get_or l.b k 0
