use Rattle.std.proofs.Common.{◌≡◌, ℕ, ◌+◌, List, ◌++◌}
use Rattle.demo_clients.proofs.FirstReplyLemmas.{IsTaken}
use Rattle.demo_clients.proofs.replies.take_replies.Given as goal

-- so many replies were taken, and their data are behind the content
abbrev pub invariant-replies : goal.invariant-replies
invariant-replies l = (added : List ℕ) × (l.content.items ≡ l.fn.content.items ++ added)
    × ((left : ℕ) → l.counter + left ≡ l.count
    → IsTaken l.count left l.size l.fn.text added l.rest)
