use Rattle.std.proofs.Common.{ℕ, length}
use Rattle.demo_clients.proofs.ReadBackLemmas.{IsReadUpTo}
use Rattle.demo_clients.proofs.reading.read_back.Given as goal

-- the links so far were read back
abbrev pub invariant-links : goal.invariant-links
invariant-links l = (seed : ℕ) →
    IsReadUpTo seed l.blocks (length l.links) l.links l.session l.content.items
