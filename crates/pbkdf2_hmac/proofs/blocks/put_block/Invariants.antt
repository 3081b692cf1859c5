use Rattle.std.proofs.Common.{ℕ, List, ◌++◌}
use Rattle.std.specs.Int.{w32, to_be_bytes}
use Rattle.pbkdf2_hmac.specs.Keyed.{IsKeyed}
use Rattle.pbkdf2_hmac.proofs.Rounds.{IsAfter}
use Rattle.pbkdf2_hmac.proofs.blocks.put_block.Given as goal

abbrev pub invariant-rounds : goal.invariant-rounds
invariant-rounds g l = (pass : List ℕ) → IsKeyed g.H.Hasher.hash g.H.Hasher.holds l.keyed pass
    → IsAfter g.H.Hasher.hash pass (l.salt ++ to_be_bytes w32 l.number) l.counter l.iterate l.sum
