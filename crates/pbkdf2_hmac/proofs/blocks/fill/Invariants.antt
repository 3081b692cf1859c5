use Rattle.std.proofs.Common.{◌≡◌, ℕ, ◌*◌, List, length, take}
use Rattle.pbkdf2_hmac.specs.Keyed.{IsKeyed}
use Rattle.pbkdf2_hmac.specs.Pbkdf2.{blocks_of}
use Rattle.pbkdf2_hmac.proofs.blocks.fill.Given as goal

-- the front of the output holds the blocks so far, cut to its length
abbrev pub invariant-output : goal.invariant-output
invariant-output g l = (pass : List ℕ) → IsKeyed g.H.Hasher.hash g.H.Hasher.holds l.keyed pass
    → take (l.i * l.len) l.out
    ≡ take (length l.initial.out) (blocks_of g.H.Hasher.hash pass l.salt l.rounds l.i)
