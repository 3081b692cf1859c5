use Rattle.std.proofs.Common.{◌*◌}
use Rattle.cbc_essiv.specs.Cbc.{cbc_opened, IsUnsealedTo}
use Rattle.cbc_essiv.proofs.chain.unseal_eights.Given as goal

-- the blocks before the i-th eight are done, and the others are worked on after the sealed block
-- that was read last
abbrev pub invariant-loop-i : goal.invariant-loop-i
invariant-loop-i g l =
    IsUnsealedTo (g.C.BlockCipher.opened l.cipher) (128 * l.i) l.chain
    (cbc_opened (g.C.BlockCipher.opened l.cipher) l.fn.iv l.initial.sector) l.sector
