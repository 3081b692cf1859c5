use Rattle.std.proofs.Common.{◌*◌, ◌-◌}
use Rattle.cipher_laws.specs.CipherBlocks.UnderWay.{IsUnderWay}
use Rattle.cbc_essiv.specs.Cbc.{unseal_after, cbc_opened}
use Rattle.cbc_essiv.proofs.chain.unseal_each.Given as goal

-- the blocks before i are done, and the others are worked on after the sealed block that was read
-- last
abbrev pub invariant-loop-i : goal.invariant-loop-i
invariant-loop-i g l =
    IsUnderWay (unseal_after (g.C.BlockCipher.opened l.cipher)) (λ _ sealed _. sealed) 16 l.chain
    (l.i-end - l.i) (16 * l.i) (cbc_opened (g.C.BlockCipher.opened l.cipher) l.iv l.initial.sector)
    l.sector
