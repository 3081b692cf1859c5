use Rattle.std.proofs.Common.{◌*◌, ◌-◌}
use Rattle.cipher_laws.specs.CipherBlocks.UnderWay.{IsUnderWay}
use Rattle.cbc_essiv.specs.Cbc.{seal_after, cbc_sealed}
use Rattle.cbc_essiv.proofs.chain.seal_chain.Given as goal

-- the blocks before i are done, and the others are worked on after the block that was sealed last
abbrev pub invariant-loop-i : goal.invariant-loop-i
invariant-loop-i g l =
    IsUnderWay (seal_after (g.C.BlockCipher.sealed l.cipher)) (λ _ _ sealed. sealed) 16 l.chain
    (l.i-end - l.i) (16 * l.i) (cbc_sealed (g.C.BlockCipher.sealed l.cipher) l.iv l.initial.sector)
    l.sector
