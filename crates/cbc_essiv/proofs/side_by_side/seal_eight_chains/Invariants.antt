use Rattle.std.proofs.Common.{ℕ, ◌*◌, ◌-◌, ◌<◌}
use Rattle.cipher_laws.specs.Eight.{block}
use Rattle.cipher_laws.specs.CipherBlocks.UnderWay.{IsUnderWay}
use Rattle.cbc_essiv.specs.Cbc.{seal_after, cbc_sealed}
use Rattle.cbc_essiv.specs.Rows.{sector_of}
use Rattle.cbc_essiv.proofs.side_by_side.seal_eight_chains.Given as goal

-- in each sector the blocks before i are done, and the others are worked on after its block that
-- was sealed last
abbrev pub invariant-loop-i : goal.invariant-loop-i
invariant-loop-i g l =
    (k : ℕ) → k < 8
    → IsUnderWay (seal_after (g.C.BlockCipher.sealed l.cipher)) (λ _ _ sealed. sealed) 16
    (block k l.chain) (l.i-end - l.i) (16 * l.i)
    (cbc_sealed (g.C.BlockCipher.sealed l.cipher) (block k l.ivs)
    (sector_of l.size k l.initial.row)) (sector_of l.size k l.row)
