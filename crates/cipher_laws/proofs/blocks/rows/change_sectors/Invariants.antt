use Rattle.std.proofs.Common.{◌/◌, ◌%◌, ◌<◌}
use Rattle.cipher_laws.specs.CipherBlocks.Blocks.{number_block}
use Rattle.cipher_laws.specs.CipherBlocks.Numbers.{AreReady}
use Rattle.cipher_laws.proofs.CipherBlocks.RowLemmas.{IsRowUnderWay}
use Rattle.cipher_laws.proofs.blocks.rows.change_sectors.Given as goal

-- the sectors before i are done, the others are worked on from the present number, and IVs are left
-- unless it is time for the next eight
abbrev pub invariant-loop-i : goal.invariant-loop-i
invariant-loop-i g l = record {
  row : IsRowUnderWay
      (λ number. g.W.UnderIv.changed l.work (g.C.BlockCipher.sealed l.cipher (number_block number)))
      l.size l.first l.number l.i l.i-end l.initial.bytes l.bytes;
  ivs : 0 < l.i % 8
      → AreReady (g.C.BlockCipher.sealed l.cipher) (l.size / 512) (l.i % 8) l.number l.ivs;
}
