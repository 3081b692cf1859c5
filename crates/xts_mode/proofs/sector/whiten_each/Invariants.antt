use Rattle.std.proofs.Common.{◌*◌, ◌-◌}
use Rattle.cipher_laws.specs.CipherBlocks.UnderWay.{IsUnderWay}
use Rattle.xts_mode.specs.Xts.{doubled, whitened, xts_from}
use Rattle.xts_mode.proofs.sector.whiten_each.Given as goal

-- the blocks before i are done, and the others are worked on from the present tweak
abbrev pub invariant-loop-i : goal.invariant-loop-i
invariant-loop-i g l =
    IsUnderWay (whitened (g.C.BlockCipher.sealed l.cipher)) (λ tweak _ _. doubled tweak) 16 l.tweak
    (l.i-end - l.i) (16 * l.i) (xts_from (g.C.BlockCipher.sealed l.cipher) l.first l.initial.sector)
    l.sector
