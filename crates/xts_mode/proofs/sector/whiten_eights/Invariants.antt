use Rattle.std.proofs.Common.{◌*◌}
use Rattle.xts_mode.specs.Xts.{xts_from, IsWhitenedTo}
use Rattle.xts_mode.proofs.sector.whiten_eights.Given as goal

-- the blocks before the i-th eight are done, and the others are worked on from the present tweak
abbrev pub invariant-loop-i : goal.invariant-loop-i
invariant-loop-i g l =
    IsWhitenedTo (g.C.BlockCipher.sealed l.cipher) (128 * l.i) l.tweak
    (xts_from (g.C.BlockCipher.sealed l.cipher) l.first l.initial.sector) l.sector
