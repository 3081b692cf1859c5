use Rattle.std.proofs.Common.{◌*◌}
use Rattle.cbc_essiv.specs.Rows.{IsSealedTo}
use Rattle.cbc_essiv.proofs.side_by_side.seal_eights.Given as goal

-- the sectors before the i-th eight are sealed
abbrev pub invariant-loop-i : goal.invariant-loop-i
invariant-loop-i g l =
    IsSealedTo (g.C.BlockCipher.sealed l.body) (g.C.BlockCipher.sealed l.iv) l.size (8 * l.i)
    l.first l.number l.initial.bytes l.bytes
