use Rattle.std.proofs.Common.{refl}
use Rattle.aes_core.specs.Circuit.{inverted}
use Rattle.aes_core.proofs.inversion.inverted.Goals as goal

pub returns : goal.returns
unfolding inverted
returns c k p =
    rw (
      c.bitxor-t40.ensures k p,
      c.bitand-3.ensures k p,
      c.bitxor-5.ensures k p,
      c.bitxor-t37.ensures k p,
      c.bitxor-4.ensures k p,
      c.bitand-t36.ensures k p,
      c.bitxor-3.ensures k p,
      c.bitxor-t33.ensures k p,
      c.bitand-2.ensures k p,
      c.bitxor-2.ensures k p,
      c.bitxor.ensures k p,
      c.bitxor-t29.ensures k p,
      c.bitand.ensures k p,
      c.bitxor-t27.ensures k p,
      c.bitand-t26.ensures k p,
      c.bitxor-t25.ensures k p,
    ) refl
