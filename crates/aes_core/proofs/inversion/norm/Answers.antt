use Rattle.std.proofs.Common.{refl}
use Rattle.aes_core.specs.Circuit.{norm}
use Rattle.aes_core.proofs.inversion.norm.Goals as goal

pub returns : goal.returns
unfolding norm
returns c k p =
    rw (
      c.bitxor-8.ensures k p,
      c.bitxor-7.ensures k p,
      c.bitxor-6.ensures k p,
      c.bitxor-5.ensures k p,
      c.bitxor-4.ensures k p,
      c.bitxor-3.ensures k p,
      c.bitxor-2.ensures k p,
      c.bitxor.ensures k p,
      c.bitxor-t16.ensures k p,
      c.bitand-6.ensures k p,
      c.bitxor-t14.ensures k p,
      c.bitand-5.ensures k p,
      c.bitand-t12.ensures k p,
      c.bitxor-t11.ensures k p,
      c.bitand-4.ensures k p,
      c.bitxor-t9.ensures k p,
      c.bitand-3.ensures k p,
      c.bitand-t7.ensures k p,
      c.bitxor-t6.ensures k p,
      c.bitand-2.ensures k p,
      c.bitxor-t4.ensures k p,
      c.bitand.ensures k p,
      c.bitand-t2.ensures k p,
    ) refl
