use Rattle.std.proofs.Common.{refl}
use Rattle.aes_core.specs.Circuit.{multiplied}
use Rattle.aes_core.proofs.inversion.multiplied.Goals as goal

pub returns : goal.returns
unfolding multiplied
returns c k p =
    rw (
      c.bitand-18.ensures k p,
      c.bitand-17.ensures k p,
      c.bitand-16.ensures k p,
      c.bitand-15.ensures k p,
      c.bitand-14.ensures k p,
      c.bitand-13.ensures k p,
      c.bitand-12.ensures k p,
      c.bitand-11.ensures k p,
      c.bitand-10.ensures k p,
      c.bitand-9.ensures k p,
      c.bitand-8.ensures k p,
      c.bitand-7.ensures k p,
      c.bitand-6.ensures k p,
      c.bitand-5.ensures k p,
      c.bitand-4.ensures k p,
      c.bitand-3.ensures k p,
      c.bitand-2.ensures k p,
      c.bitand.ensures k p,
      c.bitxor-t45.ensures k p,
      c.bitxor-t44.ensures k p,
      c.bitxor-t43.ensures k p,
      c.bitxor-t42.ensures k p,
      c.bitxor-t41.ensures k p,
    ) refl
