use Rattle.std.proofs.Common.{refl}
use Rattle.aes_core.specs.Circuit.{inverse_sums}
use Rattle.aes_core.proofs.s_box.inverse_sums.Goals as goal

pub returns : goal.returns
unfolding inverse_sums
returns c k p =
    rw (
      c.bitxor-17.ensures k p,
      c.bitxor-16.ensures k p,
      c.bitxor-15.ensures k p,
      c.bitxor-14.ensures k p,
      c.bitxor-13.ensures k p,
      c.bitxor-12.ensures k p,
      c.bitxor-11.ensures k p,
      c.bitxor-10.ensures k p,
      c.bitxor-t20.ensures k p,
      c.bitxor-9.ensures k p,
      c.bitxor-t18.ensures k p,
      c.bitxor-8.ensures k p,
      c.bitxor-t16.ensures k p,
      c.bitxor-b1.ensures k p,
      c.bitxor-b2.ensures k p,
      c.bitxor-7.ensures k p,
      c.bitxor-6.ensures k p,
      c.bitxor-t11.ensures k p,
      c.bitxor-5.ensures k p,
      c.bitxor-t9.ensures k p,
      c.bitxor-4.ensures k p,
      c.bitxor-t7.ensures k p,
      c.bitxor-b7.ensures k p,
      c.bitxor-3.ensures k p,
      c.bitxor-t4.ensures k p,
      c.bitxor-t3.ensures k p,
      c.bitxor-2.ensures k p,
      c.bitxor.ensures k p,
      c.bitxor-t0.ensures k p,
    ) refl
