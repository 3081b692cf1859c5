use Rattle.std.proofs.Common.{refl}
use Rattle.aes_core.specs.Circuit.{sums}
use Rattle.aes_core.proofs.s_box.sums.Goals as goal

pub returns : goal.returns
unfolding sums
returns c k p =
    rw (
      c.bitxor-18.ensures k p,
      c.bitxor-17.ensures k p,
      c.bitxor-16.ensures k p,
      c.bitxor-15.ensures k p,
      c.bitxor-14.ensures k p,
      c.bitxor-13.ensures k p,
      c.bitxor-12.ensures k p,
      c.bitxor-11.ensures k p,
      c.bitxor-10.ensures k p,
      c.bitxor-9.ensures k p,
      c.bitxor-8.ensures k p,
      c.bitxor-7.ensures k p,
      c.bitxor-6.ensures k p,
      c.bitxor-b4.ensures k p,
      c.bitxor-t66.ensures k p,
      c.bitxor-t65.ensures k p,
      c.bitxor-5.ensures k p,
      c.bitxor-t64.ensures k p,
      c.bitxor-t63.ensures k p,
      c.bitxor-4.ensures k p,
      c.bitxor-t62.ensures k p,
      c.bitxor-3.ensures k p,
      c.bitxor-t59.ensures k p,
      c.bitxor-2.ensures k p,
      c.bitxor-t58.ensures k p,
      c.bitxor-t57.ensures k p,
      c.bitxor.ensures k p,
      c.bitxor-t53.ensures k p,
      c.bitxor-t48.ensures k p,
      c.bitxor-t46.ensures k p,
    ) refl
