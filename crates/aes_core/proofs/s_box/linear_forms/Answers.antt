use Rattle.std.proofs.Common.{refl}
use Rattle.aes_core.specs.Circuit.{linear_forms}
use Rattle.aes_core.proofs.s_box.linear_forms.Goals as goal

pub returns : goal.returns
unfolding linear_forms
returns c k p =
    rw (
      c.bitxor-9.ensures k p,
      c.bitxor-8.ensures k p,
      c.bitxor-7.ensures k p,
      c.bitxor-6.ensures k p,
      c.bitxor-5.ensures k p,
      c.bitxor-4.ensures k p,
      c.bitxor-3.ensures k p,
      c.bitxor-2.ensures k p,
      c.bitxor.ensures k p,
      c.bitxor-y16.ensures k p,
      c.bitxor-y11.ensures k p,
      c.bitxor-y10.ensures k p,
      c.bitxor-y20.ensures k p,
      c.bitxor-y15.ensures k p,
      c.bitxor-t1.ensures k p,
      c.bitxor-y5.ensures k p,
      c.bitxor-y12.ensures k p,
      c.bitxor-y1.ensures k p,
      c.bitxor-t0.ensures k p,
      c.bitxor-y8.ensures k p,
      c.bitxor-y9.ensures k p,
      c.bitxor-y13.ensures k p,
      c.bitxor-y14.ensures k p,
    ) refl
