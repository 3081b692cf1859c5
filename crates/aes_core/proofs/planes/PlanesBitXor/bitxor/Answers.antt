use Rattle.std.proofs.Common.{refl}
use Rattle.aes_core.proofs.ByteLemmas.{byte_of_sums}
use Rattle.aes_core.proofs.planes.PlanesBitXor.bitxor.Goals as goal

pub returns : goal.returns
returns c k p =
    byte_of_sums k p c.args.self c.args.other _ (rw (
      c.bitxor.ensures k p,
      c.bitxor-2.ensures k p,
      c.bitxor-3.ensures k p,
      c.bitxor-4.ensures k p,
      c.bitxor-5.ensures k p,
      c.bitxor-6.ensures k p,
      c.bitxor-7.ensures k p,
      c.bitxor-8.ensures k p,
    ) refl)
