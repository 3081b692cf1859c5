use Rattle.std.proofs.Common.{refl}
use Rattle.aes_core.specs.Field.{times_x}
use Rattle.aes_core.proofs.ByteLemmas.{byte_from_bits, doubled, doubled_byte}
use Rattle.aes_core.proofs.planes.Planes.times_x.Goals as goal

pub returns : goal.returns
returns c k p =
    byte_from_bits doubled times_x doubled_byte k p c.args.self _
    (rw (c.bitxor.ensures k p, c.bitxor-2.ensures k p, c.bitxor-3.ensures k p) refl)
