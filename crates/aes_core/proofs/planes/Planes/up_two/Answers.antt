use Rattle.std.proofs.Common.{refl}
use Rattle.aes_core.specs.Planes.{byte_in}
use Rattle.aes_core.proofs.planes.Planes.up_two.Goals as goal

pub returns : goal.returns
unfolding byte_in
returns c k row column =
    rw (
      c.up_two.ensures k row column,
      c.up_two-2.ensures k row column,
      c.up_two-3.ensures k row column,
      c.up_two-4.ensures k row column,
      c.up_two-5.ensures k row column,
      c.up_two-6.ensures k row column,
      c.up_two-7.ensures k row column,
      c.up_two-8.ensures k row column,
    ) refl
