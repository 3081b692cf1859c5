use Rattle.std.proofs.Common.{refl}
use Rattle.aes_core.specs.Planes.{byte_in}
use Rattle.aes_core.proofs.planes.Planes.up_one.Goals as goal

pub returns : goal.returns
unfolding byte_in
returns c k row column =
    rw (
      c.up_one.ensures k row column,
      c.up_one-2.ensures k row column,
      c.up_one-3.ensures k row column,
      c.up_one-4.ensures k row column,
      c.up_one-5.ensures k row column,
      c.up_one-6.ensures k row column,
      c.up_one-7.ensures k row column,
      c.up_one-8.ensures k row column,
    ) refl
