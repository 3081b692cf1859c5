use Rattle.std.proofs.Common.{refl}
use Rattle.aes_core.specs.Planes.{byte_in}
use Rattle.aes_core.proofs.ByteLemmas.{state_of_shift_rows}
use Rattle.aes_core.proofs.planes.Planes.shift_rows.Goals as goal

pub returns : goal.returns
unfolding byte_in
returns c k =
    state_of_shift_rows k c.args.self _ (λ row column.
    rw (
      c.shift_rows.ensures k row column,
      c.shift_rows-2.ensures k row column,
      c.shift_rows-3.ensures k row column,
      c.shift_rows-4.ensures k row column,
      c.shift_rows-5.ensures k row column,
      c.shift_rows-6.ensures k row column,
      c.shift_rows-7.ensures k row column,
      c.shift_rows-8.ensures k row column,
    ) refl)
