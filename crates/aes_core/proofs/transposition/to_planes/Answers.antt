use Rattle.aes_core.specs.Planes.{bit_in}
use Rattle.aes_core.proofs.SquareLemmas.{column_is_row, state_from_bits}
use Rattle.aes_core.proofs.transposition.to_planes.Goals as goal

pub returns : goal.returns
unfolding bit_in
returns c k below =
    state_from_bits k _ _ (c.turned.ensures k below) _ (λ p within.
    column_is_row c.turned.result c.transposed-square.result p
    (c.transposed-square.ensures p within) k below)
