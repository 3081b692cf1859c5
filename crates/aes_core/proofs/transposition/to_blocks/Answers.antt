use Rattle.aes_core.specs.Planes.{bit_in}
use Rattle.aes_core.proofs.SquareLemmas.{row_is_column, block_from_bits}
use Rattle.aes_core.proofs.transposition.to_blocks.Goals as goal

pub returns : goal.returns
unfolding bit_in
returns c k below =
    block_from_bits k _ _ (c.turned.ensures k below) c.args.planes (λ p within.
    row_is_column _ c.transposed.result p (c.transposed.ensures p within) k below)
