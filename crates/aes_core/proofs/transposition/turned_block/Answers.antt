use Rattle.aes_core.proofs.SquareLemmas.{block_turned}
use Rattle.aes_core.proofs.transposition.turned_block.Goals as goal

pub returns : goal.returns
returns c = block_turned c.args.block c.fits-block.0 c.fits-block.1
