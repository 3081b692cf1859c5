use Rattle.cipher_laws.specs.EachOfEight.{each_of_eight}
use Rattle.aes_core.proofs.transposition.turned.Goals as goal

pub returns : goal.returns
returns c =
    each_of_eight _ c.turned_block.ensures c.turned_block-2.ensures c.turned_block-3.ensures
    c.turned_block-4.ensures
    c.turned_block-5.ensures c.turned_block-6.ensures c.turned_block-7.ensures
    c.turned_block-8.ensures
