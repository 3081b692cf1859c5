use Rattle.std.proofs.Common.{◌≡◌}
use Rattle.cipher_laws.specs.Eight.{block}
use Rattle.cipher_laws.specs.declared.eight_blocks.EightBlocks.{EightBlocks}
use Rattle.cipher_laws.specs.EachOfEight.{each_of_eight}
use Rattle.cipher_laws.specs.CipherBlocks.Blocks.{block_of}
use Rattle.cbc_essiv.specs.Rows.{sector_of}
use Rattle.cbc_essiv.proofs.side_by_side.eight_apart.Goals as goal

pub returns : goal.returns
returns c =
    let apart : EightBlocks = record {
      b0 = c.vector_in.result;
      b1 = c.vector_in-2.result;
      b2 = c.vector_in-3.result;
      b3 = c.vector_in-4.result;
      b4 = c.vector_in-5.result;
      b5 = c.vector_in-6.result;
      b6 = c.vector_in-7.result;
      b7 = c.vector_in-8.result;
    } in
    each_of_eight (λ k. block k apart ≡ block_of (sector_of c.args.size k c.args.row.now) c.args.at)
    c.vector_in.ensures c.vector_in-2.ensures c.vector_in-3.ensures c.vector_in-4.ensures
    c.vector_in-5.ensures c.vector_in-6.ensures c.vector_in-7.ensures c.vector_in-8.ensures
