use Rattle.std.proofs.Common.{◌∙◌, sym}
use Rattle.cbc_essiv.proofs.RowLemmas.{block_in_sector}
use Rattle.cbc_essiv.proofs.side_by_side.vector_in.Goals as goal

pub returns : goal.returns
returns c =
    c.block_at.ensures
    ∙ sym (block_in_sector c.args.size c.args.k c.args.at c.args.row.now c.requires.within)
