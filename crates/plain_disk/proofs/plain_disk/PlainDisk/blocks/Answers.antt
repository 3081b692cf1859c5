use Rattle.std.proofs.Common.{sym}
use Rattle.base_terms.proofs.BlockLemmas.{length-blocks_of}
use Rattle.plain_disk.proofs.plain_disk.PlainDisk.blocks.Goals as goal

pub returns : goal.returns
returns c = rw (← c.self.view_is) (sym (length-blocks_of _ _ _))
