use Rattle.base_terms.proofs.BlockLemmas.{blocks_of-replicate}
use Rattle.plain_disk.proofs.StepLemmas.{begins_settled}
use Rattle.plain_disk.proofs.plain_disk.PlainDisk.new.Goals as goal

pub returns-clause-zeros : goal.returns-clause-zeros
returns-clause-zeros c = rw c.in_ok-bytes.ensures (blocks_of-replicate c.args.atom c.args.blocks 0)

pub returns-clause-settled : goal.returns-clause-settled
returns-clause-settled c = begins_settled _ _ (returns-clause-zeros c)
