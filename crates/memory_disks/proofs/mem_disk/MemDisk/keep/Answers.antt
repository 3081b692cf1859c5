use Rattle.memory_disks.proofs.TableLemmas.{even_other, content_other, told-push}
use Rattle.memory_disks.proofs.mem_disk.MemDisk.keep.Goals as goal

pub invariant_of-self-clause-even : goal.invariant_of-self-clause-even
invariant_of-self-clause-even c = rw c.note.ensures.calls
    (even_other _ _ _ _ _ c.requires.other c.args.self.now.even)

pub invariant_of-self-clause-agrees : goal.invariant_of-self-clause-agrees
invariant_of-self-clause-agrees c =
    rw c.note.ensures.calls (content_other _ _ _ _ _ _ c.requires.other c.args.self.now.agrees)

pub returns-clause-told : goal.returns-clause-told
returns-clause-told c = rw c.note.ensures.calls (told-push _ _ _ _ _)
