use Rattle.std.proofs.Common.{refl}
use Rattle.memory_disks.proofs.TableLemmas.{some_atom, even_write, content_write, told-push}
use Rattle.memory_disks.proofs.mem_disk.MemDisk.keep_write.Goals as goal

pub invariant_of-self-clause-even : goal.invariant_of-self-clause-even
invariant_of-self-clause-even c =
    rw c.note.ensures.calls
    (even_write _ _ _ _ _ refl (some_atom _ c.args.self.now.known) c.requires.place.whole
    c.args.self.now.even)

pub invariant_of-self-clause-agrees : goal.invariant_of-self-clause-agrees
invariant_of-self-clause-agrees c =
    rw c.note.ensures.calls
    (content_write _ _ _ _ _ _ _ refl (some_atom _ c.args.self.now.known) c.requires.place
    c.args.self.now.even
    c.args.self.now.agrees c.paste.ensures.items)

pub returns-clause-told : goal.returns-clause-told
returns-clause-told c = rw c.note.ensures.calls (told-push _ _ _ _ _)
