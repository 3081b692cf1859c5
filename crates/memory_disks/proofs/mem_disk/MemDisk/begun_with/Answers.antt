use Rattle.std.proofs.Common.{◌∙◌, sym, ℕ, ◌<◌, List, slice_index, subst}
use Rattle.base_terms.proofs.BlockLemmas.{pasted_whole}
use Rattle.memory_disks.proofs.TableLemmas.{even_start, content_start, told_start}
use Rattle.memory_disks.proofs.mem_disk.MemDisk.begun_with.Goals as goal

pub invariant_of-disk-clause-even : goal.invariant_of-disk-clause-even
invariant_of-disk-clause-even c =
    rw (
      c.clear.ensures.calls,
      c.paste.ensures.items,
      c.as_slice.ensures.value,
      pasted_whole
          c.args.self.start.items c.args.content.items (c.requires ∙ sym c.args.self.began),
    )
    (even_start _ _ _ c.requires)

pub invariant_of-disk-clause-agrees : goal.invariant_of-disk-clause-agrees
invariant_of-disk-clause-agrees c =
    rw (
      c.clear.ensures.calls,
      c.paste.ensures.items,
      c.as_slice.ensures.value,
      pasted_whole
          c.args.self.start.items c.args.content.items (c.requires ∙ sym c.args.self.began),
    )
    (content_start _ _ _ c.requires)

pub returns-clause-told : goal.returns-clause-told
returns-clause-told c =
    rw (
      c.clear.ensures.calls,
      c.paste.ensures.items,
      c.as_slice.ensures.value,
      pasted_whole
          c.args.self.start.items c.args.content.items (c.requires ∙ sym c.args.self.began),
    )
    (told_start _ _ _)

pub invariant_of-disk-clause-are_bytes : goal.invariant_of-disk-clause-are_bytes
invariant_of-disk-clause-are_bytes c =
    subst (λ (bytes : List ℕ). (k : ℕ) → slice_index bytes k < 256) c.deref.ensures.value
    c.bytes_are_below_256.ensures
