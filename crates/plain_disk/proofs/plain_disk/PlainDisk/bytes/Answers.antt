use Rattle.std.proofs.Common.{◌*◌, sym, ap, ◌∙◌}
use Rattle.base_terms.specs.Blocks.{blocks_of}
use Rattle.base_terms.proofs.BlockLemmas.{length-blocks_of}
use Rattle.plain_disk.proofs.plain_disk.PlainDisk.bytes.Goals as goal

pub returns-clause-blocks : goal.returns-clause-blocks
returns-clause-blocks c =
    rw (c.as_slice.ensures.value, ← c.self.view_is)
    (ap (λ n. blocks_of c.self.inside.atom n c.self.inside.bytes.items)
    (sym (length-blocks_of _ _ _)))

pub returns-clause-len : goal.returns-clause-len
returns-clause-len c =
    rw (c.as_slice.ensures.value, ← c.self.view_is)
    (c.self.invariant.whole ∙ ap (λ n. n * c.self.inside.atom) (sym (length-blocks_of _ _ _)))
