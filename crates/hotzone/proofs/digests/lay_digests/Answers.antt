use Rattle.std.proofs.Common.{◌/◌, ◌∙◌, List, ap, length, subst, sym, take, ℕ}
use Rattle.hotzone.proofs.PartLemmas.{all-rewritten}
use Rattle.hotzone.proofs.digests.lay_digests.Goals as goal
use Rattle.resil_checksum.specs.Digests.{AreSaved}

pub returns-clause-saved : goal.returns-clause-saved
returns-clause-saved g c =
    subst (λ (b : List ℕ). AreSaved c.args.atom (length c.args.old.now / c.args.atom) c.args.old.now
    (take c.args.len b))
    (sym (all-rewritten c.args.buffer.now c.lay_front.new.bytes
    (c.lay_front.ensures.length ∙ ap length c.as_mut_slice.ensures.value)))
    c.lay_front.ensures.saved

pub returns-clause-length : goal.returns-clause-length
returns-clause-length g c =
    let long = c.lay_front.ensures.length ∙ ap length c.as_mut_slice.ensures.value in
    ap length (all-rewritten c.args.buffer.now c.lay_front.new.bytes long) ∙ long
