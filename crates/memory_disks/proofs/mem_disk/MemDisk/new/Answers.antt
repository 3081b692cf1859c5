use Rattle.std.proofs.Common.{◌≡◌, ◌*◌, length, ◌∙◌, ap, sym, ℕ, ◌<◌, List, slice_index, subst}
use Rattle.std.proofs.lemmas.List.{length-replicate}
use Rattle.memory_disks.proofs.TableLemmas.{even_start, content_start, told-zeros}
use Rattle.memory_disks.proofs.mem_disk.MemDisk.new.Goals as goal

pub invariant_of-result-clause-even : goal.invariant_of-result-clause-even
invariant_of-result-clause-even c =
    let whole : length c.in_ok-start.start.items ≡ c.args.atoms * c.args.atom =
    ap length c.in_ok-start.ensures ∙ length-replicate _ _ in
    rw c.in_ok-new.ensures.calls (even_start _ _ _ whole)

pub invariant_of-result-clause-agrees : goal.invariant_of-result-clause-agrees
invariant_of-result-clause-agrees c =
    let whole : length c.in_ok-start.start.items ≡ c.args.atoms * c.args.atom =
    ap length c.in_ok-start.ensures ∙ length-replicate _ _ in
    rw c.in_ok-new.ensures.calls (content_start _ _ _ whole ∙ c.in_ok-start.ensures
    ∙ sym c.in_ok-bytes.ensures)

pub returns-clause-told : goal.returns-clause-told
returns-clause-told c = rw c.in_ok-new.ensures.calls (told-zeros _ _ _ c.in_ok-start.ensures)

pub invariant_of-result-clause-are_bytes : goal.invariant_of-result-clause-are_bytes
invariant_of-result-clause-are_bytes c =
    subst (λ (bytes : List ℕ). (k : ℕ) → slice_index bytes k < 256) c.deref.ensures.value
    c.bytes_are_below_256.ensures
