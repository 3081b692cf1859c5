use Rattle.std.proofs.Common.{◌≡◌, length, ◌∙◌, ap, ap₂, arith}
use Rattle.std.proofs.lemmas.List.{take_at}
use Rattle.base_terms.specs.Blocks.{blocks_of}
use Rattle.memory_disks.specs.Calls.{table, last_table}
use Rattle.sector_disk.specs.Cells.{sures}
use Rattle.memory_disks.proofs.mem_disk.MemDisk.image.Goals as goal

pub returns : goal.returns
unfolding table
returns c =
    let len : length c.replay.new.cells ≡ c.in_ok-cells.cells.len =
    omega (arith, c.replay.auto.cells, c.deref_mut.ensures.len) in
    let begun : c.deref_mut.result.now ≡ sures
    (blocks_of c.args.self.now.atom c.args.self.now.atoms c.args.self.now.start.items) =
    c.deref_mut.ensures.value ∙ c.in_ok-cells.ensures
    ∙ ap (λ text. sures (blocks_of c.args.self.now.atom c.args.self.now.atoms text))
    c.as_slice.ensures.value
    in
    let made : c.deref.result.now ≡ last_table c.args.self.now.atom
    (sures (blocks_of c.args.self.now.atom c.args.self.now.atoms c.args.self.now.start.items))
    c.args.self.now.calls.calls =
    c.deref.ensures.value ∙ take_at _ _ _ len ∙ c.in_ok-replay.ensures
    ∙ ap₂ (λ atom cells. last_table atom cells c.args.self.now.calls.calls)
    c.args.self.now.same_atom begun in
    rw made at c.image_bytes.ensures
