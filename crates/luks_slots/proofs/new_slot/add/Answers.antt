use Rattle.std.proofs.Common.{length, ◌∙◌, ap, subst, arith}
use Rattle.base_terms.specs.declared.disk_sizes.Sizes.{Sizes}
use Rattle.luks_slots.proofs.GapLemmas.{not-before}
use Rattle.luks_slots.proofs.NewSlotLemmas.{added}
use Rattle.luks_slots.specs.NewSlots.{area_len, IsSlotAt}
use Rattle.luks_slots.specs.Stripes.{split_len}
use Rattle.luks_slots.proofs.new_slot.add.Goals as goal

pub find_gap-requires : goal.find_gap-requires
find_gap-requires c =
    let same = ap length c.as_slice.ensures.bytes in
    let some = c.as_slice.ensures.some in
    let size = c.area_size-size.ensures in
    let pages = not-before (split_len (length c.as_slice.result.now)) 4096 (omega arith) in
    omega (arith, same, some, size, pages)

pub returns-in-Ok-slot_at : goal.returns-in-Ok-slot_at
returns-in-Ok-slot_at c =
    let key = c.args.key.now in
    added c.args.valid.now.meta c.args.valid.now.sizes.atom c.args.pass.now c.args.rounds key
    c.args.drawn.now c.in-Ok.offset _ c.in-Ok-slot_at.new
    (c.area_size-size.ensures ∙ ap (λ k. area_len (length k)) c.as_slice.ensures.bytes)
    c.in-Ok.ensures
    (subst (λ (s : Sizes). IsSlotAt c.in-Ok.offset s.atom c.args.pass.now c.args.rounds key
    c.args.drawn.now c.in-Ok-slot_at.new) c.sizes.ensures.sizes c.in-Ok-slot_at.ensures)
