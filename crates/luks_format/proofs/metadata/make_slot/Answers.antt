use Rattle.std.proofs.Common.{ℕ, ◌*◌, List, ◌∙◌, ap}
use Rattle.luks_format.specs.Metadata.{keyslot_for}
use Rattle.luks_meta.specs.declared.keyslot.Luks2.{Luks2}
use Rattle.luks_slots.specs.NewSlots.{slot_for}
use Rattle.luks_format.proofs.metadata.make_slot.Goals as goal

pub returns-clause-is : goal.returns-clause-is
unfolding keyslot_for
returns-clause-is c =
    let w = c.args.wish.now in
    let at : ℕ → List ℕ → Luks2 = λ offset salt. slot_for offset w.key_size w.iterations salt in
    c.in_ok-slot.ensures.is
    ∙ ap (λ offset. at offset c.split_at.result.0.now) c.area_offset-offset.ensures
    ∙ ap (λ salt. at (2 * w.metadata_size) salt) c.split_at.ensures.front
