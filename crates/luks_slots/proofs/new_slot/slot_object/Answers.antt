use Rattle.luks_slots.proofs.NewSlotLemmas.{has-text, iterations}
use Rattle.luks_slots.specs.NewSlots.{slot_for}
use Rattle.luks_slots.proofs.new_slot.slot_object.Goals as goal

pub returns-clause-has_text : goal.returns-clause-has_text
unfolding slot_for
returns-clause-has_text c =
    rw (
      c.in_ok-text.ensures,
      c.in_ok-text-2.ensures,
      c.in_ok-make_kdf.ensures,
      c.area_size.ensures,
      c.empty.ensures,
      c.empty-2.ensures,
      c.empty-3.ensures,
    )
    (has-text c.args.offset c.args.key_size c.args.rounds c.args.salt.now c.ranges.offset.fits
    c.requires.key_size (iterations c.args.rounds c.requires.some_rounds c.requires.most_rounds)
    c.bytes_are_below_256.ensures)
