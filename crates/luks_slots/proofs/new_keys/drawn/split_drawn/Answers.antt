use Rattle.std.proofs.Common.{◌+◌, ℕ, refl, ◌∙◌, ap, arith}
use Rattle.luks_slots.proofs.KeyMaking.DealLemmas.{dealt, left}
use Rattle.luks_slots.specs.KeyMaking.Drawings.{drawn_by, drawn_len, piece}
use Rattle.luks_slots.specs.NewSlots.{drawn_len as slot_len}
use Rattle.luks_slots.proofs.new_keys.drawn.split_drawn.Goals as goal

pub returns-clause-is : goal.returns-clause-is
unfolding drawn_by
returns-clause-is c =
    let size : ℕ = c.args.key_size in
    let bytes = c.args.bytes.now in
    let long = c.slot_len.ensures in
    let behind = left size c.slot_len.result (size + slot_len size) bytes _ _
    c.split_at.ensures.back c.split_at-2.ensures.back (omega (arith, long)) in
    let key = c.split_at.ensures.front in
    let slot = dealt size c.slot_len.result bytes _ _ c.split_at.ensures.back
    c.split_at-2.ensures.front ∙ ap (λ n. piece size n bytes) long in
    let digest_salt = dealt (size + slot_len size) 32 bytes _ _ behind
    c.split_at-3.ensures.front in
    rw (key, slot, digest_salt) refl

pub returns-clause-rest : goal.returns-clause-rest
unfolding drawn_len
returns-clause-rest c =
    let size : ℕ = c.args.key_size in
    let bytes = c.args.bytes.now in
    let long = c.slot_len.ensures in
    let behind = left size c.slot_len.result (size + slot_len size) bytes _ _
    c.split_at.ensures.back c.split_at-2.ensures.back (omega (arith, long)) in
    left (size + slot_len size) 32 (size + slot_len size + 32) bytes _ _ behind
    c.split_at-3.ensures.back refl
