use Rattle.std.proofs.Common.{◌+◌, ℕ, take, refl, ◌∙◌, ap, arith}
use Rattle.luks_format.proofs.DrawnLemmas.{dealt-last}
use Rattle.luks_format.specs.Drawings.{drawn_by, drawn_len, identifier_len}
use Rattle.luks_slots.proofs.KeyMaking.DealLemmas.{dealt, left}
use Rattle.luks_slots.specs.KeyMaking.Drawings.{Draw as KeyDraw, drawn_len as key_drawn_len}
use Rattle.luks_format.proofs.drawn.split_drawn.Goals as goal

pub returns-clause-is : goal.returns-clause-is
unfolding drawn_by drawn_len
returns-clause-is c =
    let w = c.args.wish.now in
    let bytes = c.args.bytes.now in
    let given : ℕ = identifier_len w.identifier in
    let at_identifier : ℕ = key_drawn_len w.key_size in
    let at_first : ℕ = at_identifier + given in
    let id = c.identifier_len.ensures in
    let new_key = c.split_drawn.ensures.is in
    let behind_key = c.split_drawn.ensures.rest in
    let behind_identifier = left at_identifier c.identifier_len.result at_first bytes _ _
    behind_key c.split_at.ensures.back (omega (arith, id)) in
    let behind_first = left at_first 64 (at_first + 64) bytes _ _
    behind_identifier c.split_at-2.ensures.back refl in
    let key = ap (λ (d : KeyDraw). d.key) new_key in
    let slot = ap (λ (d : KeyDraw). d.slot) new_key in
    let digest_salt = ap (λ (d : KeyDraw). d.digest_salt) new_key in
    let identifier = dealt at_identifier given bytes _ _ behind_key
    (c.split_at.ensures.front ∙ ap (λ n. take n c.split_drawn.result.1.now) id) in
    let first_salt = dealt at_first 64 bytes _ _ behind_identifier
    c.split_at-2.ensures.front in
    let second_salt = dealt-last (at_first + 64) 64 bytes _ behind_first
    (omega (arith, c.requires.length)) in
    rw (key, slot, digest_salt, identifier, first_salt, second_salt) refl
