use Rattle.std.proofs.Common.{◌≡◌, ℕ, List, length, take, sym, ◌∙◌, ap, subst}
use Rattle.af_split.specs.Af.{merged}
use Rattle.luks_slots.proofs.NewSlotLemmas.{made}
use Rattle.luks_slots.specs.NewSlots.{area_key_of, slot_for, IsSlotAt}
use Rattle.luks_slots.specs.Stripes.{sectors_len, split_len}
use Rattle.pbkdf2_hmac.specs.declared.Hash.TheVariants.{Sha256}
use Rattle.sector_cipher.specs.Context.{opened_under}
use Rattle.sector_cipher.specs.declared.spec.Spec.TheVariants.{AesXtsPlain64}
use Rattle.luks_slots.proofs.new_slot.slot_at.Goals as goal

pub returns : goal.returns
returns c =
    let key = c.as_slice-bytes.result.now in
    let drawn = c.args.drawn.now in
    let pass = c.args.pass.now in
    subst (λ (k : List ℕ). IsSlotAt c.args.offset c.args.atom pass c.args.rounds k drawn
    (record { keyslot = c.in_ok-keyslot.keyslot; area = c.new.result }))
    c.as_slice-bytes.ensures.bytes
    (made c.args.offset c.args.atom pass c.args.rounds key drawn c.in_ok-keyslot.keyslot
    c.new.result c.requires.atom
    c.in_ok-keyslot.ensures.has_text
    (c.in_ok-keyslot.ensures.is
    ∙ ap (λ s. slot_for c.args.offset (length key) c.args.rounds s) c.split_at.ensures.front)
    (c.new.ensures ∙ c.in_ok-area.ensures.bytes)
    (ap length c.new.ensures ∙ c.in_ok-area.ensures.size)
    (subst (λ (a : List ℕ). merged Sha256 (length key) 4000 (take (split_len (length key))
    (opened_under AesXtsPlain64 (area_key_of pass drawn c.args.rounds) 512 0
    (take (sectors_len (length key)) a))) ≡ key) (sym c.new.ensures)
    c.in_ok-area.ensures.undone))
