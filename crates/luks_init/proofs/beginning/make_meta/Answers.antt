use Rattle.std.proofs.Common.{◌≡◌, ◌∙◌, true, subst, sym}
use Rattle.std.specs.Option.{IsSomeAnd}
use Rattle.std.specs.Result.{IfOk}
use Rattle.base_terms.specs.declared.disk_sizes.Sizes.{Sizes}
use Rattle.luks_init.proofs.BeginLemmas.{has-begun}
use Rattle.luks_init.proofs.WishLemmas.{wish-of}
use Rattle.luks_init.specs.Metadata.{wish_for, wish_with}
use Rattle.luks_meta.specs.Keyslots.{IsLuks2}
use Rattle.luks_meta.specs.declared.digest.Digest.{Digest}
use Rattle.luks_slots.specs.KeyMaking.Drawings.{draw}
use Rattle.luks_rules.specs.Idles.{idle_of}
use Rattle.luks_slots.specs.Unlocks.{matches}
use Rattle.reenc_meta.specs.Starts.{IsStartedFrom}
use Rattle.reenc_meta.specs.Wishes.{IsWish}
use Rattle.reenc_meta.specs.declared.wish.Wish.{Wish}
use Rattle.luks_init.proofs.beginning.make_meta.Goals as goal

pub start-requires-clause-wish : goal.start-requires-clause-wish
start-requires-clause-wish c =
    let m = c.args.valid.now.meta in
    let sizes = c.args.valid.now.sizes in
    subst (λ (s : Sizes). IsSomeAnd (idle_of m s) (IsWish c.make_wish-told.result))
    (sym c.sizes.ensures.sizes)
    (subst (λ (told : Wish). IsSomeAnd (idle_of m sizes) (IsWish told))
    (sym c.make_wish-told.ensures)
    (wish-of m sizes.atom c.args.wish.now c.args.places (c.in_ok-slot.slot, c.in_ok-digest.digest)
    c.requires.disk.known c.requires.wish c.requires.places
    (subst IsLuks2 (sym c.in_ok-slot.ensures) c.requires.has_text)
    c.in_ok-digest.ensures.has_text (idle_of m sizes) c.requires.idle))

pub returns : goal.returns
returns c =
    let m = c.args.valid.now.meta in
    let sizes = c.args.valid.now.sizes in
    let w = c.args.wish.now in
    let d = draw c.args.drawn.now in
    let p = c.args.places in
    let slot = c.in_ok-slot.ensures ∙ c.requires.slot in
    let digest = c.in_ok-digest.ensures.is in
    let told : c.make_wish-told.result ≡ wish_for m.config sizes.atom w d p =
    c.make_wish-told.ensures ∙ (λ i. wish_with m.config sizes.atom w p (slot i, digest i)) in
    has-begun m sizes w d p c.is_sound.ensures c.requires.disk.known c.requires.wish
    c.requires.places
    (subst (λ (x : Digest). matches x d.key ≡ true) digest c.in_ok-digest.ensures.matches)
    c.requires.idle c.start.result
    (subst (λ (x : Wish). IfOk c.start.result (IsStartedFrom sizes x m)) told
    (subst (λ (s : Sizes). IfOk c.start.result (IsStartedFrom s c.make_wish-told.result m))
    c.sizes.ensures.sizes c.start.ensures))
