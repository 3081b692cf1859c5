use Rattle.std.proofs.Common.{subst, sym}
use Rattle.std.specs.Option.{IsSomeAnd}
use Rattle.std.specs.Result.{IfOk}
use Rattle.luks_meta.specs.Metas.{IsMeta}
use Rattle.luks_meta.specs.declared.meta.Parts.{Parts}
use Rattle.luks_rules.specs.declared.idle.Idle.{Idle}
use Rattle.reenc_meta.specs.Placements.{all_atoms}
use Rattle.reenc_meta.specs.Starts.{IsStarted}
use Rattle.reenc_meta.specs.Unconverted.{IsUnconverted}
use Rattle.reenc_meta.specs.Wishes.{IsWish, unencrypted}
use Rattle.reenc_meta.proofs.UnconvertedLemmas.{idle-disk, meta-disk, some-atom, unconverted-disk}
use Rattle.reenc_meta.proofs.starting.begin_without.Goals as goal

pub begin_from-requires-clause-parts : goal.begin_from-requires-clause-parts
begin_from-requires-clause-parts c =
    subst (λ (m : Parts). IsMeta m) (sym c.in_ok-parts.ensures)
    (meta-disk c.args.wish.now c.sizes_fit.ensures)

pub begin_from-requires-clause-idle : goal.begin_from-requires-clause-idle
begin_from-requires-clause-idle c =
    let sizes = c.args.sizes.now in
    let some = some-atom sizes.atom (all_atoms sizes) c.requires.disk in
    subst (λ (m : Parts). IsUnconverted m sizes c.unencrypted_volume.result)
    (sym c.in_ok-parts.ensures)
    (subst (λ (v : Idle). IsUnconverted (unencrypted c.args.wish.now) sizes v)
    (sym c.unencrypted_volume.ensures) (unconverted-disk c.args.wish.now sizes some))

pub begin_from-requires-clause-wish : goal.begin_from-requires-clause-wish
begin_from-requires-clause-wish c =
    let sizes = c.args.sizes.now in
    let some = some-atom sizes.atom (all_atoms sizes) c.requires.disk in
    subst (λ (v : Idle). IsWish c.args.wish.now v) (sym c.unencrypted_volume.ensures)
    (subst (λ o. IsSomeAnd o (IsWish c.args.wish.now)) (idle-disk c.args.wish.now sizes some)
    c.requires.wish)

pub returns : goal.returns
returns c =
    let sizes = c.args.sizes.now in
    let w = c.args.wish.now in
    let some = some-atom sizes.atom (all_atoms sizes) c.requires.disk in
    subst (λ o. IfOk c.begin_from.result
    (λ next. IsSomeAnd o (λ v. IsStarted sizes w (unencrypted w) v next)))
    (sym (idle-disk w sizes some))
    (subst (λ (v : Idle). IfOk c.begin_from.result (IsStarted sizes w (unencrypted w) v))
    c.unencrypted_volume.ensures
    (subst (λ (m : Parts). IfOk c.begin_from.result
    (IsStarted sizes w m c.unencrypted_volume.result)) c.in_ok-parts.ensures c.begin_from.ensures))
