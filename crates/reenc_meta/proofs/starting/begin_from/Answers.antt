use Rattle.std.proofs.Common.{◌≡◌, ◌∙◌, [], ◌∷◌, arith, subst, sym}
use Rattle.luks_meta.specs.Metas.{IsMeta}
use Rattle.reenc_meta.specs.Starts.{IsStarted}
use Rattle.reenc_meta.proofs.StartedLemmas.{is-started, only-one, started-meta}
use Rattle.reenc_meta.proofs.starting.begin_from.Goals as goal

pub new-requires : goal.new-requires
new-requires c =
    let more = c.in-len1.len_at_least in
    let less = c.in-len1.len_below in
    let one : c.args.parts.now.segments ≡ c.segment-item.result ∷ [] =
    sym c.as_slice.ensures
    ∙ only-one c.as_slice.result.now c.segment-item.result (omega (arith, more, less))
    c.segment-item.is in
    subst IsMeta (sym c.in_ok-begin-in-len1.ensures.is)
    (started-meta c.args.parts.now c.args.sizes.now c.args.wish.now c.args.idle.now
    c.segment-item.result c.requires.disk c.requires.parts c.requires.idle one c.requires.wish
    c.in_ok-begin-in-len1.ensures.numbers c.sizes_fit.ensures)

pub returns : goal.returns
returns c =
    let more = c.in-len1.len_at_least in
    let less = c.in-len1.len_below in
    let one : c.args.parts.now.segments ≡ c.segment-item.result ∷ [] =
    sym c.as_slice.ensures
    ∙ only-one c.as_slice.result.now c.segment-item.result (omega (arith, more, less))
    c.segment-item.is in
    subst (IsStarted c.args.sizes.now c.args.wish.now c.args.parts.now c.args.idle.now)
    (sym (c.new.ensures ∙ c.in_ok-begin-in-len1.ensures.is))
    (is-started c.args.parts.now c.args.sizes.now c.args.wish.now c.args.idle.now
    c.segment-item.result c.requires.disk c.requires.parts c.requires.idle one c.requires.wish
    c.in_ok-begin-in-len1.ensures.numbers)
