use Rattle.std.proofs.Common.{◌∙◌, ap₂, sym, subst}
use Rattle.luks_format.proofs.MetaLemmas.{meta-text}
use Rattle.luks_format.specs.Metadata.{digest_for, parts_with}
use Rattle.luks_meta.specs.Metas.{IsMeta}
use Rattle.luks_meta.specs.declared.meta.Parts.{Parts}
use Rattle.luks_format.proofs.metadata.make_meta.Goals as goal

pub new-requires : goal.new-requires
new-requires c =
    subst (λ (m : Parts). IsMeta m) (sym c.in_ok-parts.ensures)
    (meta-text c.args.wish.now c.in_ok-keyslot.keyslot c.in_ok-digest.digest c.requires.wish
    c.in_ok-keyslot.ensures.has_text c.in_ok-digest.ensures.has_text)

pub returns : goal.returns
unfolding digest_for
returns c =
    c.new.ensures ∙ c.in_ok-parts.ensures
    ∙ ap₂ (parts_with c.args.wish.now) c.in_ok-keyslot.ensures.is c.in_ok-digest.ensures.is
