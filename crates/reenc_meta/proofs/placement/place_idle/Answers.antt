use Rattle.std.proofs.Common.{sym, ◌∙◌, subst}
use Rattle.base_terms.specs.declared.disk_sizes.Sizes.{Sizes}
use Rattle.luks_meta.specs.Metas.{IsMeta}
use Rattle.luks_meta.specs.declared.meta.Parts.{Parts}
use Rattle.reenc_meta.specs.Placements.{IsIdlePlacement}
use Rattle.reenc_meta.proofs.IdleLemmas.{placed_right}
use Rattle.reenc_meta.proofs.placement.place_idle.Goals as goal

pub returns-in-Some-clause-right : goal.returns-in-Some-clause-right
returns-in-Some-clause-right c =
    placed_right c.args.valid.now.meta c.args.valid.now.sizes c.in-Some.idle c.place_segment.result
    c.requires (subst (λ (m : Parts). IsMeta m) c.meta.ensures c.parts-parts.ensures.right)
    c.is_sound.ensures (sym c.idle.ensures ∙ c.in-Some.is)
    (subst (λ (s : Sizes). IsIdlePlacement s c.in-Some.idle c.place_segment.result)
    c.sizes-sizes.ensures.sizes c.place_segment.ensures)
