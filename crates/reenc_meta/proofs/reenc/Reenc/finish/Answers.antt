use Rattle.std.proofs.Common.{◌≡◌, ◌∙◌, ◌*◌, ◌<◌, ◌^◌, map, not, sym, ap, subst}
use Rattle.std.specs.List.{filter}
use Rattle.base_terms.specs.declared.disk_sizes.Sizes.{Sizes}
use Rattle.luks_meta.specs.Metas.{IsMeta}
use Rattle.luks_meta.specs.declared.meta.Parts.{Parts}
use Rattle.luks_rules.specs.Plans.{blocks_in}
use Rattle.reenc_meta.specs.Finishes.{IsFinished, finished, finished_digest, finished_segment}
use Rattle.reenc_meta.specs.Finishes.{is_dropped, is_new_whole, is_old_digest, requirements_after}
use Rattle.reenc_meta.specs.Finishes.{token_kept}
use Rattle.reenc_meta.proofs.StepLemmas.{Ends, ends, finished-parts, main-few, makes-new}
use Rattle.reenc_meta.proofs.reenc.Reenc.finish.Goals as goal
use Rattle.reenc_meta.proofs.reenc.Reenc.finish.Goals.{After-as_slice-3, In_ok-copy-2}

ending : (c : After-as_slice-3) → Ends c.args.self.now.valid.now.meta
    c.args.self.now.valid.now.sizes c.args.self.now.progress
ending c =
    ends c.args.self.now.valid.now.meta c.args.self.now.valid.now.sizes c.args.self.now.progress
    (subst (λ (x : Parts). IsMeta x) c.meta.ensures c.parts-parts.ensures.right)
    c.is_sound.ensures c.args.self.now.known
    (main-few c.args.self.now.valid.now.sizes c.args.self.now.fits) c.requires

pub keep_segment-requires : goal.keep_segment-requires
keep_segment-requires c = record {
  few = (ending c).few;
  bytes = subst (λ (s : Sizes). blocks_in c.args.self.now.progress.plan * s.atom < 2 ^ 64)
      (sym c.sizes-sizes.ensures.sizes) (ending c).bytes;
}

-- the parts are those with which the conversion ends
ended : (c : In_ok-copy-2) → ◌≡◌ {A = Parts}
    (record {
      keyslots = c.in_ok-keep_slots.field-0;
      tokens = c.in_ok-keep_tokens.field-0;
      segments = c.in_ok-keep_segment.field-0;
      digests = c.in_ok-keep_digests.field-0;
      config =
          record {
            json_size = c.parts-parts.result.now.config.json_size;
            keyslots_size = c.parts-parts.result.now.config.keyslots_size;
            requirements = c.in_ok-keep_requirements.field-0;
            rest = c.in_ok-copy.field-0;
          };
      rest = c.in_ok-copy-2.field-0;
    })
    (finished c.args.self.now.valid.now.sizes c.args.self.now.progress
    c.args.self.now.valid.now.meta)
ended c =
    let m = c.args.self.now.valid.now.meta in
    let p = c.args.self.now.progress in
    let same = c.parts-parts.ensures.same ∙ c.meta.ensures in
    let sizes = c.sizes-sizes.ensures.sizes in
    let digests = c.as_slice-digests.ensures ∙ ap (λ (x : Parts). x.digests) same in
    let slots = c.as_slice.ensures ∙ ap (λ (x : Parts). x.keyslots) same in
    let tokens = c.as_slice-2.ensures ∙ ap (λ (x : Parts). x.tokens) same in
    let segments = c.as_slice-3.ensures ∙ ap (λ (x : Parts). x.segments) same in
    let requirements = c.in_ok-keep_requirements.ensures
    ∙ ap (λ (x : Parts). requirements_after x.config.requirements) same in
    let rest = c.in_ok-copy.ensures ∙ ap (λ (x : Parts). x.config.rest) same in
    finished-parts m c.args.self.now.valid.now.sizes p _
    (c.in_ok-keep_slots.ensures
    ∙ (λ i. filter (λ slot. not (is_dropped p (digests i) slot.0)) (slots i)))
    (c.in_ok-keep_tokens.ensures
    ∙ (λ i. map (λ t. (t.0, token_kept (is_dropped p (digests i)) t.1)) (tokens i)))
    (c.in_ok-keep_segment.ensures
    ∙ (λ i. map (finished_segment (sizes i) p) (filter (is_new_whole p) (segments i))))
    (c.in_ok-keep_digests.ensures
    ∙ (λ i. map (finished_digest p) (filter (λ d. not (is_old_digest p d)) (digests i))))
    (λ i. record {
      json_size = (same i).config.json_size;
      keyslots_size = (same i).config.keyslots_size;
      requirements = requirements i;
      rest = rest i;
    })
    (c.in_ok-copy-2.ensures ∙ ap (λ (x : Parts). x.rest) same)

pub new-requires : goal.new-requires
new-requires c =
    subst (λ (x : Parts). IsMeta x) (sym (ended c))
    (ending (goal.at.new-requires c).After-as_slice-3).meta

pub returns : goal.returns
returns c =
    let m = c.args.self.now.valid.now.meta in
    let sizes = c.args.self.now.valid.now.sizes in
    let p = c.args.self.now.progress in
    let done = subst (IsFinished m sizes p)
    (sym (c.new.ensures ∙ ended (goal.at.returns c).In_ok-copy-2))
    (ending (goal.at.returns c).After-as_slice-3).ended in
    record { is = done; map = makes-new m sizes p c.new.result done }
