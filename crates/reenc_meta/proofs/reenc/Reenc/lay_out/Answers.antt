use Rattle.std.proofs.Common.{◌≡◌, ◌∙◌, map, sym, ap, subst}
use Rattle.std.specs.List.{All}
use Rattle.base_terms.specs.declared.disk_sizes.Sizes.{Sizes}
use Rattle.luks_meta.specs.Metas.{IsMeta}
use Rattle.luks_meta.specs.declared.meta.Parts.{Parts}
use Rattle.reenc_meta.specs.Layouts.{HasPlace, laid_out_by, listed_by, segments_by, whole_on}
use Rattle.reenc_meta.specs.Layouts.{wholes_of}
use Rattle.reenc_meta.specs.Moves.{IsGoneTo}
use Rattle.reenc_meta.specs.Runs.{sides_of}
use Rattle.reenc_meta.proofs.GoLemmas.{GoesOn, goes-on}
use Rattle.reenc_meta.proofs.StepLemmas.{laid-parts, main-few}
use Rattle.reenc_meta.proofs.reenc.Reenc.lay_out.Goals as goal
use Rattle.reenc_meta.proofs.reenc.Reenc.lay_out.Goals.{After-as_slice-3, In_ok-copy-2}

going : (c : After-as_slice-3) → GoesOn c.args.self.now.valid.now.meta
    c.args.self.now.valid.now.sizes c.args.self.now.progress c.args.plan.now
going c =
    goes-on c.args.self.now.valid.now.meta c.args.self.now.valid.now.sizes
    c.args.self.now.progress c.args.plan.now
    (subst (λ (x : Parts). IsMeta x) c.meta.ensures c.parts-parts.ensures.right)
    c.is_sound.ensures c.args.self.now.known
    (main-few c.args.self.now.valid.now.sizes c.args.self.now.fits) c.requires

pub list_segments-requires : goal.list_segments-requires
list_segments-requires c =
    let p = c.args.self.now.progress in
    subst (λ (s : Sizes).
    All (λ run. HasPlace s.atom (whole_on p run.side) run) c.as_slice-3.result.now)
    (sym c.sizes-atom.ensures.sizes)
    (subst (All (λ run. HasPlace c.args.self.now.valid.now.sizes.atom (whole_on p run.side) run))
    (sym (c.as_slice-3.ensures.value ∙ c.in_ok-runs.ensures)) (going c).placed)

-- the parts are those that the plan lays out
laid : (c : In_ok-copy-2) → ◌≡◌ {A = Parts}
    (record {
      keyslots = c.in_ok-copy_entries.field-0;
      tokens = c.in_ok-copy_entries-2.field-0;
      segments = c.in_ok-segments.segments;
      digests = c.new.result;
      config = c.in_ok-copy.field-0;
      rest = c.in_ok-copy-2.field-0;
    })
    (laid_out_by c.args.self.now.valid.now.sizes.atom c.args.self.now.progress c.args.plan.now
    c.args.self.now.valid.now.meta)
laid c =
    let m = c.args.self.now.valid.now.meta in
    let p = c.args.self.now.progress in
    let same = c.parts-parts.ensures.same ∙ c.meta.ensures in
    let atom = ap (λ (s : Sizes). s.atom) c.sizes-atom.ensures.sizes in
    let first = c.as_slice.ensures.value ∙ c.in_ok-runs.ensures in
    let runs = c.as_slice-3.ensures.value ∙ c.in_ok-runs.ensures in
    let sides = c.as_slice-4.ensures.value ∙ c.in_ok-sides.ensures ∙ ap sides_of first in
    let wholes = c.in_ok-wholes.ensures
    ∙ ap (wholes_of p) (c.as_slice-2.ensures ∙ ap (λ (x : Parts). x.segments) same) in
    let digests = c.as_slice-5.ensures ∙ ap (λ (x : Parts). x.digests) same in
    laid-parts m c.args.self.now.valid.now.sizes.atom p c.args.plan.now _
    (c.in_ok-copy_entries.ensures ∙ c.as_slice-6.ensures ∙ ap (λ (x : Parts). x.keyslots) same)
    (c.in_ok-copy_entries-2.ensures ∙ c.as_slice-7.ensures ∙ ap (λ (x : Parts). x.tokens) same)
    (c.in_ok-segments.ensures
    ∙ (λ i. segments_by (atom i) p (runs i) (wholes i)))
    (c.new.ensures ∙ c.in_ok-digests.ensures ∙ (λ i. map (listed_by p (sides i)) (digests i)))
    (c.in_ok-copy.ensures ∙ ap (λ (x : Parts). x.config) same)
    (c.in_ok-copy-2.ensures ∙ ap (λ (x : Parts). x.rest) same)

pub new-requires-2 : goal.new-requires-2
new-requires-2 c =
    subst (λ (x : Parts). IsMeta x) (sym (laid c))
    (going (goal.at.new-requires-2 c).After-as_slice-3).meta

pub returns : goal.returns
returns c =
    subst (IsGoneTo c.args.self.now.valid.now.meta c.args.self.now.valid.now.sizes
    c.args.self.now.progress c.args.plan.now)
    (sym (c.new-2.ensures ∙ laid (goal.at.returns c).In_ok-copy-2))
    (going (goal.at.returns c).After-as_slice-3).gone
