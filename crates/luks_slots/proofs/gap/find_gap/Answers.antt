use Rattle.std.proofs.Common.{◌<◌, refl, sym, ◌∙◌, ap, subst, arith}
use Rattle.base_terms.specs.declared.disk_sizes.Sizes.{Sizes}
use Rattle.luks_meta.specs.declared.meta.Parts.{Parts}
use Rattle.luks_rules.specs.Overlaps.{IsInOrder}
use Rattle.luks_slots.proofs.GapLemmas.{lowest-by, no-room-by}
use Rattle.luks_slots.specs.Gaps.{runs_begin, runs_end, taken, widest_in}
use Rattle.luks_slots.proofs.gap.find_gap.Goals as goal

pub returns-in-Some : goal.returns-in-Some
returns-in-Some c =
    let m = c.args.valid.now.meta in
    let bounds = c.bounds_of-bounds.result in
    let parts = c.parts-parts.ensures.same ∙ c.meta.ensures in
    lowest-by m c.args.besides.now c.in-Ok.areas.items c.args.valid.now.sizes.atom
    (subst (λ (s : Sizes). 0 < s.atom) c.sizes.ensures.sizes c.sizes.ensures.some)
    (subst (λ (p : Parts). IsInOrder (taken p c.args.besides.now) c.in-Ok.areas.items) parts
    c.in-Ok.ensures)
    bounds.atom bounds.end bounds.begin c.args.wanted c.in-Some.place c.as_slice.result.now
    c.requires
    (c.bounds_of-bounds.ensures.atom ∙ ap (λ (s : Sizes). s.atom) c.sizes.ensures.sizes)
    (c.bounds_of-bounds.ensures.end ∙ ap (λ (p : Parts). runs_end p.config) parts)
    (c.bounds_of-bounds.ensures.begin
    ∙ ap (λ (p : Parts). runs_begin p.config c.sizes.result.atom) parts
    ∙ ap (λ n. runs_begin m.config n) (sym c.bounds_of-bounds.ensures.atom))
    c.as_slice.ensures.value (sym c.in-Some.ensures.is)

pub overflow_cast-result-in-None : goal.overflow_cast-result-in-None
overflow_cast-result-in-None c =
    let m = c.args.valid.now.meta in
    let bounds = c.bounds_of-bounds.result in
    let parts = c.parts-parts.ensures.same ∙ c.meta.ensures in
    let none = no-room-by m c.args.besides.now c.in-Ok.areas.items c.args.valid.now.sizes.atom
    (subst (λ (s : Sizes). 0 < s.atom) c.sizes.ensures.sizes c.sizes.ensures.some)
    (subst (λ (p : Parts). IsInOrder (taken p c.args.besides.now) c.in-Ok.areas.items) parts
    c.in-Ok.ensures)
    bounds.atom bounds.end bounds.begin c.args.wanted c.find_widest.result c.as_slice.result.now
    (c.bounds_of-bounds.ensures.atom ∙ ap (λ (s : Sizes). s.atom) c.sizes.ensures.sizes)
    (c.bounds_of-bounds.ensures.end ∙ ap (λ (p : Parts). runs_end p.config) parts)
    (c.bounds_of-bounds.ensures.begin
    ∙ ap (λ (p : Parts). runs_begin p.config c.sizes.result.atom) parts
    ∙ ap (λ n. runs_begin m.config n) (sym c.bounds_of-bounds.ensures.atom))
    c.as_slice.ensures.value (sym c.in-None.ensures.is)
    (c.find_widest.ensures
    ∙ ap (widest_in bounds.atom bounds.end bounds.begin)
    (c.as_slice-in-None.ensures.value ∙ sym c.as_slice.ensures.value)) in
    let short = none.0 in
    let fits = c.ranges.wanted.fits in
    omega (arith, short, fits)

pub returns : goal.returns
returns c =
    let m = c.args.valid.now.meta in
    let bounds = c.bounds_of-bounds.result in
    let parts = c.parts-parts.ensures.same ∙ c.meta.ensures in
    let none = no-room-by m c.args.besides.now c.in-Ok.areas.items c.args.valid.now.sizes.atom
    (subst (λ (s : Sizes). 0 < s.atom) c.sizes.ensures.sizes c.sizes.ensures.some)
    (subst (λ (p : Parts). IsInOrder (taken p c.args.besides.now) c.in-Ok.areas.items) parts
    c.in-Ok.ensures)
    bounds.atom bounds.end bounds.begin c.args.wanted c.find_widest.result c.as_slice.result.now
    (c.bounds_of-bounds.ensures.atom ∙ ap (λ (s : Sizes). s.atom) c.sizes.ensures.sizes)
    (c.bounds_of-bounds.ensures.end ∙ ap (λ (p : Parts). runs_end p.config) parts)
    (c.bounds_of-bounds.ensures.begin
    ∙ ap (λ (p : Parts). runs_begin p.config c.sizes.result.atom) parts
    ∙ ap (λ n. runs_begin m.config n) (sym c.bounds_of-bounds.ensures.atom))
    c.as_slice.ensures.value (sym c.in-None.ensures.is)
    (c.find_widest.ensures
    ∙ ap (widest_in bounds.atom bounds.end bounds.begin)
    (c.as_slice-in-None.ensures.value ∙ sym c.as_slice.ensures.value)) in
    (refl, none.0, none.1)
