use Rattle.std.proofs.Common.{◌∙◌, ◌+◌, arith, ap, drop, max}
use Rattle.luks_slots.specs.Gaps.{widest_in}
use Rattle.luks_slots.proofs.GapSteps.{widest-at, widest-last}
use Rattle.luks_slots.proofs.gap.find_widest.Goals as goal

pub loop-area-preserved : goal.loop-area-preserved
loop-area-preserved c =
    let step =
    widest-at c.args.bounds.atom c.args.bounds.end c.args.areas.now c.loop-area.area-index
    c.loop-area.place (omega arith) in
    let next =
    ap (λ n. widest_in c.args.bounds.atom c.args.bounds.end n
    (drop (c.loop-area.area-index + 1) c.args.areas.now))
    (c.max-place.ensures ∙ ap (λ n. max c.loop-area.place n) c.round_up.ensures) in
    let so_far = c.loop-area.invariant in
    omega (arith, step, next, so_far)

pub returns : goal.returns
returns c =
    let last =
    widest-last c.args.bounds.atom c.args.bounds.end c.args.areas.now c.loop-area.area-index
    c.loop-area.place (omega arith) in
    let all = c.loop-area.invariant in
    omega (arith, last, all)
