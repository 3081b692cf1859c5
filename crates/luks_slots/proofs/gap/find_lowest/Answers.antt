use Rattle.std.proofs.Common.{◌∙◌, ◌+◌, sym, arith, ap, drop, max}
use Rattle.luks_slots.specs.Gaps.{lowest_in}
use Rattle.luks_slots.proofs.GapSteps.{lowest-here, lowest-last, lowest-later, lowest-none}
use Rattle.luks_slots.proofs.gap.find_lowest.Goals as goal

pub returns-then-wanted-saturating_sub-clause-is :
    goal.returns-then-wanted-saturating_sub-clause-is
returns-then-wanted-saturating_sub-clause-is c =
    sym (sym c.loop-area.invariant
    ∙ lowest-here _ _ _ c.loop-area.area-index c.loop-area.place c.args.wanted (omega arith)
    (omega arith))

pub loop-area-preserved : goal.loop-area-preserved
loop-area-preserved c =
    sym (lowest-later c.args.bounds.atom c.args.bounds.end c.args.areas.now c.loop-area.area-index
    c.loop-area.place c.args.wanted
    (omega arith) (omega arith)
    ∙ ap (λ n. lowest_in c.args.bounds.atom c.args.bounds.end c.args.wanted n
    (drop (c.loop-area.area-index + 1) c.args.areas.now))
    (sym (c.max-place.ensures ∙ ap (λ n. max c.loop-area.place n) c.round_up.ensures)))
    ∙ c.loop-area.invariant

pub returns-then-wanted-saturating_sub-2-clause-is :
    goal.returns-then-wanted-saturating_sub-2-clause-is
returns-then-wanted-saturating_sub-2-clause-is c =
    sym (sym c.loop-area.invariant
    ∙ lowest-last _ _ _ c.loop-area.area-index c.loop-area.place c.args.wanted (omega arith)
    (omega arith))

pub returns-else-wanted-saturating_sub-2-clause-is :
    goal.returns-else-wanted-saturating_sub-2-clause-is
returns-else-wanted-saturating_sub-2-clause-is c =
    sym (sym c.loop-area.invariant
    ∙ lowest-none _ _ _ c.loop-area.area-index c.loop-area.place c.args.wanted (omega arith)
    (omega arith))
