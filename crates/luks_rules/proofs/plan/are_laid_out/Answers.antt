use Rattle.std.proofs.Common.{◌∙◌, ◌+◌, drop, ap}
use Rattle.luks_rules.specs.Plans.{laid_out}
use Rattle.luks_rules.proofs.PlanLemmas.{part_fails, part_goes, part_skips, parts_end}
use Rattle.luks_rules.proofs.plan.are_laid_out.Goals as goal
use Rattle.luks_rules.proofs.plan.are_laid_out.Goals.{then-part-ne0+else-not-begin_with}
use Rattle.luks_rules.proofs.plan.are_laid_out.Goals.{else-part-ne0}

pub returns-then-not-begin_with : goal.returns-then-not-begin_with
returns-then-not-begin_with c =
    part_fails c.args.atom c.args.parts.now c.loop-part.part-index _ c.loop-part.rest.now
    c.args.live.now c.loop-part-test.true c.if-part-ne0.true c.if-not-begin_with.ensures
    c.loop-part.invariant

pub loop-part-preserved : goal.loop-part-preserved
loop-part-preserved c = elim c.if-part-ne0.branch [
  | then-part-ne0+else-not-begin_with w ↦
      ap (λ r. laid_out c.args.atom (drop (c.loop-part.part-index + 1) c.args.parts.now) r.now)
      w.rest-is
      ∙ ap (λ r. laid_out c.args.atom (drop (c.loop-part.part-index + 1) c.args.parts.now) r)
      w.behind_first-rest.ensures
      ∙ part_goes c.args.atom c.args.parts.now c.loop-part.part-index _ c.loop-part.rest.now
      c.args.live.now c.loop-part-test.true w.if-part-ne0.true w.if-not-begin_with.ensures
      c.loop-part.invariant
  | else-part-ne0 w ↦
      ap (λ r. laid_out c.args.atom (drop (c.loop-part.part-index + 1) c.args.parts.now) r.now)
      w.rest-is
      ∙ part_skips c.args.atom c.args.parts.now c.loop-part.part-index _ c.loop-part.rest.now
      c.args.live.now c.loop-part-test.true w.if-part-ne0.false c.loop-part.invariant
]

pub returns : goal.returns
returns c =
    c.is_empty.ensures
    ∙ parts_end c.args.atom c.args.parts.now c.loop-part.part-index c.loop-part.rest.now
    c.args.live.now c.loop-part-test.false c.loop-part.invariant
