use Rattle.std.proofs.Common.{arith}
use Rattle.luks_rules.proofs.PlanLemmas.{number_fails, number_goes, numbers_end}
use Rattle.luks_rules.proofs.shape.is_numbered.Goals as goal

pub returns-then-extent-next : goal.returns-then-extent-next
returns-then-extent-next c =
    number_fails c.args.extents.now c.loop-extent.extent-index c.loop-extent.next _
    c.loop-extent-test.true c.if-extent-next.true c.loop-extent.invariant.rest

pub loop-extent-preserved : goal.loop-extent-preserved
loop-extent-preserved c = record {
  counted = omega arith;
  rest = number_goes c.args.extents.now c.loop-extent.extent-index c.loop-extent.next _
      c.loop-extent-test.true c.if-extent-next.false c.loop-extent.invariant.rest;
}

pub returns : goal.returns
returns c =
    numbers_end c.args.extents.now c.loop-extent.extent-index c.loop-extent.next
    c.loop-extent-test.false c.loop-extent.invariant.rest
