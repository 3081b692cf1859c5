use Rattle.std.proofs.Common.{arith}
use Rattle.lane_plan.specs.Plans.{calls_left}
use Rattle.lane_plan.proofs.PlanCourse.{last-finishes, last-settles}
use Rattle.lane_plan.proofs.plan.Plan.last_call.Goals as goal

pub returns-then-must_settle-clause-awaits : goal.returns-then-must_settle-clause-awaits
returns-then-must_settle-clause-awaits c = λ seals op alone map back.
    last-settles back (c.must_settle.ensures.0 c.if-must_settle.true) c.requires.all

pub returns-then-must_settle-clause-fewer : goal.returns-then-must_settle-clause-fewer
unfolding calls_left
returns-then-must_settle-clause-fewer c = omega arith

pub returns-clause-awaits : goal.returns-clause-awaits
returns-clause-awaits c = λ seals op alone map back. last-finishes back
    (λ must. (let yes = c.must_settle.ensures.1 must in absurd (cc))) c.requires.all

pub returns-clause-fewer : goal.returns-clause-fewer
unfolding calls_left
returns-clause-fewer c = omega arith
