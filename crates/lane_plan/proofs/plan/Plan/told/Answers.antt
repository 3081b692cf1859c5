use Rattle.lane_plan.proofs.PlanBegins.{back-held, fewer-held, goes-by, goes-waiting, told-by}
use Rattle.lane_plan.proofs.PlanEnds.{done-where, goes-refused}
use Rattle.lane_plan.proofs.plan.Plan.told.Goals as goal

pub go_on-requires-clause-back : goal.go_on-requires-clause-back
go_on-requires-clause-back g c κs within =
    told-by _ c.args.self.now _ _ c.in-Held.grant.map (back-held _ c.args.self.now
    c.new-self.result c.in-Held.grant c.new-self.ensures) (rw c.in-Held.is at c.requires.told)

pub returns-in-Held-clause-goes : goal.returns-in-Held-clause-goes
returns-in-Held-clause-goes g c = rw c.in-Held.is
    (goes-by _ c.args.self.now _ c.go_on.new.self _ c.in-Held.grant.map c.go_on.result (back-held
    _ c.args.self.now c.new-self.result c.in-Held.grant c.new-self.ensures) c.go_on.ensures.awaits)

pub returns-in-Held-clause-fewer : goal.returns-in-Held-clause-fewer
returns-in-Held-clause-fewer g c =
    Rattle.std.proofs.Common.inr (fewer-held _ c.args.self.now c.go_on.new.self c.in-Held.grant
    (rw c.in-Held.is at c.requires.told) (rw c.new-self.ensures at c.go_on.ensures.fewer))

pub returns-in-Waiting-clause-goes : goal.returns-in-Waiting-clause-goes
returns-in-Waiting-clause-goes g c =
    rw c.in-Waiting.is (goes-waiting _ c.args.self.now c.in-Waiting.field-0)

pub returns-in-Refused-clause-goes : goal.returns-in-Refused-clause-goes
returns-in-Refused-clause-goes g c = rw (c.in-Refused.is, c.reply.ensures.next, c.reply.ensures.is)
    (goes-refused _ c.args.self.now c.in-Refused.number)

pub unreachable-requires : goal.unreachable-requires
unreachable-requires g c = done-where _ c.args.self.now
    (rw c.in-Done.is at c.requires.told) c.in_default.not-Settling c.in_default.not-Ending
