use Rattle.std.proofs.Common.{sym, ◌∙◌}
use Rattle.lane_plan.proofs.PlanEnds.{ends-settled, fewer-settled, goes-settled}
use Rattle.lane_plan.proofs.plan.Plan.settled.Goals as goal

pub returns-in-Some-clause-goes : goal.returns-in-Some-clause-goes
returns-in-Some-clause-goes c = λ seals.
    rw (c.end.ensures.next, c.end.ensures.is) (goes-settled seals c.args.self.now _ c.requires
    (rw c.settling.ensures at (sym c.after_settle.ensures ∙ c.in-Some.is)))

pub returns-in-Some-clause-fewer : goal.returns-in-Some-clause-fewer
returns-in-Some-clause-fewer c = rw (c.end.ensures.next, c.end.ensures.is)
    (fewer-settled c.args.self.now _ c.requires)

pub returns-in-None-clause-goes : goal.returns-in-None-clause-goes
returns-in-None-clause-goes c =
    λ seals. rw (c.reply.ensures.next, c.reply.ensures.is) (ends-settled seals c.args.self.now
    c.requires (rw c.settling.ensures at (sym c.after_settle.ensures ∙ c.in-None.is)))
