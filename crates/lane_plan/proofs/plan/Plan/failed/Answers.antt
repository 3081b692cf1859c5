use Rattle.std.proofs.Common.{sym, ◌∙◌}
use Rattle.lane_plan.proofs.PlanEnds.{ends-failed, fewer-failed, goes-failed, some-settled}
use Rattle.lane_plan.proofs.plan.Plan.failed.Goals as goal

pub returns-in-Some-clause-goes : goal.returns-in-Some-clause-goes
returns-in-Some-clause-goes c = λ seals answer fails.
    rw (c.end.ensures.next, c.end.ensures.is) (goes-failed seals c.args.self.now _ answer fails
    (some-settled _ _ _ (rw c.failing.ensures at (sym c.after_settle.ensures ∙ c.in-Some.is))))

pub returns-in-Some-clause-fewer : goal.returns-in-Some-clause-fewer
returns-in-Some-clause-fewer c =
    let (seals, answer, fails, told) = c.requires in
    rw (c.end.ensures.next, c.end.ensures.is) (fewer-failed seals c.args.self.now _ answer fails
    told)

pub returns-in-None-clause-goes : goal.returns-in-None-clause-goes
returns-in-None-clause-goes c = λ seals
    answer fails. rw (c.reply.ensures.next, c.reply.ensures.is) (ends-failed seals c.args.self.now
    answer fails (rw c.failing.ensures at (sym c.after_settle.ensures ∙ c.in-None.is)))
