use Rattle.std.proofs.Common.{◌∙◌}
use Rattle.lane_plan.proofs.PlanBegins.{awaits-refusal}
use Rattle.lane_plan.proofs.plan.Plan.refused.Goals as goal

pub returns-clause-awaits : goal.returns-clause-awaits
returns-clause-awaits c = λ seals alone none. awaits-refusal c.of.result c.args.op c.args.session
    none c.of.ensures.session (c.of.ensures.asks ∙ c.ask_of-ask.ensures) c.of.ensures.stage
