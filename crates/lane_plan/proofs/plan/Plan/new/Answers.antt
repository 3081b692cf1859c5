use Rattle.std.proofs.Common.{None, rules, ◌*◌, ◌∙◌, ◌≡◌}
use Rattle.volume_machine.specs.Asks.{wrong_ask}
use Rattle.lane_plan.specs.{Calls.ask_of, Plans.part_of}
use Rattle.lane_plan.proofs.PlanBegins.{awaits-admit}
use Rattle.lane_plan.proofs.plan.Plan.new.Goals as goal

pub returns-clause-awaits : goal.returns-clause-awaits
returns-clause-awaits c = λ seals alone none.
    let proper : wrong_ask c.args.shape.atom (c.args.shape.blocks * c.args.shape.atom)
    (ask_of c.args.op) ≡ None = search rules in
    let room : c.min-room.result ≡ part_of c.args.shape.atom (ask_of c.args.op) = search rules in
    awaits-admit _ c.args.op c.args.session c.args.shape c.whole_of.result
    c.args.part c.buffered-len.result c.min-room.result none c.of.ensures.session (c.of.ensures.asks
    ∙ c.ask_of-ask.ensures) c.of.ensures.stage c.of.ensures.shape
    c.requires proper c.whole_of.ensures.body (c.of.ensures.zeroes ∙ c.is_zeroes-zeroes.ensures)
    (λ zeroes. rw c.of.ensures.whole
    (c.with_zeros-whole.ensures.zeros (c.is_zeroes-zeroes.ensures ∙ zeroes)))
    c.buffered-len.ensures
    (rw c.of.ensures.whole (c.with_zeros-whole.ensures.length ∙ c.in_ok-whole.ensures.long))
    (λ other. rw (
      c.of.ensures.whole,
      c.with_zeros-whole.ensures.same (c.is_zeroes-zeroes.ensures ∙ other),
    ) c.in_ok-whole.ensures.front)
    (rw c.of.ensures.part c.in_ok-part.ensures.long) room
