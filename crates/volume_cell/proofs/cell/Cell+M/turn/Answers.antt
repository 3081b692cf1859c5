use Rattle.std.proofs.Common.{◌-◌, ◌^◌, ◌<◌, arith, ◌∙◌, subst}
use Rattle.volume_cell.proofs.Asked.{can-act, may-give, asked-pass, asked-same, asked-answer}
use Rattle.volume_cell.proofs.Asked.{asked-own, asked-calls, asked-stood}
use Rattle.volume_cell.proofs.cell.Cell+M.turn.Goals as goal

pub act-outcome-requires-clause-can : goal.act-outcome-requires-clause-can
act-outcome-requires-clause-can g c κs within =
    can-act g.M.Machine.start g.M.Machine.stands_for _ _ _ _ _ c.if-not-take.ensures c.requires.fits

pub fetch_add-requires : goal.fetch_add-requires
fetch_add-requires g c = let t = c.if-not-take.ensures in let a = c.act-outcome.ensures in (
  a.table ∙ (t.table ∙ c.requires.pass.table),
  omega (arith, c.args.self.now.sizes.0),
  may-give g.M.Machine.start g.M.Machine.stands_for _ _ _ _ _ _ _ _ t a _
      (subst (λ n. n < 2 ^ 63 - 1) c.args.self.now.terms.0 c.args.self.now.terms.1),
)

pub returns-clause-pass : goal.returns-clause-pass
returns-clause-pass g c =
    asked-pass g.M.Machine.start g.M.Machine.stands_for _
    c.args.self.now.table.shared.table_id.slots c.fetch_add.result c.args.pass.now c.take.new.pass
    c.act-outcome.new.pass c.wake-woke.new.pass c.args.event c.act-outcome.result c.if-not-take.ensures
    c.act-outcome.ensures (λ h n i k. c.wake-woke.ensures.is ∙ c.fetch_add.ensures.2 h n i k)
    (c.wake-woke.ensures.table ∙ c.fetch_add.ensures.0) _ c.requires.pass

pub returns-clause-same : goal.returns-clause-same
returns-clause-same g c =
    asked-same g.M.Machine.start g.M.Machine.stands_for _
    c.args.self.now.table.shared.table_id.slots c.fetch_add.result c.args.pass.now c.take.new.pass
    c.act-outcome.new.pass c.wake-woke.new.pass c.args.event c.act-outcome.result c.if-not-take.ensures
    c.act-outcome.ensures (λ h n i k. c.wake-woke.ensures.is ∙ c.fetch_add.ensures.2 h n i k)
    (c.wake-woke.ensures.table ∙ c.fetch_add.ensures.0)

pub returns-clause-answer : goal.returns-clause-answer
returns-clause-answer g c =
    asked-answer g.M.Machine.start g.M.Machine.stands_for _
    c.args.self.now.table.shared.table_id.slots c.fetch_add.result c.args.pass.now c.take.new.pass
    c.act-outcome.new.pass c.wake-woke.new.pass c.args.event c.act-outcome.result c.if-not-take.ensures
    c.act-outcome.ensures (λ h n i k. c.wake-woke.ensures.is ∙ c.fetch_add.ensures.2 h n i k)
    (c.wake-woke.ensures.table ∙ c.fetch_add.ensures.0)

pub returns-clause-own : goal.returns-clause-own
returns-clause-own g c =
    asked-own g.M.Machine.start g.M.Machine.stands_for _ c.args.self.now.table.shared.table_id.slots
    c.fetch_add.result c.args.pass.now c.take.new.pass c.act-outcome.new.pass c.wake-woke.new.pass
    c.args.event c.act-outcome.result c.if-not-take.ensures c.act-outcome.ensures
    (λ h n i k. c.wake-woke.ensures.is ∙ c.fetch_add.ensures.2 h n i k)
    (c.wake-woke.ensures.table ∙ c.fetch_add.ensures.0)

pub returns-clause-calls : goal.returns-clause-calls
returns-clause-calls g c =
    asked-calls g.M.Machine.start g.M.Machine.stands_for _
    c.args.self.now.table.shared.table_id.slots c.fetch_add.result c.args.pass.now c.take.new.pass
    c.act-outcome.new.pass c.wake-woke.new.pass c.args.event c.act-outcome.result c.if-not-take.ensures
    c.act-outcome.ensures (λ h n i k. c.wake-woke.ensures.is ∙ c.fetch_add.ensures.2 h n i k)
    (c.wake-woke.ensures.table ∙ c.fetch_add.ensures.0)

pub returns-clause-stood : goal.returns-clause-stood
returns-clause-stood g c =
    asked-stood g.M.Machine.start g.M.Machine.stands_for _
    c.args.self.now.table.shared.table_id.slots c.fetch_add.result c.args.pass.now c.take.new.pass
    c.act-outcome.new.pass c.wake-woke.new.pass c.args.event c.act-outcome.result c.if-not-take.ensures
    c.act-outcome.ensures (λ h n i k. c.wake-woke.ensures.is ∙ c.fetch_add.ensures.2 h n i k)
    (c.wake-woke.ensures.table ∙ c.fetch_add.ensures.0)
