use Rattle.std.proofs.Common.{◌∙◌}
use Rattle.lane_plan.proofs.PlanEnds.{content-is, done-is, failure-is, goes-finished, has-content}
use Rattle.lane_plan.proofs.PlanEnds.{has-place-at}
use Rattle.lane_plan.proofs.plan.Plan.finished.Goals as goal

pub returns-then-self-clause-goes : goal.returns-then-self-clause-goes
returns-then-self-clause-goes c = λ seals. rw (c.reply.ensures.next, c.reply.ensures.is)
    (goes-finished seals c.args.self.now _ _ _ c.requires.stage
    (λ op alone ending. c.failure.ensures
    ∙ failure-is c.args.self.now op alone ending c.if-self.true))

pub failure-requires : goal.failure-requires
failure-requires c = λ reading.
    let (seals, told) = c.requires.told in
    has-place-at seals c.args.self.now told c.requires.stage reading

pub into_text-content-requires : goal.into_text-content-requires
into_text-content-requires c =
    let (seals, told) = c.requires.told in
    rw c.taken.ensures.taken (has-content seals c.args.self.now c.in-Read.offset c.in-Read.length
    told c.requires.stage c.if-self.false c.in-Read.is)

pub returns-in-Read-clause-goes : goal.returns-in-Read-clause-goes
returns-in-Read-clause-goes c = λ seals. rw (
  c.taken.ensures.left,
  c.into_text-content.ensures,
  c.taken.ensures.taken,
  c.new-in-Read.ensures,
  c.new.ensures.items,
) (goes-finished seals c.args.self.now _ _ _ c.requires.stage (λ op alone ending. content-is
    c.args.self.now op alone c.in-Read.offset c.in-Read.length ending c.if-self.false c.in-Read.is))

pub returns-in-Write-clause-goes : goal.returns-in-Write-clause-goes
returns-in-Write-clause-goes c = λ seals.
    rw (c.reply-in-Write.ensures.next, c.reply-in-Write.ensures.is)
    (goes-finished seals c.args.self.now _ _ _ c.requires.stage (λ op alone ending. done-is
    c.args.self.now.shape.atom c.args.self.now.operation alone.plain c.if-self.false c.in-Write.is))
