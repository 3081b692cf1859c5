use Rattle.std.proofs.Common.{◌∙◌, ◌≤◌, length, take, ap, arith, subst}
use Rattle.demo_clients.proofs.FirstReplyLemmas.{first-granted, first-long, first-magic, first-reply}
use Rattle.demo_clients.proofs.replies.first_reply.Goals as goal

pub returns-in_default : goal.returns-in_default
returns-in_default c own behind first = omega (
  arith,
  first-long c.args.size c.args.text.now own behind first,
  c.in_default.ensures.cases,
)

pub returns-in_default-read : goal.returns-in_default-read
returns-in_default-read c own behind first =
    let refused = c.in_default-read.ensures.refused in
    refused.1 (first-magic c.args.size c.args.text.now own behind c.in_default-read.field-0.number
    first (refused.0 ∙ ap (λ head. take 4 head) c.in-Some.ensures.cases.0)
    c.in_default-read.ensures.fits)

pub returns-then-head-ne0 : goal.returns-then-head-ne0
returns-then-head-ne0 c own behind first =
    let taken = c.in-Ok.ensures.taken in
    c.if-head-ne0.true (first-granted c.args.size c.args.text.now own behind c.in-Ok.head first
    (taken.1 ∙ c.in-Some.ensures.cases.0) taken.0.error)

pub returns-then-rest-size : goal.returns-then-rest-size
returns-then-rest-size c own behind first = omega (
  arith,
  first-long c.args.size c.args.text.now own behind first,
  c.in-Some.ensures.cases.2,
  c.if-rest-size.true,
)

pub returns : goal.returns
returns c =
    let rest = c.in-Some.ensures.cases.1 in
    let enough = subst (λ xs. c.args.size ≤ length xs) rest c.if-rest-size.false in
    rw (c.split_at.ensures.front, c.split_at.ensures.back, rest)
    (first-reply c.args.size c.args.text.now c.in-Ok.head
    (c.in-Ok.ensures.taken.1 ∙ c.in-Some.ensures.cases.0) c.if-head-ne0.false enough)
