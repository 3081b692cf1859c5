use Rattle.std.proofs.Common.{◌≡◌, ◌∙◌, ℕ, suc, ◌-◌, [], ◌++◌, ap, sym, subst, arith}
use Rattle.std.proofs.Common.{append-nil, append_assoc}
use Rattle.demo_clients.proofs.FirstReplyLemmas.{IsTaken, taken-all, taken-more, taken-none, taken-not}
use Rattle.demo_clients.proofs.replies.take_replies.Goals as goal

pub replies-init : goal.replies-init
replies-init c = (
  [],
  sym (append-nil c.args.content.now.items),
  λ left is. subst (λ (n : ℕ). IsTaken c.args.count n c.args.size c.args.text.now [] c.args.text.now)
      (let e : c.args.count ≡ left = omega (arith, is) in e)
      (taken-none c.args.count c.args.size c.args.text.now),
)

pub returns-in_default : goal.returns-in_default
returns-in_default c own behind are =
    let so_far = c.replies.invariant in
    taken-not c.args.count (c.args.count - c.replies.counter - 1) c.args.size c.args.text.now
    so_far.0 c.replies.rest.now
    (so_far.2 (suc (c.args.count - c.replies.counter - 1)) (omega (arith, c.replies-test.true)))
    c.in_default.ensures own behind are

pub replies-preserved : goal.replies-preserved
replies-preserved c =
    let so_far = c.replies.invariant in (
      so_far.0 ++ c.in-Some.own.now,
      c.in_ok-extend_from_slice.ensures.items
          ∙ ap (λ text. text ++ c.in-Some.own.now) so_far.1
          ∙ append_assoc c.args.content.now.items so_far.0 c.in-Some.own.now,
      λ left is. taken-more c.args.count left c.args.size c.args.text.now so_far.0
          c.replies.rest.now c.in-Some.own.now c.in-Some.behind.now
          (so_far.2 (suc left) (omega (arith, is))) c.in-Some.ensures,
    )

pub returns : goal.returns
returns c =
    let so_far = c.replies.invariant in (
      so_far.0,
      so_far.1,
      taken-all c.args.count c.args.size c.args.text.now so_far.0 c.replies.rest.now
          (so_far.2 0 (omega (arith, c.replies-test.false, c.replies.auto.counter-end))),
    )
