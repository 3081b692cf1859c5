use Rattle.std.proofs.Common.{ℕ, List, ◌++◌, ap, ◌∙◌, arith}
use Rattle.demo_clients.proofs.InputLemmas.{front-none, front-more, front-all}
use Rattle.demo_clients.proofs.contents.put_block.Goals as goal

pub loop-place-init : goal.loop-place-init
loop-place-init c = front-none c.args.seed c.args.block c.args.bytes.now.items

pub loop-place-preserved : goal.loop-place-preserved
loop-place-preserved c =
    c.in_ok-push.ensures.items
    ∙ front-more c.args.seed c.args.block c.loop-place.place _ c.loop-place.bytes.items
    c.args.bytes.now.items c.loop-place.invariant (omega (arith, c.from.ensures))

pub returns : goal.returns
returns c =
    c.loop-place.invariant
    ∙ ap (λ (xs : List ℕ). c.args.bytes.now.items ++ xs)
    (front-all c.args.seed c.args.block c.loop-place.place (omega arith))
