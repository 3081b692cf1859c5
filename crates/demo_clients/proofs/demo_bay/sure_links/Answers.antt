use Rattle.std.proofs.Common.{◌∙◌, ap, arith, length, sym}
use Rattle.std.proofs.lemmas.Iterator.Adapters.{YieldsList-from_vec}
use Rattle.std.proofs.lemmas.Iterator.Consumers.{YieldsList-end, YieldsList-turn}
use Rattle.std.proofs.lemmas.List.{map-id}
use Rattle.bays.specs.Memory.{Line}
use Rattle.demo_clients.proofs.demo_bay.sure_links.Goals as goal

pub new-requires : goal.new-requires
new-requires c =
    let b = c.into_iter-link-iterator.ensures.into_iter_gives in
    let at = YieldsList-turn (YieldsList-from_vec {s = c.into_iter-link-iterator.result}
    c.args.links.items b.0 (b.1 ∙ c.args.links.ok.0)) c.loop-link.yielded c.loop-link.link-iterator
    c.loop-link.yielded_by c.next.result c.next.new.self c.in-Some.link c.in-Some.is
    c.next.ensures.steps in
    ap (λ (line : Line). line.plan.fails) at.1
    ∙ c.requires.never (length c.loop-link.yielded) c.in-Some.link at.0

pub push_reserved-requires : goal.push_reserved-requires
push_reserved-requires c =
    let b = c.into_iter-link-iterator.ensures.into_iter_gives in
    let at = YieldsList-turn (YieldsList-from_vec {s = c.into_iter-link-iterator.result}
    c.args.links.items b.0 (b.1 ∙ c.args.links.ok.0)) c.loop-link.yielded c.loop-link.link-iterator
    c.loop-link.yielded_by c.next.result c.next.new.self c.in-Some.link c.in-Some.is
    c.next.ensures.steps in
    let same = ap (λ lines. length lines) c.loop-link.invariant.same in
    let room = c.loop-link.invariant.room in omega (arith, at.0, same, room)

pub returns : goal.returns
returns c =
    let b = c.into_iter-link-iterator.ensures.into_iter_gives in
    let all = YieldsList-end (YieldsList-from_vec {s = c.into_iter-link-iterator.result}
    c.args.links.items b.0 (b.1 ∙ c.args.links.ok.0)) c.loop-link.yielded
    c.loop-link.link-iterator c.loop-link.yielded_by c.next.result c.next.new.self c.in-None.is
    c.next.ensures.steps in
    c.loop-link.invariant.same ∙ (sym (map-id c.loop-link.yielded) ∙ all.0)
