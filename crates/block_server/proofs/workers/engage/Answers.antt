use Rattle.std.proofs.Common.{◌≡◌, ◌∙◌, ℕ, ◌<◌, Some, ap, arith, length, refl}
use Rattle.std.proofs.Common.{slice_index_or, ◌≤◌, IsSomeAnd, subst, sym}
use Rattle.std.proofs.lemmas.Iterator.Adapters.{YieldsList-from_vec}
use Rattle.std.proofs.lemmas.Iterator.Consumers.{YieldsList-end, YieldsList-turn}
use Rattle.std.proofs.lemmas.List.{get_or_default, length_push}
use Rattle.shared_volume.specs.Lanes.{IsOn}
use Rattle.volume_cell.specs.Passes.{known}
use Rattle.shared_volume.specs.Ciphers.{sector_of}
use Rattle.block_server.specs.Passing.{IsFirst}
use Rattle.block_server.proofs.EngagingLemmas.{are-engaged, engaged, engaged-more}
use Rattle.block_server.proofs.PassingLemmas.{first-split}
use Rattle.block_server.proofs.workers.engage.Goals as goal

pub loop-link-init : goal.loop-link-init
loop-link-init g c =
    let none = ap (λ l. length l) c.requires.none in record {
      number = refl;
      pass = c.requires.pass;
      first = c.requires.first;
      joined = c.requires.joined;
      start = refl;
      count = none;
      room = c.requires.room;
      ready = λ k slot below. absurd (omega (arith, below, none));
    }

pub split_off-lane-requires-clause-pass : goal.split_off-lane-requires-clause-pass
split_off-lane-requires-clause-pass g c = c.loop-link.invariant.pass

pub split_off-lane-requires-clause-first : goal.split_off-lane-requires-clause-first
split_off-lane-requires-clause-first g c = c.loop-link.invariant.first.name

pub split_off-lane-requires-clause-next : goal.split_off-lane-requires-clause-next
split_off-lane-requires-clause-next g c = c.loop-link.invariant.first.splits_are

pub split_off-lane-requires-clause-on : goal.split_off-lane-requires-clause-on
split_off-lane-requires-clause-on g c =
    let b = c.into_iter-link-iterator.ensures.into_iter_gives in
    let at = YieldsList-turn (YieldsList-from_vec {s = c.into_iter-link-iterator.result}
    c.args.links.items b.0 (b.1 ∙ c.args.links.ok.0)) c.loop-link.yielded c.loop-link.link-iterator
    c.loop-link.yielded_by c.next.result c.next.new.self c.in-Some.link c.in-Some.is
    c.next.ensures.steps in
    let is = c.loop-link.invariant.number in
    subst (λ start. IsSomeAnd start (IsOn sector_of c.loop-link.number c.args.keys
    c.args.shape)) (sym c.loop-link.invariant.start)
    (c.requires.on c.loop-link.number (omega (arith, is, at.0)))

pub put-requires : goal.put-requires
put-requires g c =
    let b = c.into_iter-link-iterator.ensures.into_iter_gives in
    let at = YieldsList-turn (YieldsList-from_vec {s = c.into_iter-link-iterator.result}
    c.args.links.items b.0 (b.1 ∙ c.args.links.ok.0)) c.loop-link.yielded c.loop-link.link-iterator
    c.loop-link.yielded_by c.next.result c.next.new.self c.in-Some.link c.in-Some.is
    c.next.ensures.steps in
    let is = c.loop-link.invariant.number in
    let count = c.loop-link.invariant.count in
    let room = c.loop-link.invariant.room in omega (arith, is, at.0, count, room)

pub overflow_add-number : goal.overflow_add-number
overflow_add-number g c =
    let b = c.into_iter-link-iterator.ensures.into_iter_gives in
    let at = YieldsList-turn (YieldsList-from_vec {s = c.into_iter-link-iterator.result}
    c.args.links.items b.0 (b.1 ∙ c.args.links.ok.0)) c.loop-link.yielded c.loop-link.link-iterator
    c.loop-link.yielded_by c.next.result c.next.new.self c.in-Some.link c.in-Some.is
    c.next.ensures.steps in
    let is = c.loop-link.invariant.number in let few = c.requires.few in
    omega (arith, is, at.0, few)

pub loop-link-preserved : goal.loop-link-preserved
loop-link-preserved g c =
    let so = c.loop-link.invariant in
    let lane = c.split_off-lane.ensures in
    let b = c.into_iter-link-iterator.ensures.into_iter_gives in
    let at = YieldsList-turn (YieldsList-from_vec {s = c.into_iter-link-iterator.result}
    c.args.links.items b.0 (b.1 ∙ c.args.links.ok.0)) c.loop-link.yielded c.loop-link.link-iterator
    c.loop-link.yielded_by c.next.result c.next.new.self c.in-Some.link c.in-Some.is
    c.next.ensures.steps in
    let is = so.number in let count = so.count in let room = so.room in
    let below : c.loop-link.number < length c.args.links.items = omega (arith, is, at.0) in
    let pushed = c.put.ensures.items in
    let long = length_push c.loop-link.yielded c.in-Some.link in
    let longer = length_push c.loop-link.workers.items (Some c.new.result) in
    let here : (other : g.row.L.Denot) → c.in-Some.link
    ≡ slice_index_or c.args.links.items c.loop-link.number other =
    λ other. at.1 ∙ (ap (λ n. slice_index_or c.args.links.items n c.in-Some.link) (sym is)
    ∙ get_or_default c.args.links.items c.loop-link.number c.in-Some.link other below) in
    record {
      number = omega (arith, is, long);
      pass = lane.first.0;
      first = first-split c.loop-link.number (known c.loop-link.first)
          (known c.split_off-lane.new.first) lane.first.1 so.first;
      joined = ap (λ v. v.joined) lane.first.1 ∙ so.joined;
      start = lane.start ∙ so.start;
      count = ap (λ l. length l) pushed ∙ omega (arith, longer, count);
      room = omega (arith, room, c.put.ensures.capacity);
      ready = engaged-more
          g.L.Link.state c.args.cell.now (length c.args.links.items) c.args.shape
          (known c.args.first.now).start c.args.links.items c.loop-link.workers.items _
          c.new.result c.loop-link.number pushed count so.ready
          (engaged
          g.L.Link.state c.args.cell.now (length c.args.links.items) c.args.shape
          (known c.args.first.now).start c.args.links.items c.loop-link.number c.args.keys
          c.split_off-lane.result c.in-Some.link c.new.result c.new.ensures.lane c.new.ensures.link
          c.new.ensures.none lane.pass lane.rests lane.lane lane.calls (lane.same ∙ so.start)
          lane.number lane.keys lane.shape c.requires.shape
          (subst (λ (l : g.row.L.Denot). (g.L.Link.state l).bound ≤ 4294967295)
          (sym (here c.in-Some.link)) (c.requires.bound c.loop-link.number c.in-Some.link below))
          here);
    }

pub returns-clause-pass : goal.returns-clause-pass
returns-clause-pass g c = c.loop-link.invariant.pass

pub returns-clause-first : goal.returns-clause-first
returns-clause-first g c =
    let b = c.into_iter-link-iterator.ensures.into_iter_gives in
    let all = YieldsList-end (YieldsList-from_vec {s = c.into_iter-link-iterator.result}
    c.args.links.items b.0 (b.1 ∙ c.args.links.ok.0)) c.loop-link.yielded
    c.loop-link.link-iterator c.loop-link.yielded_by c.next.result c.next.new.self c.in-None.is
    c.next.ensures.steps in
    subst (λ (n : ℕ). IsFirst n 0 (known c.loop-link.first)) (c.loop-link.invariant.number ∙ all.1)
    c.loop-link.invariant.first

pub returns-clause-joined : goal.returns-clause-joined
returns-clause-joined g c = c.loop-link.invariant.joined

pub returns-clause-start : goal.returns-clause-start
returns-clause-start g c = c.loop-link.invariant.start

pub returns-clause-ready : goal.returns-clause-ready
returns-clause-ready g c =
    let so = c.loop-link.invariant in
    let b = c.into_iter-link-iterator.ensures.into_iter_gives in
    let all = YieldsList-end (YieldsList-from_vec {s = c.into_iter-link-iterator.result}
    c.args.links.items b.0 (b.1 ∙ c.args.links.ok.0)) c.loop-link.yielded
    c.loop-link.link-iterator c.loop-link.yielded_by c.next.result c.next.new.self c.in-None.is
    c.next.ensures.steps in
    are-engaged
    g.L.Link.state c.args.cell.now (length c.args.links.items) c.args.shape
    (known c.args.first.now).start c.args.links.items c.loop-link.workers.items
    (so.count ∙ (so.number ∙ all.1)) so.ready
