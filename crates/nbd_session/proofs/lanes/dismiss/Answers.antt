use Rattle.std.proofs.Common.{◌∙◌, ℕ, ◌||◌, Bool, List, [], ◌∷◌, ◌++◌, ap, arith, length, map, refl}
use Rattle.std.proofs.Common.{subst, sym}
use mathlib.Core.List.{map-id}
use Rattle.std.proofs.lemmas.Iterator.Adapters.{YieldsList-from_vec}
use Rattle.std.proofs.lemmas.Iterator.Consumers.{YieldsList-end, YieldsList-turn}
use Rattle.volume_cell.specs.Passes.{known}
use Rattle.nbd_session.specs.Flying.{IsReady, any_spent, is_spent_halt}
use Rattle.nbd_session.specs.Passing.{HasJoined}
use Rattle.nbd_session.proofs.LandingLemmas.{any-more, any-none}
use Rattle.nbd_session.proofs.PassLemmas.{joined-more, joined-none, map-length, map-more}
use Rattle.nbd_session.proofs.lanes.dismiss.Goals as goal

pub loop-lane-init : goal.loop-lane-init
loop-lane-init g c = record {
  source = c.requires.source;
  sink = c.requires.sink;
  takes = joined-none _ _ _ c.requires.first.0;
  puts = joined-none _ _ _ c.requires.first.1;
  ports = c.requires.none;
  room = c.requires.room;
  spent = sym (any-none [] refl);
}

pub loop-lane-preserved : goal.loop-lane-preserved
loop-lane-preserved g c =
    let b = c.into_iter-lane-iterator.ensures.into_iter_gives in
    let at = YieldsList-turn (YieldsList-from_vec {s = c.into_iter-lane-iterator.result}
    c.args.lanes.items b.0 (b.1 ∙ c.args.lanes.ok.0)) c.loop-lane.yielded c.loop-lane.lane-iterator
    c.loop-lane.yielded_by c.next.result c.next.new.self c.in-Some.lane c.in-Some.is
    c.next.ensures.steps in
    let so = c.loop-lane.invariant in
    let n = length c.loop-lane.yielded in
    let ready = subst (IsReady g.P.Port.usable c.args.reader.now c.args.writer.now n) (sym at.1)
    (c.requires.ready n c.in-Some.lane at.0) in
    let room = so.room in
    let capacity = c.push_in_room.ensures.capacity in
    let take = c.join.ensures in
    let put = c.join-in-loop-lane.ensures in
    record {
      source = take.pass.0;
      sink = put.pass.0;
      takes = joined-more _ _ c.loop-lane.yielded c.in-Some.lane _ _ _ so.takes take.pass.1
          ready.source.name ready.source.joined take.own take.its;
      puts = joined-more _ _ c.loop-lane.yielded c.in-Some.lane _ _ _ so.puts put.pass.1
          ready.sink.name ready.sink.joined put.own put.its;
      ports = c.push_in_room.ensures.items ∙ ap (λ them. them ++ c.in-Some.lane.port ∷ []) so.ports
          ∙ sym (map-more (λ lane. lane.port) c.loop-lane.yielded c.in-Some.lane);
      room = omega (arith, room, capacity);
      spent = c.is_spent-spent.ensures
          ∙ ap (λ (b : Bool). is_spent_halt c.in-Some.lane.halt || b) so.spent
          ∙ sym (any-more c.loop-lane.yielded c.in-Some.lane);
    }

pub returns-clause-joins : goal.returns-clause-joins
returns-clause-joins g c =
    let b = c.into_iter-lane-iterator.ensures.into_iter_gives in
    let all = YieldsList-end (YieldsList-from_vec {s = c.into_iter-lane-iterator.result}
    c.args.lanes.items b.0 (b.1 ∙ c.args.lanes.ok.0)) c.loop-lane.yielded
    c.loop-lane.lane-iterator c.loop-lane.yielded_by c.next.result c.next.new.self c.in-None.is
    c.next.ensures.steps in
    let is = sym (map-id c.loop-lane.yielded) ∙ all.0 in (
      subst (λ them. HasJoined (length c.args.lanes.items) (λ lane. known lane.source) them
          (known c.args.reading.now) (known c.loop-lane.reading)) is c.loop-lane.invariant.takes,
      subst (λ them. HasJoined (length c.args.lanes.items) (λ lane. known lane.sink) them
          (known c.args.writing.now) (known c.loop-lane.writing)) is c.loop-lane.invariant.puts,
    )

pub returns-clause-ports : goal.returns-clause-ports
returns-clause-ports g c =
    let b = c.into_iter-lane-iterator.ensures.into_iter_gives in
    let all = YieldsList-end (YieldsList-from_vec {s = c.into_iter-lane-iterator.result}
    c.args.lanes.items b.0 (b.1 ∙ c.args.lanes.ok.0)) c.loop-lane.yielded
    c.loop-lane.lane-iterator c.loop-lane.yielded_by c.next.result c.next.new.self c.in-None.is
    c.next.ensures.steps in
    c.loop-lane.invariant.ports
    ∙ ap (λ them. map (λ lane. lane.port) them) (sym (map-id c.loop-lane.yielded) ∙ all.0)

pub returns-clause-spent : goal.returns-clause-spent
returns-clause-spent g c =
    let b = c.into_iter-lane-iterator.ensures.into_iter_gives in
    let all = YieldsList-end (YieldsList-from_vec {s = c.into_iter-lane-iterator.result}
    c.args.lanes.items b.0 (b.1 ∙ c.args.lanes.ok.0)) c.loop-lane.yielded
    c.loop-lane.lane-iterator c.loop-lane.yielded_by c.next.result c.next.new.self c.in-None.is
    c.next.ensures.steps in
    c.loop-lane.invariant.spent
    ∙ ap (λ them. any_spent them) (sym (map-id c.loop-lane.yielded) ∙ all.0)

pub join-requires-clause-child : goal.join-requires-clause-child
join-requires-clause-child g c =
    let b = c.into_iter-lane-iterator.ensures.into_iter_gives in
    let at = YieldsList-turn (YieldsList-from_vec {s = c.into_iter-lane-iterator.result}
    c.args.lanes.items b.0 (b.1 ∙ c.args.lanes.ok.0)) c.loop-lane.yielded c.loop-lane.lane-iterator
    c.loop-lane.yielded_by c.next.result c.next.new.self c.in-Some.lane c.in-Some.is
    c.next.ensures.steps in
    let n = length c.loop-lane.yielded in
    let ready = subst (IsReady g.P.Port.usable c.args.reader.now c.args.writer.now n) (sym at.1)
    (c.requires.ready n c.in-Some.lane at.0) in (
      n,
      ready.source.name
          ∙ ap (λ (name : List ℕ). name ++ n ∷ []) (sym c.loop-lane.invariant.takes.first.name),
    )

pub join-requires-in-loop-lane-clause-child : goal.join-requires-in-loop-lane-clause-child
join-requires-in-loop-lane-clause-child g c =
    let b = c.into_iter-lane-iterator.ensures.into_iter_gives in
    let at = YieldsList-turn (YieldsList-from_vec {s = c.into_iter-lane-iterator.result}
    c.args.lanes.items b.0 (b.1 ∙ c.args.lanes.ok.0)) c.loop-lane.yielded c.loop-lane.lane-iterator
    c.loop-lane.yielded_by c.next.result c.next.new.self c.in-Some.lane c.in-Some.is
    c.next.ensures.steps in
    let n = length c.loop-lane.yielded in
    let ready = subst (IsReady g.P.Port.usable c.args.reader.now c.args.writer.now n) (sym at.1)
    (c.requires.ready n c.in-Some.lane at.0) in (
      n,
      ready.sink.name
          ∙ ap (λ (name : List ℕ). name ++ n ∷ []) (sym c.loop-lane.invariant.puts.first.name),
    )

pub push_in_room-requires : goal.push_in_room-requires
push_in_room-requires g c =
    let b = c.into_iter-lane-iterator.ensures.into_iter_gives in
    let at = YieldsList-turn (YieldsList-from_vec {s = c.into_iter-lane-iterator.result}
    c.args.lanes.items b.0 (b.1 ∙ c.args.lanes.ok.0)) c.loop-lane.yielded c.loop-lane.lane-iterator
    c.loop-lane.yielded_by c.next.result c.next.new.self c.in-Some.lane c.in-Some.is
    c.next.ensures.steps in
    let so = c.loop-lane.invariant in
    let long = ap (λ l. length l) so.ports ∙ map-length (λ lane. lane.port) c.loop-lane.yielded in
    let room = so.room in omega (arith, long, at.0, room)
