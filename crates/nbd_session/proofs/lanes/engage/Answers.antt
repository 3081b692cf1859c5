use Rattle.std.proofs.Common.{◌∙◌, ℕ, None, ap, arith, length}
use Rattle.std.proofs.Common.{subst, sym}
use Rattle.std.proofs.lemmas.Iterator.Adapters.{YieldsList-from_vec}
use Rattle.std.proofs.lemmas.Iterator.Consumers.{YieldsList-end, YieldsList-turn}
use Rattle.std.proofs.lemmas.List.{length_push}
use Rattle.volume_cell.specs.Passes.{known}
use Rattle.nbd_session.specs.declared.lane.Lane.{Lane}
use Rattle.nbd_session.specs.Flying.{ReaderPass, WriterPass}
use Rattle.nbd_session.specs.Passing.{HasSplit}
use Rattle.nbd_session.proofs.EngageLemmas.{made-more}
use Rattle.nbd_session.proofs.LandingLemmas.{same-place}
use Rattle.nbd_session.proofs.PassLemmas.{pass-split, split-more, split-none}
use Rattle.nbd_session.proofs.lanes.engage.Goals as goal

pub loop-port-init : goal.loop-port-init
loop-port-init g c =
    let none = ap (λ l. length l) c.requires.none in record {
      source = c.requires.source;
      sink = c.requires.sink;
      takes = split-none _ c.requires.first.0;
      puts = split-none _ c.requires.first.1;
      count = none;
      room = c.requires.room;
      made = λ k lane below port. absurd (omega (arith, below, none));
    }

pub push_in_room-requires : goal.push_in_room-requires
push_in_room-requires g c =
    let b = c.into_iter-port-iterator.ensures.into_iter_gives in
    let at = YieldsList-turn (YieldsList-from_vec {s = c.into_iter-port-iterator.result}
    c.args.ports.items b.0 (b.1 ∙ c.args.ports.ok.0)) c.loop-port.yielded c.loop-port.port-iterator
    c.loop-port.yielded_by c.next.result c.next.new.self c.in-Some.port c.in-Some.is
    c.next.ensures.steps in
    let count = c.loop-port.invariant.count in
    let room = c.loop-port.invariant.room in omega (arith, at.0, count, room)

pub loop-port-preserved : goal.loop-port-preserved
loop-port-preserved g c =
    let b = c.into_iter-port-iterator.ensures.into_iter_gives in
    let at = YieldsList-turn (YieldsList-from_vec {s = c.into_iter-port-iterator.result}
    c.args.ports.items b.0 (b.1 ∙ c.args.ports.ok.0)) c.loop-port.yielded c.loop-port.port-iterator
    c.loop-port.yielded_by c.next.result c.next.new.self c.in-Some.port c.in-Some.is
    c.next.ensures.steps in
    let so = c.loop-port.invariant in
    let n = length c.loop-port.yielded in
    let long = length_push c.loop-port.yielded c.in-Some.port in
    let pushed = c.push_in_room.ensures.items in
    let lane : Lane (ReaderPass g.row.S.Denot) (WriterPass g.row.K.Denot) g.row.P.Denot = record {
      source = c.split-source.result;
      sink = c.split-sink.result;
      port = c.in-Some.port;
      halt = None;
    } in
    let more = ap (λ l. length l) pushed ∙ length_push c.loop-port.lanes.items lane in
    let count = so.count in
    let room = so.room in
    let capacity = c.push_in_room.ensures.capacity in
    let source = c.split-source.ensures in
    let sink = c.split-sink.ensures in
    let takes = pass-split c.args.reader.now n _ _ c.split-source.result so.takes source.new.0
    source.new.1 in
    let puts = pass-split c.args.writer.now n _ _ c.split-sink.result so.puts sink.new.0 sink.new.1 in
    record {
      source = source.pass.0;
      sink = sink.pass.0;
      takes = subst (λ (m : ℕ). HasSplit m (known c.args.reading.now) (known c.split-source.new.pass))
          (sym long) (split-more n _ _ _ so.takes source.pass.1);
      puts = subst (λ (m : ℕ). HasSplit m (known c.args.writing.now) (known c.split-sink.new.pass))
          (sym long) (split-more n _ _ _ so.puts sink.pass.1);
      count = omega (arith, more, count, long);
      room = omega (arith, room, capacity);
      made = made-more g.P.Port.usable c.args.reader.now c.args.writer.now c.args.ports.items
          c.loop-port.lanes.items c.push_in_room.new.list.items n lane count pushed takes puts
          (ap (λ v. v.calls) source.new.1) (ap (λ v. v.calls) sink.new.1)
          (subst g.P.Port.usable (sym at.1) (c.requires.usable n c.in-Some.port at.0))
          (λ port. at.1 ∙ same-place c.args.ports.items n c.in-Some.port port at.0) so.made;
    }

pub returns-clause-splits : goal.returns-clause-splits
returns-clause-splits g c =
    let b = c.into_iter-port-iterator.ensures.into_iter_gives in
    let all = YieldsList-end (YieldsList-from_vec {s = c.into_iter-port-iterator.result}
    c.args.ports.items b.0 (b.1 ∙ c.args.ports.ok.0)) c.loop-port.yielded
    c.loop-port.port-iterator c.loop-port.yielded_by c.next.result c.next.new.self c.in-None.is
    c.next.ensures.steps in (
      subst (λ (n : ℕ). HasSplit n (known c.args.reading.now) (known c.loop-port.reading)) all.1
          c.loop-port.invariant.takes,
      subst (λ (n : ℕ). HasSplit n (known c.args.writing.now) (known c.loop-port.writing)) all.1
          c.loop-port.invariant.puts,
    )

pub returns-clause-lanes : goal.returns-clause-lanes
returns-clause-lanes g c =
    let so = c.loop-port.invariant in
    let b = c.into_iter-port-iterator.ensures.into_iter_gives in
    let all = YieldsList-end (YieldsList-from_vec {s = c.into_iter-port-iterator.result}
    c.args.ports.items b.0 (b.1 ∙ c.args.ports.ok.0)) c.loop-port.yielded
    c.loop-port.port-iterator c.loop-port.yielded_by c.next.result c.next.new.self c.in-None.is
    c.next.ensures.steps in
    let count = so.count in
    record {
      count = count ∙ all.1;
      each = λ k port lane below. so.made k lane (omega (arith, below, count, all.1)) port;
    }
