use Rattle.std.proofs.Common.{◌≡◌, ◌∙◌, ℕ, ◌<◌, ◌≤◌, Bool, List, ◌++◌, ap, arith, length, map}
use Rattle.std.proofs.Common.{slice_index_or, subst, sym}
use Rattle.nbd_session.specs.declared.lane.Lane.{Lane}
use Rattle.nbd_session.specs.declared.reader.Reading.{Reading}
use Rattle.nbd_session.specs.declared.writer.Writing.{Writing}
use Rattle.nbd_session.specs.Flying.{HasFlown, ReaderPass, WriterPass, any_spent}
use Rattle.nbd_session.specs.declared.reader.Take.{Take}
use Rattle.nbd_session.specs.declared.reader.Taken.{Taken}
use Rattle.nbd_session.specs.declared.writer.Put.{Put}
use Rattle.nbd_session.specs.declared.writer.Written.{Written}
use Rattle.nbd_session.specs.Passing.{HasJoined, IsFirst}
use Rattle.nbd_session.specs.Puts.{HasWritten}
use Rattle.nbd_session.specs.Takes.{HasRead}
use Rattle.nbd_session.proofs.EngageLemmas.{made-ready, written-whole}
use Rattle.nbd_session.proofs.LandingLemmas.{EndsBy, closed-landed, some-same}
use Rattle.nbd_session.proofs.PassLemmas.{first-begun, whole-again}
use Rattle.nbd_session.proofs.lanes.serve_all.Goals as goal
use Rattle.volume_cell.specs.declared.knowledge.Knowledge.{Knowledge}
use Rattle.volume_cell.specs.Histories.{account}
use Rattle.volume_cell.specs.Passes.{known}

pub engage-requires-clause-first : goal.engage-requires-clause-first
engage-requires-clause-first g c = (
  first-begun (known c.args.reading) c.requires.begun.0 c.requires.begun.1,
  first-begun (known c.args.writing) c.requires.started.0 c.requires.started.1,
)

pub fly-requires-clause-ready : goal.fly-requires-clause-ready
fly-requires-clause-ready g c κs within =
    made-ready g.P.Port.usable c.args.source c.args.sink c.args.ports.items c.engage.new.lanes.items
    c.as_mut_slice.result.now c.as_mut_slice.ensures.value c.engage.ensures.lanes

pub dismiss-spent-requires-clause-first : goal.dismiss-spent-requires-clause-first
dismiss-spent-requires-clause-first g c =
    let made = c.engage.ensures.lanes in
    let same : length c.fly.new.lanes ≡ length c.engage.new.lanes.items =
    c.fly.ensures.count ∙ ap (λ l. length l) c.as_mut_slice.ensures.value in
    let own = c.engage.new.lanes.ok.0 in
    let whole = written-whole c.engage.new.lanes.len c.engage.new.lanes.items c.fly.new.lanes same
    (omega (arith, own)) in
    let many = sym (ap (λ l. length l) whole ∙ (same ∙ made.count)) in (
      subst (λ (n : ℕ). IsFirst n 0 (known c.engage.new.reading)) many c.engage.ensures.splits.0.first,
      subst (λ (n : ℕ). IsFirst n 0 (known c.engage.new.writing)) many c.engage.ensures.splits.1.first,
    )

pub close-reader-requires-clause-first : goal.close-reader-requires-clause-first
close-reader-requires-clause-first g c = c.dismiss-spent.ensures.joins.0.first.name

pub close-reader-requires-clause-whole : goal.close-reader-requires-clause-whole
close-reader-requires-clause-whole g c = whole-again _ _ c.dismiss-spent.ensures.joins.0.first

pub close-writer-requires-clause-first : goal.close-writer-requires-clause-first
close-writer-requires-clause-first g c = c.dismiss-spent.ensures.joins.1.first.name

pub close-writer-requires-clause-whole : goal.close-writer-requires-clause-whole
close-writer-requires-clause-whole g c = whole-again _ _ c.dismiss-spent.ensures.joins.1.first

pub dismiss-spent-requires-clause-ready : goal.dismiss-spent-requires-clause-ready
dismiss-spent-requires-clause-ready g c =
    let made = c.engage.ensures.lanes in
    let value = c.as_mut_slice.ensures.value in
    let same : length c.fly.new.lanes ≡ length c.engage.new.lanes.items =
    c.fly.ensures.count ∙ ap (λ l. length l) value in
    let own = c.engage.new.lanes.ok.0 in
    let whole = written-whole c.engage.new.lanes.len c.engage.new.lanes.items c.fly.new.lanes same
    (omega (arith, own)) in
    let many : length c.fly.new.lanes ≡ length c.as_mut_slice.result.now = c.fly.ensures.count in
    rw whole (λ k lane below.
    (c.fly.ensures.flown k lane (omega (arith, below, many))).ready)

pub returns : goal.returns
returns g c = λ begun start is_begun is_started.
    let Lanes : Type 0 = List (Lane (ReaderPass g.row.S.Denot) (WriterPass g.row.K.Denot) g.row.P.Denot) in
    let made = c.engage.ensures.lanes in
    let value = c.as_mut_slice.ensures.value in
    let served = c.fly.new.lanes in
    let same : length c.fly.new.lanes ≡ length c.engage.new.lanes.items =
    c.fly.ensures.count ∙ ap (λ l. length l) value in
    let own = c.engage.new.lanes.ok.0 in
    let whole = written-whole c.engage.new.lanes.len c.engage.new.lanes.items c.fly.new.lanes same
    (omega (arith, own)) in
    let takes = subst (λ (ls : Lanes). HasJoined (length ls) (λ lane. known lane.source) ls
    (known c.engage.new.reading) (known c.dismiss-spent.new.reading)) whole
    c.dismiss-spent.ensures.joins.0 in
    let puts = subst (λ (ls : Lanes). HasJoined (length ls) (λ lane. known lane.sink) ls
    (known c.engage.new.writing) (known c.dismiss-spent.new.writing)) whole
    c.dismiss-spent.ensures.joins.1 in
    let read = c.close-reader.ensures in
    let written = c.close-writer.ensures in
    let v = known c.close-reader.result.1 in
    let w = known c.close-writer.result.1 in
    let splits = c.engage.ensures.splits in
    let opened = some-same c.close-reader.result.0.opening.value begun (sym read.start
    ∙ (ap (λ k. k.start) read.pass ∙ (takes.start ∙ (splits.0.start
    ∙ ap (λ k. k.start) is_begun)))) in
    let started = some-same c.close-writer.result.0.opening.value start (sym written.start
    ∙ (ap (λ k. k.start) written.pass ∙ (puts.start ∙ (splits.1.start
    ∙ ap (λ k. k.start) is_started)))) in
    let spent = subst (λ (ls : Lanes). c.dismiss-spent.result ≡ any_spent ls) whole
    c.dismiss-spent.ensures.spent in
    let how = c.ending_of-ending.ensures in
    rw c.landed.ensures.is (closed-landed g.S.Source.intake g.K.Sink.outlet g.P.Port.usable
    g.P.Port.is_spent g.P.Port.did c.args.source c.args.sink c.args.ports.items
    c.dismiss-spent.new.ports c.engage.new.lanes.items c.fly.new.lanes begun
    c.close-reader.result.0.reading start c.close-writer.result.0.writing v w (record {
      are_made = made;
      count = same;
      flown = λ k lane below. subst (λ (ls : Lanes). k < length ls →
          HasFlown g.P.Port.usable c.args.source c.args.sink g.P.Port.is_spent g.P.Port.did k
          (slice_index_or ls k lane) (slice_index_or c.fly.new.lanes k lane)) value
          (c.fly.ensures.flown k lane) below;
      left_are = subst (λ (ls : Lanes).
          c.dismiss-spent.new.ports.items ≡ map (λ lane. lane.port) ls) whole
          c.dismiss-spent.ensures.ports;
      has_read = subst (λ b. HasRead g.S.Source.intake b c.close-reader.result.0.reading v.history)
          opened read.stands;
      has_written = subst
          (λ b. HasWritten g.K.Sink.outlet b c.close-writer.result.0.writing w.history) started
          written.stands;
      takes_law = read.law;
      takes_name = ap (λ k. k.name) read.pass ∙ takes.first.name;
      takes_none = ap (λ k. k.calls) read.pass ∙ takes.first.calls;
      takes_joined = ap (λ k. k.joined) read.pass ∙ (takes.joined
          ∙ ap (λ them. them ++ map (λ lane. account (known lane.source).name
          (known lane.source).calls) c.fly.new.lanes)
          (splits.0.joined ∙ ap (λ k. k.joined) is_begun));
      puts_law = written.law;
      puts_name = ap (λ k. k.name) written.pass ∙ puts.first.name;
      puts_none = ap (λ k. k.calls) written.pass ∙ puts.first.calls;
      puts_joined = ap (λ k. k.joined) written.pass ∙ (puts.joined
          ∙ ap (λ them. them ++ map (λ lane. account (known lane.sink).name
          (known lane.sink).calls) c.fly.new.lanes)
          (splits.1.joined ∙ ap (λ k. k.joined) is_started));
      takes_known = λ k lane below. subst (λ (x : Knowledge (Reading g.row.S.Denot) Take Taken).
          length (known (slice_index_or c.fly.new.lanes k lane).source).history ≤ length x.history)
          (sym read.pass) (takes.knows k lane below);
      puts_known = λ k lane below. subst (λ (x : Knowledge (Writing g.row.K.Denot) Put Written).
          length (known (slice_index_or c.fly.new.lanes k lane).sink).history ≤ length x.history)
          (sym written.pass) (puts.knows k lane below);
      takes_limit = c.requires.source.1;
      puts_limit = c.requires.sink.1;
    }) c.requires.some c.requires.few c.args.export.now c.ending_of-ending.result
    (subst (λ (b : Bool). EndsBy c.close-writer.result.0.writing.failed b
    c.close-reader.result.0.reading.ending c.ending_of-ending.result) spent (record {
      sink = how.sink;
      spent_so = how.spent;
      read_so_far = how.read;
    })) c.landed.ensures.taken_fits c.landed.ensures.put_fits)
