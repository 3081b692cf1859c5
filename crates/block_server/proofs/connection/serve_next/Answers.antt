use Rattle.std.proofs.Common.{List, [], ◌∷◌, ◌++◌, ◌∙◌, ap, refl, sym, subst, append-nil, arith}
use Rattle.volume_machine.specs.Answers.{Tagged}
use Rattle.nbd_session.specs.Turns.{exchanges_of}
use Rattle.block_server.specs.Sessions.{Played, tagged}
use Rattle.block_server.proofs.AskingLemmas.{goes_none, goes_one, sessions_none, sessions_one}
use Rattle.block_server.proofs.AskingLemmas.{tagged_of-none, tagged_of-one}
use Rattle.block_server.proofs.LeavingLemmas.{leaves-one, leaves-same}
use Rattle.block_server.proofs.connection.serve_next.Goals as goal

pub returns-then-is_err-clause-asked : goal.returns-then-is_err-clause-asked
returns-then-is_err-clause-asked g c = λ k. (
  [],
  record {
    sessions = sessions_none c.args.export.now _;
    goes = goes_none (g.L.Link.state c.args.link.now) (g.L.Link.state c.args.link.now)
        (λ story is. is);
    ends = c.reserve.ensures.items ∙ sym (append-nil c.args.ends.now.items);
    lent = refl;
    later = omega arith;
    by_case = (refl, refl);
  },
  subst (λ (done : List Tagged). g.P.SharedPort.executed c.args.port.now c.args.port.now done)
      (sym tagged_of-none) (g.met.P.SharedPort.executed_none c.args.port.now),
  leaves-same [] (g.P.SharedPort.left_by c.args.port.now) _ refl,
)

pub returns-in-Ok-None-clause-asked : goal.returns-in-Ok-None-clause-asked
returns-in-Ok-None-clause-asked g c = λ k.
    let told = rw c.in-Ok-None.field-0-is at c.in-Ok-None.ensures.told in
    let counts = rw c.in-Ok-None.field-0-is at c.in-Ok-None.ensures.counts in (
      [],
      record {
        sessions = sessions_none c.args.export.now _;
        goes = goes_none (g.L.Link.state c.args.link.now) (g.L.Link.state c.next.new.self) told;
        ends = c.reserve.ensures.items ∙ sym (append-nil c.args.ends.now.items);
        lent = counts.lent_is;
        later = c.in-Ok-None.ensures.cause.later;
        by_case = (
          refl,
          rw c.in-Ok-None.field-0-is at c.in-Ok-None.ensures.at_end,
          counts.bound_is,
          c.in-Ok-None.ensures.cause.held refl,
        );
      },
      subst (λ (done : List Tagged). g.P.SharedPort.executed c.args.port.now c.args.port.now done)
          (sym tagged_of-none) (g.met.P.SharedPort.executed_none c.args.port.now),
      leaves-same [] (g.P.SharedPort.left_by c.args.port.now) _ refl,
    )

pub returns-in-Err-clause-asked : goal.returns-in-Err-clause-asked
returns-in-Err-clause-asked g c = λ k. (
  [],
  record {
    sessions = sessions_none c.args.export.now _;
    goes = goes_none (g.L.Link.state c.args.link.now) (g.L.Link.state c.next.new.self)
        c.in-Err.ensures.told;
    ends = c.reserve.ensures.items ∙ sym (append-nil c.args.ends.now.items);
    lent = c.in-Err.ensures.counts.lent_is;
    later = c.in-Err.ensures.cause.later;
    by_case = (refl, c.in-Err.ensures.cause.failed refl, c.in-Err.ensures.counts.bound_is);
  },
  subst (λ (done : List Tagged). g.P.SharedPort.executed c.args.port.now c.args.port.now done)
      (sym tagged_of-none) (g.met.P.SharedPort.executed_none c.args.port.now),
  leaves-same [] (g.P.SharedPort.left_by c.args.port.now) _ refl,
)

pub returns-in-Ok-clause-asked : goal.returns-in-Ok-clause-asked
returns-in-Ok-clause-asked g c = λ k.
    let session = c.serve_session-end.ensures.session in
    let counts = rw c.in-Ok-Some.field-0-is at c.in-Ok-Some.ensures.counts in
    let one : Played = record {
      link = k;
      end = c.serve_session-end.result;
      log = session.0;
      before = _;
      after = _;
    } in (
      one ∷ [],
      record {
        sessions = sessions_one c.args.export.now _ one session.2 c.serve_session-end.ensures.out
            (λ is. g.met.P.SharedPort.is_left c.serve_session-end.new.port
            (c.serve_session-end.ensures.spent is));
        goes = goes_one k c.serve_session-end.result session.0 (g.L.Link.state c.args.link.now)
            (g.L.Link.state c.next.new.self) (g.L.Link.state c.done.new.self)
            _ _ _ _ session.0.taken session.0.whole session.0.front
            (rw c.in-Ok-Some.field-0-is at c.in-Ok-Some.ensures.told) c.done.ensures.told
            session.2.talks.traffic;
        ends = c.in-Ok.ensures.items
            ∙ ap (λ ends. ends ++ c.serve_session-end.result ∷ []) c.reserve.ensures.items;
        lent = omega (arith, c.done.ensures.lent, counts.1);
        later = omega (arith, c.done.ensures.faults, c.in-Ok-Some.ensures.cause.later);
        by_case = (
          one,
          refl,
          refl,
          session.2.number,
          omega (arith, c.done.ensures.bound, counts.0),
          c.done.ensures.faults ∙ c.in-Ok-Some.ensures.cause.held refl,
        );
      },
      subst (λ (done : List Tagged).
          g.P.SharedPort.executed c.args.port.now c.serve_session-end.new.port done)
          (sym (tagged_of-one one))
          (g.met.P.SharedPort.executed_more c.args.port.now c.begin.new.self
          c.serve_session-end.new.port [] _ c.begin.ensures.none
          (subst (λ n. g.P.SharedPort.executed c.begin.new.self c.serve_session-end.new.port
          (tagged n (exchanges_of session.0.turns)))
          (c.begin.ensures.number ∙ sym session.2.number)
          (g.met.P.SharedPort.of_session c.begin.new.self c.serve_session-end.new.port
          (exchanges_of session.0.turns) session.1))),
      leaves-one one (g.P.SharedPort.number c.begin.new.self) (g.P.SharedPort.left_by c.args.port.now)
          (g.P.SharedPort.left_by c.begin.new.self)
          (g.P.SharedPort.left_by c.serve_session-end.new.port)
          (session.2.number ∙ sym c.begin.ensures.number) c.begin.ensures.left
          (g.met.P.SharedPort.leaves c.begin.new.self c.serve_session-end.new.port
          (exchanges_of session.0.turns) session.1),
    )
