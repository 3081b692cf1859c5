use Rattle.std.proofs.Common.{List, [], ◌∷◌, Some, ◌∙◌, false, true, refl, sym, subst}
use Rattle.base_terms.specs.ErrorNumbers.{no_memory}
use Rattle.plain_disk.specs.Plain.{Exchange}
use Rattle.plain_disk.specs.declared.operation.Reply.TheVariants.{Errno}
use Rattle.nbd_session.specs.Turns.{Turn, IsTurn}
use Rattle.nbd_session.proofs.RequestLemmas.{serves-stop, serves-spent, serves-turn}
use Rattle.nbd_session.proofs.RequestLemmas.{refused-answered, refused-exchanges, exchanges_of-none}
use Rattle.nbd_session.proofs.RequestLemmas.{exchanges_of-one}
use Rattle.nbd_session.proofs.FitLemmas.{memory-fits, refusal-fits, reply-fits}
use Rattle.nbd_session.proofs.session.serve_request.Goals as goal

pub answer-requires : goal.answer-requires
answer-requires g c =
    let is = c.in-Refuse.ensures.2.by_case in
    refusal-fits c.in-Refuse.form is.0 c.in-Refuse.number is.2

pub answer-ending-requires : goal.answer-ending-requires
answer-ending-requires g c =
    let reply = c.in-Ok-Replied.ensures.reply in
    reply-fits c.args.structured _ c.in-Ask.cookie c.in-Ask.op c.in-Ask.form c.in-Ok-Replied.reply
    c.in-Ask.ensures.2.by_case.0 (rw c.in-Ok-Replied.field-0-is at reply)

pub answer-requires-in-Err : goal.answer-requires-in-Err
answer-requires-in-Err g c = memory-fits c.in-Ask.form

pub returns-in-Stop-clause-served : goal.returns-in-Stop-clause-served
returns-in-Stop-clause-served g c =
    let next = c.in-Stop.ensures in (
      [],
      next.0,
      [],
      [],
      next.1,
      (λ e. absurd (cc)),
      subst (λ (done : List Exchange). g.P.Port.did c.args.port.now c.args.port.now done)
          (sym exchanges_of-none) (g.met.P.Port.did_none c.args.port.now),
      λ n fewer. serves-stop c.args.structured _ _ _ _ c.in-Stop.ending next.0 next.1 n next.2
          fewer,
    )

pub returns-in-Refuse-clause-served : goal.returns-in-Refuse-clause-served
returns-in-Refuse-clause-served g c =
    let next = c.in-Refuse.ensures in
    let is = next.2.by_case in
    let turn : Turn = record {
      cookie = c.in-Refuse.cookie;
      asked = is.0;
      form = c.in-Refuse.form;
      reply =
          Errno c.in-Refuse.number;
      tried = 0;
      submitted = false;
    } in
    let turned : IsTurn c.args.structured next.0 turn = record {
      message = is.1;
      answered = refused-answered is.0 c.in-Refuse.number is.2;
    } in
    let served = serves-turn c.args.structured _ _ _ _ _ _ turn next.0 c.answer.result
    next.2.takes is.3 turned c.answer.ensures.replies in (
      turn ∷ [],
      next.0,
      served.0,
      served.1,
      false,
      (λ e. refl),
      subst (λ (done : List Exchange). g.P.Port.did c.args.port.now c.args.port.now done)
          (sym (exchanges_of-one turn ∙ refused-exchanges is.0 c.in-Refuse.number))
          (g.met.P.Port.did_none c.args.port.now),
      served.2,
    )

pub returns-in-Ok-Replied-clause-served : goal.returns-in-Ok-Replied-clause-served
returns-in-Ok-Replied-clause-served g c =
    let next = c.in-Ask.ensures in
    let did = c.in-Ok-Replied.ensures.ok in
    let turn : Turn = record {
      cookie = c.in-Ask.cookie;
      asked = Some c.in-Ask.op;
      form = c.in-Ask.form;
      reply =
          c.in-Ok-Replied.reply;
      tried = did.0;
      submitted = true;
    } in
    let reply = c.in-Ok-Replied.ensures.reply in
    let turned : IsTurn c.args.structured next.0 turn = record {
      message = next.2.by_case.0;
      answered = rw c.in-Ok-Replied.field-0-is at reply;
    } in
    let served = serves-turn c.args.structured _ _ _ _ _ _ turn next.0 c.answer-ending.result
    next.2.takes next.2.by_case.1 turned c.answer-ending.ensures.replies in (
      turn ∷ [],
      next.0,
      served.0,
      served.1,
      false,
      (λ e. refl),
      subst (λ (done : List Exchange). g.P.Port.did c.args.port.now c.submit.new.self done)
          (sym (exchanges_of-one turn)) (rw c.in-Ok-Replied.field-0-is at did.1),
      served.2,
    )

pub returns-in-Ok-Spent-clause-served : goal.returns-in-Ok-Spent-clause-served
returns-in-Ok-Spent-clause-served g c =
    let next = c.in-Ask.ensures in
    let did = c.in-Ok-Spent.ensures.ok in (
      [],
      next.0,
      [],
      [],
      false,
      (λ e. absurd (cc)),
      subst (λ (done : List Exchange). g.P.Port.did c.args.port.now c.submit.new.self done)
          (sym exchanges_of-none) (rw c.in-Ok-Spent.field-0-is at did.1),
      λ n fewer. serves-spent c.args.structured _ _ _ _ c.in-Ask.cookie c.in-Ask.form c.in-Ask.op
          next.0 next.1 n next.2 fewer,
    )

pub returns-in-Err-clause-served : goal.returns-in-Err-clause-served
returns-in-Err-clause-served g c =
    let next = c.in-Ask.ensures in
    let turn : Turn = record {
      cookie = c.in-Ask.cookie;
      asked = Some c.in-Ask.op;
      form = c.in-Ask.form;
      reply =
          Errno no_memory;
      tried = 0;
      submitted = false;
    } in
    let turned : IsTurn c.args.structured next.0 turn = record {
      message = next.2.by_case.0;
      answered = (refl, refl);
    } in
    let served = serves-turn c.args.structured _ _ _ _ _ _ turn next.0 c.answer-in-Err.result
    next.2.takes next.2.by_case.1 turned c.answer-in-Err.ensures.replies in (
      turn ∷ [],
      next.0,
      served.0,
      served.1,
      false,
      (λ e. refl),
      subst (λ (done : List Exchange). g.P.Port.did c.args.port.now c.submit.new.self done)
          (sym (exchanges_of-one turn)) c.in-Err.ensures.err,
      served.2,
    )
