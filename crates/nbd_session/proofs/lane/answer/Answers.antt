use Rattle.std.proofs.Common.{List, [], ◌∷◌, Some, ◌∙◌, false, true, refl, sym, subst}
use Rattle.base_terms.specs.ErrorNumbers.{no_memory}
use Rattle.plain_disk.specs.Plain.{Exchange}
use Rattle.plain_disk.specs.declared.operation.Reply.TheVariants.{Errno}
use Rattle.nbd_session.specs.declared.requests.Next.TheVariants.{Ask, Refuse}
use Rattle.nbd_session.specs.Lanes.{WasTaken, port_spent, read_out}
use Rattle.nbd_session.specs.Turns.{Turn}
use Rattle.nbd_session.proofs.FitLemmas.{memory-fits, refusal-fits, reply-fits}
use Rattle.nbd_session.proofs.LaneLemmas.{after-put, called-none, put-unspent}
use Rattle.nbd_session.proofs.RequestLemmas.{exchanges_of-none, exchanges_of-one, refused-exchanges}
use Rattle.nbd_session.proofs.lane.answer.Goals as goal
use Rattle.volume_cell.specs.Histories.{call}

-- a request that the session itself answers
pub hand_over-requires-clause-fits : goal.hand_over-requires-clause-fits
hand_over-requires-clause-fits g c κs within =
    let is : WasTaken (Refuse c.in-Refuse.cookie c.in-Refuse.form c.in-Refuse.error) =
    rw c.in-Refuse.is at c.requires.taken in
    refusal-fits c.in-Refuse.form is.0 c.in-Refuse.error is.1

-- an operation with its reply
pub hand_over-requires-in-Ok-Replied-clause-fits : goal.hand_over-requires-in-Ok-Replied-clause-fits
hand_over-requires-in-Ok-Replied-clause-fits g c κs within =
    let is : WasTaken (Ask c.in-Ask.cookie c.in-Ask.form c.in-Ask.op) =
    rw c.in-Ask.is at c.requires.taken in
    let reply = c.in-Ok-Replied.ensures.reply in
    reply-fits is.0 is.1 c.in-Ask.cookie c.in-Ask.op c.in-Ask.form c.in-Ok-Replied.reply is.2
    (rw c.in-Ok-Replied.field-0-is at reply)

-- one for which memory was wanted
pub hand_over-requires-in-Err-clause-fits : goal.hand_over-requires-in-Err-clause-fits
hand_over-requires-in-Err-clause-fits g c κs within = memory-fits c.in-Ask.form

pub returns-in-Stop-clause-answered : goal.returns-in-Stop-clause-answered
returns-in-Stop-clause-answered g c = λ event. (
  [],
  [],
  called-none _,
  subst (λ (done : List Exchange). g.P.Port.did c.args.port.now c.args.port.now done)
      (sym exchanges_of-none) (g.met.P.Port.did_none c.args.port.now),
  ([], read_out (call event c.args.taken) c.in-Stop.ending c.in-Stop.is),
)

pub returns-in-Refuse-clause-answered : goal.returns-in-Refuse-clause-answered
returns-in-Refuse-clause-answered g c =
    let is : WasTaken (Refuse c.in-Refuse.cookie c.in-Refuse.form c.in-Refuse.error) =
    rw c.in-Refuse.is at c.requires.taken in
    let put = c.hand_over.ensures.put in
    let turn : Turn = record {
      cookie = c.in-Refuse.cookie;
      asked = is.0;
      form = c.in-Refuse.form;
      reply = Errno c.in-Refuse.error;
      tried = 0;
      submitted = false;
    } in
    λ event. (
      put.0,
      turn ∷ [],
      put.1,
      subst (λ (done : List Exchange). g.P.Port.did c.args.port.now c.args.port.now done)
          (sym (exchanges_of-one turn ∙ refused-exchanges is.0 c.in-Refuse.error))
          (g.met.P.Port.did_none c.args.port.now),
      after-put (call event c.args.taken) turn put.0 c.hand_over.result
          (rw c.in-Refuse.is (refl, refl, is.1, refl, refl, refl)) put.2,
    )

pub returns-in-Ok-Replied-clause-answered : goal.returns-in-Ok-Replied-clause-answered
returns-in-Ok-Replied-clause-answered g c =
    let put = c.hand_over-in-Ok-Replied.ensures.put in
    let did = c.in-Ok-Replied.ensures.ok in
    let reply = c.in-Ok-Replied.ensures.reply in
    let turn : Turn = record {
      cookie = c.in-Ask.cookie;
      asked = Some c.in-Ask.op;
      form = c.in-Ask.form;
      reply = c.in-Ok-Replied.reply;
      tried = did.0;
      submitted = true;
    } in
    λ event. (
      put.0,
      turn ∷ [],
      put.1,
      subst (λ (done : List Exchange). g.P.Port.did c.args.port.now c.submit.new.self done)
          (sym (exchanges_of-one turn)) (rw c.in-Ok-Replied.field-0-is at did.1),
      after-put (call event c.args.taken) turn put.0 c.hand_over-in-Ok-Replied.result
          (rw c.in-Ask.is (refl, rw c.in-Ok-Replied.field-0-is at reply)) put.2,
    )

pub returns-in-Ok-Spent-clause-answered : goal.returns-in-Ok-Spent-clause-answered
returns-in-Ok-Spent-clause-answered g c =
    let did = c.in-Ok-Spent.ensures.ok in λ event. (
      [],
      [],
      called-none _,
      subst (λ (done : List Exchange). g.P.Port.did c.args.port.now c.submit.new.self done)
          (sym exchanges_of-none) (rw c.in-Ok-Spent.field-0-is at did.1),
      (
        record { cookie = c.in-Ask.cookie; asked = Some c.in-Ask.op; form = c.in-Ask.form } ∷ [],
        port_spent (call event c.args.taken) _ (rw c.in-Ask.is refl),
      ),
    )

pub returns-in-Err-clause-answered : goal.returns-in-Err-clause-answered
returns-in-Err-clause-answered g c =
    let put = c.hand_over-in-Err.ensures.put in
    let turn : Turn = record {
      cookie = c.in-Ask.cookie;
      asked = Some c.in-Ask.op;
      form = c.in-Ask.form;
      reply = Errno no_memory;
      tried = 0;
      submitted = false;
    } in
    λ event. (
      put.0,
      turn ∷ [],
      put.1,
      subst (λ (done : List Exchange). g.P.Port.did c.args.port.now c.submit.new.self done)
          (sym (exchanges_of-one turn)) c.in-Err.ensures.err,
      after-put (call event c.args.taken) turn put.0 c.hand_over-in-Err.result
          (rw c.in-Ask.is (refl, (refl, refl))) put.2,
    )

-- a put isn't answered that the port is spent
pub returns-in-Refuse-clause-spent : goal.returns-in-Refuse-clause-spent
returns-in-Refuse-clause-spent g c =
    let put = c.hand_over.ensures.put in λ is. absurd (put-unspent _ put.0 c.hand_over.result put.2 is)

pub returns-in-Ok-Replied-clause-spent : goal.returns-in-Ok-Replied-clause-spent
returns-in-Ok-Replied-clause-spent g c =
    let put = c.hand_over-in-Ok-Replied.ensures.put in
    λ is. absurd (put-unspent _ put.0 c.hand_over-in-Ok-Replied.result put.2 is)

pub returns-in-Err-clause-spent : goal.returns-in-Err-clause-spent
returns-in-Err-clause-spent g c =
    let put = c.hand_over-in-Err.ensures.put in
    λ is. absurd (put-unspent _ put.0 c.hand_over-in-Err.result put.2 is)
