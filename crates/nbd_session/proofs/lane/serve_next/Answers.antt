use Rattle.std.proofs.Common.{List, [], ◌∷◌, inl, inr, sym, subst}
use Rattle.plain_disk.specs.Plain.{Exchange}
use Rattle.nbd_session.specs.declared.reader.Take.{Take}
use Rattle.nbd_session.specs.Lanes.{reader_spent}
use Rattle.nbd_session.proofs.LaneLemmas.{called-none, called-one, called-spent, turn-taken}
use Rattle.nbd_session.proofs.RequestLemmas.{exchanges_of-none}
use Rattle.nbd_session.proofs.lane.serve_next.Goals as goal
use Rattle.volume_cell.specs.Histories.{call}

pub turn-requires-clause-fits : goal.turn-requires-clause-fits
turn-requires-clause-fits g c κs within = λ start is. (c.requires.lane.0, c.requires.lane.1)

pub answer-requires-clause-lane : goal.answer-requires-clause-lane
answer-requires-clause-lane g c κs within = (c.requires.lane.0, c.requires.lane.2)

pub answer-requires-clause-taken : goal.answer-requires-clause-taken
answer-requires-clause-taken g c κs within =
    let at = c.in-Ok.ensures in
    turn-taken g.S.Source.intake _ _ _ _ _ _ c.in-Ok.taken at.stood.stands at.answer

pub returns-in-Ok-clause-served : goal.returns-in-Ok-clause-served
returns-in-Ok-clause-served g c =
    let at = c.in-Ok.ensures in
    let event : Take = record { spare = c.replace.result } in
    let so = c.answer.ensures.answered event in (
      call event c.in-Ok.taken ∷ [],
      so.0,
      so.1,
      called-one _ _ _ _ _ at.same at.answer,
      so.2,
      so.3,
      so.4,
    )

pub returns-in-Ok-clause-full : goal.returns-in-Ok-clause-full
returns-in-Ok-clause-full g c = λ is. inr (c.answer.ensures.full is)

pub returns-clause-full : goal.returns-clause-full
returns-clause-full g c = λ is. inl c.in-Err.ensures.answer.full

pub returns-clause-served : goal.returns-clause-served
returns-clause-served g c =
    let at = c.in-Err.ensures in (
      [],
      [],
      [],
      called-spent _ _ _ _ _ at.same at.answer,
      called-none _,
      subst (λ (done : List Exchange). g.P.Port.did c.args.port.now c.args.port.now done)
          (sym exchanges_of-none) (g.met.P.Port.did_none c.args.port.now),
      ([], reader_spent),
    )
