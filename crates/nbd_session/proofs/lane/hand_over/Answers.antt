use Rattle.std.proofs.Common.{[], ◌∷◌, refl}
use Rattle.nbd_session.specs.declared.writer.Put.{Put}
use Rattle.nbd_session.proofs.LaneLemmas.{called-one, called-spent}
use Rattle.nbd_session.proofs.lane.hand_over.Goals as goal
use Rattle.volume_cell.specs.Histories.{call}

pub turn-requires-clause-fits : goal.turn-requires-clause-fits
turn-requires-clause-fits g c κs within =
    λ start is. (c.requires.lane.0, c.requires.lane.1, c.requires.fits)

pub returns-in-Ok-Done-clause-put : goal.returns-in-Ok-Done-clause-put
returns-in-Ok-Done-clause-put g c =
    let at = c.in-Ok-Done.ensures in
    let put : Put = record {
      number = c.args.number;
      cookie = c.args.cookie;
      form = c.args.form;
      reply = c.args.reply;
    } in (
      call put c.in-Ok-Done.field-0 ∷ [],
      called-one _ _ _ _ _ at.same at.answer,
      (c.in-Ok-Done.field-0, refl, rw c.in-Ok-Done.field-0-is tt),
    )

pub returns-in-Ok-SinkFailed-clause-put : goal.returns-in-Ok-SinkFailed-clause-put
returns-in-Ok-SinkFailed-clause-put g c =
    let at = c.in-Ok-SinkFailed.ensures in
    let put : Put = record {
      number = c.args.number;
      cookie = c.args.cookie;
      form = c.args.form;
      reply = c.args.reply;
    } in (
      call put c.in-Ok-SinkFailed.field-0 ∷ [],
      called-one _ _ _ _ _ at.same at.answer,
      (c.in-Ok-SinkFailed.field-0, refl, rw c.in-Ok-SinkFailed.field-0-is tt),
    )

pub returns-clause-put : goal.returns-clause-put
returns-clause-put g c =
    let at = c.in-Err.ensures in ([], called-spent _ _ _ _ _ at.same at.answer, refl)
