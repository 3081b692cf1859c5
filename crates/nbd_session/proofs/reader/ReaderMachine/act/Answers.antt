use Rattle.nbd_session.proofs.ReaderLemmas.{read-more}
use Rattle.nbd_session.proofs.reader.ReaderMachine.act.Goals as goal

pub returns-clause-stands : goal.returns-clause-stands
returns-clause-stands g c = λ history name stands fits. rw fits.1
    (read-more _ _ _ _ history fits.0 c.args.event c.take-next.new.spare c.take-next.result stands
    c.take-next.ensures)
