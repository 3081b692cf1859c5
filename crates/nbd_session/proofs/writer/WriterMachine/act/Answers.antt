use Rattle.std.proofs.Common.{true, false}
use Rattle.nbd_session.specs.declared.writer.Written.TheVariants.{Done, SinkFailed}
use Rattle.nbd_session.proofs.WriterLemmas.{write-more}
use Rattle.nbd_session.proofs.writer.WriterMachine.act.Goals as goal

pub returns-then-put-clause-stands : goal.returns-then-put-clause-stands
returns-then-put-clause-stands g c = λ history name stands fits. rw fits.1
    (write-more _ _ _ _ history fits.0 c.args.event (Done c.args.event.reply) true stands
    c.if-put.ensures tt)

pub returns-else-put-clause-stands : goal.returns-else-put-clause-stands
returns-else-put-clause-stands g c = λ history name stands fits. rw fits.1
    (write-more _ _ _ _ history fits.0 c.args.event (SinkFailed c.args.event.reply) false stands
    c.if-put.ensures tt)
