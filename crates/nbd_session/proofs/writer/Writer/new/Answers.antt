use Rattle.std.proofs.Common.{refl}
use Rattle.nbd_session.proofs.WriterLemmas.{write-none}
use Rattle.nbd_session.proofs.writer.Writer.new.Goals as goal

pub returns-clause-stands : goal.returns-clause-stands
returns-clause-stands g c = rw c.of-opening.ensures (write-none _ _ refl c.requires)
