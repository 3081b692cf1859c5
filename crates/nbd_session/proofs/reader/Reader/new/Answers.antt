use Rattle.std.proofs.Common.{refl}
use Rattle.nbd_session.proofs.ReaderLemmas.{read-none}
use Rattle.nbd_session.proofs.reader.Reader.new.Goals as goal

pub returns-clause-stands : goal.returns-clause-stands
returns-clause-stands g c = rw c.of-opening.ensures (read-none _ _ refl refl)
