use Rattle.nbd_session.proofs.ReadingLemmas.{reads-once}
use Rattle.nbd_session.proofs.reading.reading_is_unique.Goals as goal

pub returns : goal.returns
returns c = reads-once
