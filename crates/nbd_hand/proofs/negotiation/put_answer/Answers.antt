use Rattle.nbd_stream.proofs.PutLemmas.{puts-nothing}
use Rattle.nbd_hand.proofs.negotiation.put_answer.Goals as goal

pub returns-in-Unknown-clause-answer : goal.returns-in-Unknown-clause-answer
returns-in-Unknown-clause-answer g c = rw c.in-Unknown.is (puts-nothing _ _)
