use Rattle.std.proofs.Common.{sym}
use Rattle.nbd_stream.proofs.HeadLemmas.{head-taken}
use Rattle.nbd_session.proofs.TakenLemmas.{next-joined, next-last}
use Rattle.nbd_session.proofs.requests.next_request.Goals as goal

pub returns-in-None : goal.returns-in-None
returns-in-None g c =
    next-joined c.args.structured _ _ _ c.in-Ok-read.head _
    (head-taken _ _ 28 _ _ c.in-Ok-read.ensures.taken.1 c.in-Ok.ensures) c.behind_head.ensures

pub returns-in-Some : goal.returns-in-Some
returns-in-Some g c =
    next-last c.args.structured _ _ c.in-Ok-read.head c.in-Some.ending
    (head-taken _ _ 28 _ _ c.in-Ok-read.ensures.taken.1 c.in-Ok.ensures)
    c.in-Ok-read.ensures.taken.0 (sym c.in-Some.ensures)
