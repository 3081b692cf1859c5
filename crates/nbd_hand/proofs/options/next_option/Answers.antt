use Rattle.std.proofs.Common.{arith}
use Rattle.nbd_stream.proofs.HeadLemmas.{head-taken}
use Rattle.nbd_hand.proofs.TakenLemmas.{option-whole, option-ended, option-memory, option-fault}
use Rattle.nbd_hand.proofs.options.next_option.Goals as goal

pub returns-in-Whole : goal.returns-in-Whole
returns-in-Whole g c =
    option-whole _ _ _ c.in-Ok.head c.in-Whole.body
    (head-taken _ _ 16 _ _ c.in-Ok.ensures.taken.1 c.in_ok-take_head.ensures)
    c.in-Ok.ensures.taken.0 (omega arith) c.in-Whole.ensures

pub returns-in-Ended : goal.returns-in-Ended
returns-in-Ended g c =
    option-ended _ _ _ c.in-Ok.head c.in-Ended.n
    (head-taken _ _ 16 _ _ c.in-Ok.ensures.taken.1 c.in_ok-take_head.ensures)
    c.in-Ok.ensures.taken.0 (omega arith) c.in-Ended.ensures

pub returns-in-NoMemory : goal.returns-in-NoMemory
returns-in-NoMemory g c =
    option-memory _ _ _ c.in-Ok.head
    (head-taken _ _ 16 _ _ c.in-Ok.ensures.taken.1 c.in_ok-take_head.ensures)
    c.in-Ok.ensures.taken.0 (omega arith) c.in-NoMemory.ensures

pub returns : goal.returns
returns g c =
    option-fault _ _ _ c.in-Ok.head
    (head-taken _ _ 16 _ _ c.in-Ok.ensures.taken.1 c.in_ok-take_head.ensures)
    c.in-Ok.ensures.taken.0 (omega arith) c.in-Fault.ensures
