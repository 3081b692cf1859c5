use Rattle.std.proofs.Common.{arith}
use Rattle.nbd_stream.proofs.HeadLemmas.{dropped-as}
use Rattle.nbd_session.proofs.TakenLemmas.{behind-cut, behind-fault, behind-dropped}
use Rattle.nbd_session.proofs.requests.refuse.Goals as goal

pub returns-in-Whole : goal.returns-in-Whole
returns-in-Whole g c =
    behind-dropped c.args.structured _ _ c.args.head.now c.of.result c.args.number c.requires.head
    c.requires.goes_on c.of.ensures c.requires.refused
    (dropped-as _ _ _ _ _ c.data_length.ensures c.in-Whole.ensures)

pub returns-in-Ended : goal.returns-in-Ended
returns-in-Ended g c =
    let more = dropped-as _ _ _ _ _ c.data_length.ensures c.in-Ended.ensures in
    behind-cut c.args.structured _ _ c.args.head.now c.in-Ended.n more.0 c.requires.head
    c.requires.goes_on more.1.takes more.1.count more.1.fewer.0 more.1.fewer.1 more.1.fewer.2

pub returns-in-Fault : goal.returns-in-Fault
returns-in-Fault g c =
    let more = dropped-as _ _ _ _ _ c.data_length.ensures c.in-Fault.ensures in
    behind-fault c.args.structured _ _ c.args.head.now more.0 c.requires.head c.requires.goes_on
    more.1.takes (omega (arith, more.1.count, more.1.fewer.0)) more.1.fewer.1
