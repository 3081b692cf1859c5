use Rattle.std.proofs.Common.{◌∙◌, sym}
use Rattle.nbd_stream.proofs.HeadLemmas.{data-as}
use Rattle.nbd_session.proofs.TakenLemmas.{behind-asks, behind-refuses, behind-cut, behind-fault}
use Rattle.nbd_session.proofs.TakenLemmas.{flags-refused, memory-refused}
use Rattle.nbd_session.proofs.requests.behind_head.Goals as goal

pub refuse-requires-clause-refused : goal.refuse-requires-clause-refused
refuse-requires-clause-refused g c = λ body size.
    flags-refused c.args.structured c.args.head.now body
    (sym c.are_allowed.ensures ∙ c.if-not-are_allowed.true)

pub refuse-requires-in-NoMemory-clause-refused : goal.refuse-requires-in-NoMemory-clause-refused
refuse-requires-in-NoMemory-clause-refused g c = λ body size.
    memory-refused c.args.structured c.args.head.now body
    (sym c.are_allowed.ensures ∙ c.if-not-are_allowed.false)
    (data-as _ _ _ _ _ c.data_length.ensures c.in-NoMemory.ensures).1.by_case.0

pub returns-in-Some : goal.returns-in-Some
returns-in-Some g c =
    behind-asks c.args.structured _ _ c.args.head.now c.in-Whole.body c.of-form.result c.in-Some.op
    c.requires.head c.requires.goes_on c.of-form.ensures c.in-Some.ensures
    (data-as _ _ _ _ _ c.data_length.ensures c.in-Whole.ensures)

pub returns-in-None : goal.returns-in-None
returns-in-None g c =
    behind-refuses c.args.structured _ _ c.args.head.now c.in-Whole.body c.of-form.result
    c.requires.head c.requires.goes_on c.of-form.ensures c.in-None.ensures
    (data-as _ _ _ _ _ c.data_length.ensures c.in-Whole.ensures)

pub returns-in-Ended : goal.returns-in-Ended
returns-in-Ended g c =
    let more = data-as _ _ _ _ _ c.data_length.ensures c.in-Ended.ensures in
    behind-cut c.args.structured _ _ c.args.head.now c.in-Ended.n more.0 c.requires.head
    c.requires.goes_on more.1.takes more.1.by_case.0 more.1.by_case.1 more.1.by_case.2
    more.1.by_case.3

pub returns-in-Fault : goal.returns-in-Fault
returns-in-Fault g c =
    let more = data-as _ _ _ _ _ c.data_length.ensures c.in-Fault.ensures in
    behind-fault c.args.structured _ _ c.args.head.now more.0 c.requires.head c.requires.goes_on
    more.1.takes more.1.by_case.0 more.1.by_case.1
