use Rattle.std.proofs.Common.{[]}
use Rattle.std.proofs.lemmas.List.{take_rest}
use Rattle.demo_clients.proofs.ReadBackLemmas.{back_found, back_is, back_reads}
use Rattle.demo_clients.proofs.replies.add_session.Goals as goal

pub returns-in_default : goal.returns-in_default
returns-in_default c seed first own is =
    let found = back_found seed first c.args.blocks c.args.had.now own is in
    let never = rw (take_rest c.args.had.now 104, c.in_default.is) at c.in_ok-reads.ensures in
    never [] found.0 found.1

pub returns-in_default-2 : goal.returns-in_default-2
returns-in_default-2 c seed first own is =
    let dones = rw (take_rest c.args.had.now 104, c.in-Some.is) at c.in_ok-reads.ensures in
    let never = rw c.in_default-2.is at c.in_ok-rest.ensures in
    never own [] (back_reads seed first c.args.blocks c.args.had.now dones.0 c.in-Some.reads.now own
    dones.2 is)

pub returns : goal.returns
returns c seed first =
    let dones = rw (take_rest c.args.had.now 104, c.in-Some.is) at c.in_ok-reads.ensures in
    let reads = rw c.in-Some-2.is at c.in_ok-rest.ensures in
    back_is seed first c.args.blocks c.args.had.now dones.0 c.in-Some.reads.now reads.0
    c.in-Some-2.rest.now c.args.content.now.items c.take_replies.new.content.items
    c.take_replies-2.new.content.items c.is_empty.result c.if-had-lt-HAND.false dones.2 reads.2
    dones.1 reads.1 c.is_empty.ensures
