use Rattle.std.proofs.Common.{arith}
use Rattle.nbd_wire.proofs.ReadReplying.TextLemmas.{front-joined}
use Rattle.nbd_wire.proofs.read_replies.front.Front.joined.Goals as goal

pub returns : goal.returns
returns c =
    front-joined c.args.head.now c.args.behind.now c.copy_from_slice.new.self
    c.copy_from_slice-2.new.self _ _ c.copy_from_slice.ensures.after
    c.copy_from_slice-2.ensures.after (omega arith)
