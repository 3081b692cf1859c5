use Rattle.nbd_wire.proofs.ReadReplying.TextLemmas.{parts-once}
use Rattle.nbd_wire.proofs.read_replies.spelling.replies_are_told_apart.Goals as goal

pub returns : goal.returns
returns c = parts-once
