use Rattle.std.proofs.Common.{arith}
use Rattle.nbd_wire.specs.InfoReplies.{info_replies_text}
use Rattle.nbd_wire.proofs.PartLemmas.{replies-joined}
use Rattle.nbd_wire.proofs.info_replies.InfoReplies.write.Goals as goal

pub returns : goal.returns
unfolding info_replies_text
returns c =
    let joined =
    replies-joined c.put.new.bytes c.put-2.new.bytes c.put-3.new.bytes c.put-4.new.bytes
    c.put-5.new.bytes
    c.head.result c.write_info.result c.head-2.result c.write_info-2.result c.head-3.result
    (omega arith) (omega arith) (omega arith) (omega arith) (omega arith) (omega arith)
    c.put.ensures c.put-2.ensures c.put-3.ensures c.put-4.ensures c.put-5.ensures in
    cc
