use Rattle.std.proofs.Common.{arith}
use Rattle.nbd_wire.proofs.PartLemmas.{list-written}
use Rattle.nbd_wire.proofs.list_replies.ListReplies.write.Goals as goal

pub returns : goal.returns
returns c =
    list-written c.put.new.bytes c.put-2.new.bytes c.put-3.new.bytes c.put-4.new.bytes
    c.head.result c.to_be_bytes.result c.args.self.now.name.now c.head-2.result _ _ (omega arith)
    (omega arith) (omega arith) (omega (arith, c.requires.room)) c.put.ensures c.put-2.ensures
    c.put-3.ensures c.put-4.ensures c.head.ensures (omega (arith, c.requires.name))
    c.to_be_bytes.ensures (omega (arith, c.requires.name)) c.head-2.ensures
