use Rattle.std.proofs.Common.{arith}
use Rattle.nbd_wire.proofs.InfoDataLemmas.{data-written}
use Rattle.nbd_wire.proofs.info_data.InfoData.write.Goals as goal

pub returns : goal.returns
returns c =
    data-written c.put.new.bytes c.put-2.new.bytes c.put-3.new.bytes c.put-4.new.bytes
    c.to_be_bytes.result c.args.self.now.name.now c.to_be_bytes-2.result c.args.self.now.types.now
    _ _ (omega arith) (omega arith) (omega (arith, c.requires.room)) c.put.ensures
    c.put-2.ensures c.put-3.ensures c.put-4.ensures c.to_be_bytes.ensures
    (omega (arith, c.requires.asked.name_fits)) c.to_be_bytes-2.ensures
    (omega (arith, c.requires.asked.types_fit))
