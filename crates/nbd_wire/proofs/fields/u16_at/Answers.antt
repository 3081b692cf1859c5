use Rattle.nbd_wire.proofs.FieldLemmas.{u16-there}
use Rattle.nbd_wire.proofs.fields.u16_at.Goals as goal

pub returns : goal.returns
returns c =
    u16-there c.args.bytes.now c.args.at c.from_be_bytes.result c.requires c.type_inv.bytes
    c.from_be_bytes.ensures
