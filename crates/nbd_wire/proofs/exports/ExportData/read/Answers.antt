use Rattle.std.proofs.Common.{arith}
use Rattle.nbd_wire.proofs.ExportLemmas.{export-there}
use Rattle.nbd_wire.proofs.exports.ExportData.read.Goals as goal

pub returns-clause-text : goal.returns-clause-text
returns-clause-text c =
    export-there c.args.bytes.now _ (omega arith) c.u64_at.ensures c.u16_at.ensures
