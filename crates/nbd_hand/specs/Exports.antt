-- What a client is told of the export.
use Rattle.std.specs.Prelude.{ℕ, Bool, true, false}
use Rattle.nbd_hand.specs.declared.export.Export.{Export}
use Rattle.nbd_wire.specs.declared.exports.BlockSizes.{BlockSizes}
use Rattle.nbd_wire.specs.declared.exports.ExportData.{ExportData}

-- its size and its flags: "has flags" (bit 0), "send flush" (2), "send FUA" (3), "send write
-- zeroes" (6), "can multi conn" (8), and where structured replies were agreed on "send DF" (7)
abbrev pub flags_of : (structured : Bool) → ℕ
flags_of false = 333
flags_of true = 461

abbrev pub export_data : Export → (structured : Bool) → ExportData
export_data export structured =
    record { size = export.size; flags = record { bits = flags_of structured } }

-- the least, the preferred and the most bytes of a block
abbrev pub block_sizes : Export → BlockSizes
block_sizes export = record { minimum = export.atom; preferred = 4096; maximum = 33554432 }
