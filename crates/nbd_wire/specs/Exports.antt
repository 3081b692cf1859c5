-- What a client is told of an export ("NBD_OPT_EXPORT_NAME" and "Information types" of the NBD
-- protocol document).
use Rattle.std.specs.Prelude.{ℕ, ◌<◌, ◌^◌, List, [], ◌∷◌}
use Rattle.nbd_wire.specs.declared.exports.BlockSizes.{BlockSizes}
use Rattle.nbd_wire.specs.declared.exports.ExportData.{ExportData}
use Rattle.nbd_wire.specs.Fields.{message, u16_text, u32_text, u64_text}

-- The fields are in their ranges.
pub record IsExport (export : ExportData) : Type 0 where
  pub size : export.size < 2 ^ 64
  pub flags : export.flags.bits < 2 ^ 16

pub record IsBlockSizes (blocks : BlockSizes) : Type 0 where
  pub minimum : blocks.minimum < 2 ^ 32
  pub preferred : blocks.preferred < 2 ^ 32
  pub maximum : blocks.maximum < 2 ^ 32

-- u64 size, u16 transmission flags
unfoldable pub export_text : ExportData → List ℕ
export_text export = message (u64_text export.size ∷ u16_text export.flags.bits ∷ [])

-- u16 information type 0, u64 size, u16 transmission flags
unfoldable pub export_info_text : ExportData → List ℕ
export_info_text export =
    message (u16_text 0 ∷ u64_text export.size ∷ u16_text export.flags.bits ∷ [])

-- u16 information type 3, u32 least, preferred and greatest size of a block
unfoldable pub block_size_text : BlockSizes → List ℕ
block_size_text blocks =
    message (u16_text 3 ∷ u32_text blocks.minimum ∷ u32_text blocks.preferred
    ∷ u32_text blocks.maximum ∷ [])
