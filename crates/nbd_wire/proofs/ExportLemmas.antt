-- The texts of exports and of the sizes of their blocks.
use Rattle.std.proofs.Common.{◌≡◌, ℕ, ◌^◌, ◌<◌, List, length, arith, slice_range}
use Rattle.nbd_wire.specs.declared.exports.BlockSizes.{BlockSizes}
use Rattle.nbd_wire.specs.declared.exports.ExportData.{ExportData}
use Rattle.nbd_wire.specs.Exports.{IsExport, IsBlockSizes, export_text, export_info_text}
use Rattle.nbd_wire.specs.Exports.{block_size_text}
use Rattle.nbd_wire.specs.Fields.{u16_text, u32_text, u64_text}
use Rattle.nbd_wire.proofs.FieldLemmas.{u16-first, u32-first, u64-first, u16-front, field-behind}
use Rattle.nbd_wire.proofs.FieldLemmas.{nothing-behind}

-- a text is that of one export, and of one set of sizes
pub info-once : (a b : ExportData) → IsExport a → IsExport b
    → export_info_text a ≡ export_info_text b → a ≡ b
unfolding export_info_text
info-once a b ia ib e =
    let type = u16-first _ _ _ _ (omega arith) (omega arith) e in
    let size = u64-first _ _ _ _ ia.size ib.size type.1 in
    let flags = u16-first _ _ _ _ ia.flags ib.flags size.1 in
    let same : ◌≡◌ {A = ExportData}
    (record { size = a.size; flags = record { bits = a.flags.bits } })
    (record { size = b.size; flags = record { bits = b.flags.bits } }) = cc in
    same

pub sizes-once : (a b : BlockSizes) → IsBlockSizes a → IsBlockSizes b
    → block_size_text a ≡ block_size_text b → a ≡ b
unfolding block_size_text
sizes-once a b ia ib e =
    let type = u16-first _ _ _ _ (omega arith) (omega arith) e in
    let minimum = u32-first _ _ _ _ ia.minimum ib.minimum type.1 in
    let preferred = u32-first _ _ _ _ ia.preferred ib.preferred minimum.1 in
    let maximum = u32-first _ _ _ _ ia.maximum ib.maximum preferred.1 in
    let same : ◌≡◌ {A = BlockSizes}
    (record { minimum = a.minimum; preferred = a.preferred; maximum = a.maximum })
    (record { minimum = b.minimum; preferred = b.preferred; maximum = b.maximum }) = cc in
    same

-- the one whose fields stand at their places
pub export-there : (bytes : List ℕ) (export : ExportData) → length bytes ≡ 10
    → u64_text export.size ≡ slice_range bytes 0 8
    → u16_text export.flags.bits ≡ slice_range bytes 8 10 → export_text export ≡ bytes
unfolding export_text
export-there bytes export whole size flags =
    field-behind bytes _ _ 0 8 (omega arith) size
    (field-behind bytes _ _ 8 10 (omega arith) flags (nothing-behind bytes 10 whole))

pub info-there : (bytes : List ℕ) (export : ExportData) → length bytes ≡ 12
    → u16_text 0 ≡ slice_range bytes 0 2 → u64_text export.size ≡ slice_range bytes 2 10
    → u16_text export.flags.bits ≡ slice_range bytes 10 12 → export_info_text export ≡ bytes
unfolding export_info_text
info-there bytes export whole type size flags =
    field-behind bytes _ _ 0 2 (omega arith) type
    (field-behind bytes _ _ 2 10 (omega arith) size
    (field-behind bytes _ _ 10 12 (omega arith) flags (nothing-behind bytes 12 whole)))

pub sizes-there : (bytes : List ℕ) (blocks : BlockSizes) → length bytes ≡ 14
    → u16_text 3 ≡ slice_range bytes 0 2 → u32_text blocks.minimum ≡ slice_range bytes 2 6
    → u32_text blocks.preferred ≡ slice_range bytes 6 10
    → u32_text blocks.maximum ≡ slice_range bytes 10 14 → block_size_text blocks ≡ bytes
unfolding block_size_text
sizes-there bytes blocks whole type minimum preferred maximum =
    field-behind bytes _ _ 0 2 (omega arith) type
    (field-behind bytes _ _ 2 6 (omega arith) minimum
    (field-behind bytes _ _ 6 10 (omega arith) preferred
    (field-behind bytes _ _ 10 14 (omega arith) maximum (nothing-behind bytes 14 whole))))

-- a text has its type at its front
pub info-type : (bytes : List ℕ) (export : ExportData) (n : ℕ) → n < 2 ^ 16
    → export_info_text export ≡ bytes → u16_text n ≡ slice_range bytes 0 2 → n ≡ 0
unfolding export_info_text
info-type bytes export n hn e here = u16-front 0 n _ bytes (omega arith) hn e here

pub sizes-type : (bytes : List ℕ) (blocks : BlockSizes) (n : ℕ) → n < 2 ^ 16
    → block_size_text blocks ≡ bytes → u16_text n ≡ slice_range bytes 0 2 → n ≡ 3
unfolding block_size_text
sizes-type bytes blocks n hn e here = u16-front 3 n _ bytes (omega arith) hn e here
