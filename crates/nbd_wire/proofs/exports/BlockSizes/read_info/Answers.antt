use Rattle.std.proofs.Common.{ap, ◌∙◌, sym, Some, arith}
use Rattle.nbd_wire.specs.Exports.{IsBlockSizes}
use Rattle.nbd_wire.specs.Fields.{u16_text}
use Rattle.nbd_wire.proofs.ExportLemmas.{sizes-once, sizes-there, sizes-type}
use Rattle.nbd_wire.proofs.exports.BlockSizes.read_info.Goals as goal

pub returns-then-u16_at-ne-INFO_BLOCK_SIZE-clause-only :
    goal.returns-then-u16_at-ne-INFO_BLOCK_SIZE-clause-only
returns-then-u16_at-ne-INFO_BLOCK_SIZE-clause-only c = λ blocks is e.
    absurd (c.if-u16_at-ne-INFO_BLOCK_SIZE.true
    (sizes-type c.args.bytes.now blocks c.u16_at.result c.u16_at.type_inv e c.u16_at.ensures))

pub returns-clause-taken : goal.returns-clause-taken
returns-clause-taken c =
    let fields : IsBlockSizes _ = record {
      minimum = c.u32_at.type_inv;
      preferred = c.u32_at-2.type_inv;
      maximum = c.u32_at-3.type_inv;
    } in (
      fields,
      sizes-there c.args.bytes.now _ (omega arith)
          (ap u16_text (sym c.if-u16_at-ne-INFO_BLOCK_SIZE.false) ∙ c.u16_at.ensures)
          c.u32_at.ensures c.u32_at-2.ensures c.u32_at-3.ensures,
    )

pub returns-clause-only : goal.returns-clause-only
returns-clause-only c = λ blocks is e.
    let taken = returns-clause-taken c in
    ap Some (sizes-once _ blocks taken.0 is (taken.1 ∙ sym e))
