use Rattle.std.proofs.Common.{ap, ◌∙◌, sym, Some, arith}
use Rattle.nbd_wire.specs.Exports.{IsExport}
use Rattle.nbd_wire.specs.Fields.{u16_text}
use Rattle.nbd_wire.proofs.ExportLemmas.{info-once, info-there, info-type}
use Rattle.nbd_wire.proofs.exports.ExportData.read_info.Goals as goal

pub returns-then-u16_at-ne-INFO_EXPORT-clause-only :
    goal.returns-then-u16_at-ne-INFO_EXPORT-clause-only
returns-then-u16_at-ne-INFO_EXPORT-clause-only c = λ export is e.
    absurd (c.if-u16_at-ne-INFO_EXPORT.true
    (info-type c.args.bytes.now export c.u16_at.result c.u16_at.type_inv e c.u16_at.ensures))

pub returns-clause-taken : goal.returns-clause-taken
returns-clause-taken c =
    let fields : IsExport _ = record { size = c.u64_at.type_inv; flags = c.u16_at-2.type_inv } in (
      fields,
      info-there c.args.bytes.now _ (omega arith)
          (ap u16_text (sym c.if-u16_at-ne-INFO_EXPORT.false) ∙ c.u16_at.ensures)
          c.u64_at.ensures c.u16_at-2.ensures,
    )

pub returns-clause-only : goal.returns-clause-only
returns-clause-only c = λ export is e.
    let taken = returns-clause-taken c in
    ap Some (info-once _ export taken.0 is (taken.1 ∙ sym e))
